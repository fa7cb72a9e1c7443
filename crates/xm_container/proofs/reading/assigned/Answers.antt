use Rattle.std.proofs.Common.{◌≡◌, ℕ, ◌<◌, List, None, refl, sym, ap, subst, ◌∙◌}
use Rattle.std.specs.Prelude.{All}
use Rattle.xm_container.specs.Numbers.{extra, missing}
use Rattle.xm_container.proofs.AssignedLemmas.{assigned_counted, assigned_so}
use Rattle.xm_container.proofs.reading.assigned.Goals as goal

pub new-requires : goal.new-requires
new-requires c =
    let count = c.count_of-count.result in
    let ids = c.entries.inside.ids.items in
    let below : All (λ id. id < count) ids = subst (λ (list : List ℕ). All (λ id. id < count) list) c.deref.ensures.value (c.in_default.ensures.below refl) in
    let none : missing count ids ≡ None = ap (missing count) (sym c.deref-2.ensures.value) ∙ sym c.in_default-missing.ensures in
    assigned_counted count c.args.entries ids c.entries.inside.images.items c.entries.view_is c.requires below none ∙ c.count_of-count.ensures.value

pub returns-in-Ok : goal.returns-in-Ok
returns-in-Ok c =
    let count = c.count_of-count.result in
    let ids = c.entries.inside.ids.items in
    let no_extra : extra count ids ≡ None = ap (extra count) (sym c.deref.ensures.value) ∙ sym c.in_default.ensures.value in
    let no_missing : missing count ids ≡ None = ap (missing count) (sym c.deref-2.ensures.value) ∙ sym c.in_default-missing.ensures in
    assigned_so c.args.conf count c.args.entries ids c.entries.inside.images.items c.in-Ok.system c.entries.view_is c.count_of-count.ensures.value no_extra no_missing
    (c.in-Ok.ensures.inside.0 refl) c.in-Ok.ensures.value
