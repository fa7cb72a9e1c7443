use Rattle.std.proofs.Common.{◌≤◌, length, sum_by, sym, ap, subst, ◌∙◌}
use Rattle.cue_scripts.specs.Entries.{cue_count}
use Rattle.cue_scripts.specs.Values.{entry_value}
use Rattle.cue_scripts.proofs.CountLemmas.{length_expanded}
use Rattle.cue_scripts.proofs.script.Script.count.Goals as goal

pub count_all-requires : goal.count_all-requires
count_all-requires c = rw c.deref.ensures.value (subst (λ n. n ≤ 4000000000) (length_expanded c.self.inside.entries.items) c.self.invariant.few)

pub returns : goal.returns
returns c =
    c.count_all.ensures ∙ ap (sum_by (λ entry. cue_count (entry_value entry))) c.deref.ensures.value ∙ sym (length_expanded c.self.inside.entries.items)
    ∙ ap length c.self.view_is
