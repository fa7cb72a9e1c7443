use Rattle.std.proofs.Common.{rules, refl, sym, ◌∙◌, ◌≤◌, ◌<◌, length}
use Rattle.xm_conf.specs.lemmas.AlongLemmas.{each_goes_on, each_stops, each_ends}
use Rattle.xm_conf.proofs.first.first_of_each.Goals as goal

pub loop-n-init : goal.loop-n-init
loop-n-init g c = record { rest = λ f adds. refl; few = search rules }

pub returns-then-is_some : goal.returns-then-is_some
returns-then-is_some g c = λ f adds.
    let below : c.loop-n.n < length c.args.items.now = search rules in
    each_stops f c.args.items.now c.loop-n.n _ _ _ _ below c.index-items-n.is (adds _ _ _ c.adds-found.ensures) (sym c.is_some.ensures ∙ c.if-is_some.true) (c.loop-n.invariant.rest f adds)

pub loop-n-preserved : goal.loop-n-preserved
loop-n-preserved g c =
    let below : c.loop-n.n < length c.args.items.now = search rules in
    let none = sym c.is_some.ensures ∙ c.if-is_some.false in
    record {
      rest = λ f adds. each_goes_on f c.args.items.now c.loop-n.n _ _ _ _ below c.index-items-n.is (adds _ _ _ c.adds-found.ensures) none (c.loop-n.invariant.rest f adds);
      few = let next : c.loop-n.n < 255 = c.requires.few _ _ _ below (search rules) c.adds-found.ensures none in search rules;
    }

pub returns : goal.returns
returns g c = λ f adds.
    let past : length c.args.items.now ≤ c.loop-n.n = search rules in
    each_ends f c.args.items.now c.loop-n.n _ past (c.loop-n.invariant.rest f adds)
