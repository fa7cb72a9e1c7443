use Rattle.std.proofs.Common.{sym, ◌≡◌, None, arith, rules}
use Rattle.xm_container.specs.Numbers.{extra, has_id}
use Rattle.xm_container.proofs.NumberLemmas.{all_below, least_on, least_here, least_done}
use Rattle.xm_container.proofs.numbers.extra.Goals as goal

pub returns-then-has_id-clause-value : goal.returns-then-has_id-clause-value
unfolding extra
returns-then-has_id-clause-value c = least_here (has_id c.args.ids.now) 256 c.loop-id.id _ c.loop-id-test.true (search rules) c.loop-id.invariant

pub loop-id-preserved : goal.loop-id-preserved
loop-id-preserved c = least_on (has_id c.args.ids.now) 256 c.loop-id.id _ c.loop-id-test.true (search rules) c.loop-id.invariant

pub returns-clause-value : goal.returns-clause-value
unfolding extra
returns-clause-value c = least_done (has_id c.args.ids.now) 256 c.loop-id.id _ c.loop-id-test.false c.loop-id.invariant

pub returns-clause-below : goal.returns-clause-below
returns-clause-below c = λ _.
    let none : extra c.args.parts c.args.ids.now ≡ None = sym (returns-clause-value c) in
    all_below c.args.parts c.args.ids.now (omega (arith, c.requires)) (λ i. omega (arith, c.type_inv.ids i)) none
