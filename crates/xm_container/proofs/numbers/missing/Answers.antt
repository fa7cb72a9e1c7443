use Rattle.std.proofs.Common.{not, rules}
use Rattle.xm_container.specs.Numbers.{has_id, missing}
use Rattle.xm_container.proofs.NumberLemmas.{least_on, least_here, least_done}
use Rattle.xm_container.proofs.numbers.missing.Goals as goal

pub returns-then-not-has_id : goal.returns-then-not-has_id
unfolding missing
returns-then-not-has_id c = least_here (λ id. not (has_id c.args.ids.now id)) c.args.parts c.loop-id.id _ c.loop-id-test.true (search rules) c.loop-id.invariant

pub loop-id-preserved : goal.loop-id-preserved
loop-id-preserved c = least_on (λ id. not (has_id c.args.ids.now id)) c.args.parts c.loop-id.id _ c.loop-id-test.true (search rules) c.loop-id.invariant

pub returns : goal.returns
unfolding missing
returns c = least_done (λ id. not (has_id c.args.ids.now id)) c.args.parts c.loop-id.id _ c.loop-id-test.false c.loop-id.invariant
