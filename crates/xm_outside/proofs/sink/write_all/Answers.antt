use Rattle.std.proofs.Common.{ℕ, ◌∙◌, arith}
use Rattle.std.proofs.lemmas.List.{length-take, length-drop}
use Rattle.xm_outside.proofs.GrowthLemmas.{taken_more}
use Rattle.xm_outside.proofs.sink.write_all.Goals as goal

pub loop-done-preserved : goal.loop-done-preserved
loop-done-preserved g c = (
  omega (arith, c.in_ok-done.ensures.bound, length-take {A = ℕ}, length-drop {A = ℕ}),
  taken_more _ _ _ c.args.bytes.now c.loop-done.done c.in_ok-done.field-0 c.loop-done.invariant.1 c.in_ok-done.ensures.got,
  c.in_ok-done.ensures.cause ∙ c.loop-done.invariant.2,
)
