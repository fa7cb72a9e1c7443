use Rattle.std.proofs.Common.{drop}
use Rattle.xm_machine.proofs.UpsetLemmas.{AreStriking}
use Rattle.xm_machine.proofs.upset.strike_all.Given as goal

abbrev pub invariant-loop-line : goal.invariant-loop-line
invariant-loop-line l = AreStriking l.lines (drop l.line-index l.lines) l.fn.sys l.sys
