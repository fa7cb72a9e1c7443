use Rattle.fast_loop.proofs.SixteenLemmas.{HasNoneOf}
use Rattle.fast_loop.proofs.moving.has_some.Given as goal

abbrev pub invariant-loop-k : goal.invariant-loop-k
invariant-loop-k l = HasNoneOf l.rows l.origin l.address l.k
