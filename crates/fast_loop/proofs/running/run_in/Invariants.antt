use Rattle.std.proofs.Common.{◌≡◌}
use Rattle.fast_loop.specs.lemmas.Coming.{left_at}
use Rattle.fast_loop.specs.Keeping.{AreRowsOf}
use Rattle.fast_loop.proofs.RunningLemmas.{IsRunning}
use Rattle.fast_loop.proofs.running.run_in.Given as goal

abbrev pub invariant-loop-at : goal.invariant-loop-at
invariant-loop-at g l = record {
  running : IsRunning l.origin l.fn.from l.most l.at l.limit (g.B.Bus.areas l.fn.bus) l.fn.own l.own (g.B.Bus.memory l.fn.bus) (g.B.Bus.memory l.bus);
  rows : AreRowsOf l.rows (g.B.Bus.areas l.bus) (g.B.Bus.memory l.bus) l.origin;
  areas : g.B.Bus.areas l.bus ≡ g.B.Bus.areas l.fn.bus;
  others : g.B.Bus.others l.bus ≡ g.B.Bus.others l.fn.bus;
}

abbrev pub decreases-loop-at : goal.decreases-loop-at
decreases-loop-at g l = left_at l.at l.limit
