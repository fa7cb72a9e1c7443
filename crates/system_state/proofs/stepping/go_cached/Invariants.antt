use Rattle.std.proofs.Common.{◌≡◌, ◌≤◌, ◌-◌}
use Rattle.fast_loop.specs.Runs.{AreSteps}
use Rattle.system_state.proofs.stepping.go_cached.Given as goal

abbrev pub invariant-loop-left : goal.invariant-loop-left
invariant-loop-left g l = record {
  steps : AreSteps (l.most - l.left) (g.B.Bus.areas l.fn.bus) l.fn.own (g.B.Bus.memory l.fn.bus) l.own (g.B.Bus.memory l.bus);
  few : l.left ≤ l.most;
  areas : g.B.Bus.areas l.bus ≡ g.B.Bus.areas l.fn.bus;
  others : g.B.Bus.others l.bus ≡ g.B.Bus.others l.fn.bus;
}

abbrev pub decreases-loop-left : goal.decreases-loop-left
decreases-loop-left g l = l.left
