use Rattle.std.proofs.Common.{ℕ, ◌<◌, ◌≤◌}
use Rattle.span_model.specs.Passes.{part_at}
use Rattle.case_suite.proofs.ticking.are_logs_short.Given as goal

abbrev pub invariant-loop-part : goal.invariant-loop-part
invariant-loop-part l = (q : ℕ) → q < l.part → (part_at q l.machine.state).health.next ≤ l.machine.state.ticks
