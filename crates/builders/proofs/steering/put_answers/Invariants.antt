-- The lines so far, and those of the events that follow.
use Rattle.std.proofs.Common.{◌≡◌, ◌++◌, drop}
use Rattle.std.specs.Prelude.{flat_map}
use Rattle.health_monitor.specs.Monitor.{action_in}
use Rattle.builders.specs.Steering.{answer_lines}
use Rattle.builders.proofs.steering.put_answers.Given as goal

abbrev pub invariant-loop-event : goal.invariant-loop-event
invariant-loop-event l =
    l.lines.items ++ flat_map (λ event. answer_lines l.p event (action_in l.table event)) (drop l.event-index l.events)
    ≡ l.fn.lines.items ++ flat_map (λ event. answer_lines l.p event (action_in l.table event)) l.events
