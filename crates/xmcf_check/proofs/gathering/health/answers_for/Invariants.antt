use Rattle.std.proofs.Common.{◌≡◌, ◌++◌, drop}
use Rattle.std.specs.Prelude.{flat_map}
use Rattle.xmcf_check.specs.Described.{answers_to}
use Rattle.xmcf_check.proofs.gathering.health.answers_for.Given as goal

abbrev pub invariant-loop-event : goal.invariant-loop-event
invariant-loop-event l = l.answers.items ++ flat_map (answers_to l.given) (drop l.event-index l.events) ≡ flat_map (answers_to l.given) l.events
