use Rattle.std.proofs.Common.{◌≡◌, drop}
use Rattle.std.specs.Prelude.{flat_map}
use Rattle.xmcf_check.specs.Places.{event_items, place_nth}
use Rattle.xmcf_check.proofs.places.nth_answer.Given as goal

abbrev pub invariant-loop-event : goal.invariant-loop-event
invariant-loop-event l = place_nth l.left (flat_map (event_items l.entries l.part) (drop l.event-index l.events)) ≡ place_nth l.n (flat_map (event_items l.entries l.part) l.events)
