-- The slot is among those that are still to be seen.
use Rattle.std.proofs.Common.{◌≡◌, drop}
use Rattle.cyclic_plans.specs.Slots.{slot_from}
use Rattle.cyclic_plans.proofs.slots.slot_at.Given as goal

abbrev pub invariant-loop-number : goal.invariant-loop-number
invariant-loop-number l = slot_from l.moment l.number (drop l.number l.slots) ≡ slot_from l.moment 0 l.slots
