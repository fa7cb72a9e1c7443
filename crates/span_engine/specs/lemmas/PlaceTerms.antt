-- For proofs and private clauses: where in its plan a machine stands.
use Rattle.std.specs.Prelude.{ℕ, ◌+◌, ◌-◌, false, if◌then◌else◌, Option, None, Some}
use Rattle.cyclic_plans.specs.PlanClock.{moment}
use Rattle.cyclic_plans.specs.Slots.{covers, here_in}
use Rattle.cyclic_plans.specs.declared.slots.Here.{Here}
use Rattle.xm_base.specs.Options.{on}
use Rattle.xm_conf.specs.declared.plan.Slot.{Slot}
use Rattle.span_engine.specs.declared.place.Place.{Place}

-- what is reported of a slot past its first tick
abbrev pub past_first_tick : Here → Here
past_first_tick slot = record { slot = slot.slot; part = slot.part; first = false }

-- the place this many ticks later, in the same slot or gap
abbrev pub place_after : ℕ → Place → Place
place_after ticks place = record { slot = on past_first_tick place.slot; left = place.left - ticks }

-- the place in the slot of a number, where it runs at a moment of the frame
abbrev pub place_in : ℕ → ℕ → Slot → Option Place
place_in moment number slot =
    if covers moment slot
    then Some (record { slot = Some (here_in moment (number, slot)); left = slot.start + slot.duration - moment })
    else None

abbrev pub place_numbered : ℕ → ℕ → Option Slot → Option Place
place_numbered moment number None = None
place_numbered moment number (Some slot) = place_in moment number slot
