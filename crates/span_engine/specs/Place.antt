-- Where in its plan a machine stands.
use Rattle.std.specs.Prelude.{◌≡◌, ◌<◌, ◌≤◌, IfSome}
use Rattle.cyclic_plans.specs.PlanClock.{here, moment, ticks_left}
use Rattle.cyclic_plans.specs.Slots.{IsHere, covers, slots_of}
use Rattle.machine_model.specs.Machine.{Machine}
use Rattle.span_model.specs.Spans.{IsStretch}
use Rattle.span_engine.specs.declared.place.Place.{Place}

-- whose slot it is, and this many ticks of the slot or gap
pub record IsAt (place : Place) (g : Machine) : Type 0 where
  pub slot : place.slot ≡ here g.system.conf g.clock g.time
  pub covers : IfSome place.slot (IsHere (moment g.clock g.time) (slots_of g.system.conf g.clock.plan))
  pub stretch : IsStretch g place.left
  pub begun : g.clock.frame_start ≤ g.time
  pub some : 0 < place.left

-- the same, and these ticks are all that are left of it
pub record IsPlace (place : Place) (g : Machine) : Type 0 where
  pub at : IsAt place g
  pub left : place.left ≡ ticks_left g.system.conf g.clock g.time
