-- Requirements worked by hand, and the plans that are made from them.
use Rattle.std.specs.Prelude.{◌≡◌, ℕ, List, [], ◌∷◌, Ok, Err}
use Rattle.xm_conf.specs.declared.plan.Slot.{Slot}
use Rattle.plan_maker.specs.Planned.{planned}
use Rattle.fault_messages.specs.declared.fault.PlanFault.TheVariants.{NoNeed, Period, Overload}
use Rattle.plan_maker.specs.declared.jobs.Requirement.{Requirement}

-- a partition needs this many ticks in each period
abbrev pub need : ℕ → ℕ → ℕ → Requirement
need part duration period = record { part = part; duration = duration; period = period }

-- a slot by its start, its duration and its partition
abbrev pub slot_by_start : ℕ → ℕ → ℕ → Slot
slot_by_start start duration part = record { start = start; duration = duration; part = part }

-- what is made of requirements is a plan of a frame with slots
abbrev pub MakesPlan : List Requirement → ℕ → List Slot → Type 0
MakesPlan requirements frame slots = planned requirements ≡ Ok (record { frame = frame; slots = slots })

-- the rows
pub record AreWorked : Type 0 where
  pub none : planned [] ≡ Err NoNeed
  pub alone : MakesPlan (need 3 2 5 ∷ []) 5 (slot_by_start 0 2 3 ∷ [])
  pub whole : MakesPlan (need 0 3 3 ∷ []) 3 (slot_by_start 0 3 0 ∷ [])
  pub turns : MakesPlan (need 0 2 4 ∷ need 1 3 6 ∷ []) 12 (slot_by_start 0 2 0 ∷ slot_by_start 2 3 1 ∷ slot_by_start 5 2 0 ∷ slot_by_start 7 1 1 ∷ slot_by_start 8 2 0 ∷ slot_by_start 10 2 1 ∷ [])
  pub tie : MakesPlan (need 0 1 4 ∷ need 2 1 4 ∷ []) 4 (slot_by_start 0 1 0 ∷ slot_by_start 1 1 2 ∷ [])
  pub coprime : MakesPlan (need 0 1 2 ∷ need 1 1 3 ∷ []) 6 (slot_by_start 0 1 0 ∷ slot_by_start 1 1 1 ∷ slot_by_start 2 1 0 ∷ slot_by_start 3 1 1 ∷ slot_by_start 4 1 0 ∷ [])
  pub overload : planned (need 0 2 4 ∷ need 1 4 6 ∷ []) ≡ Err (Overload 14 12)
  pub long : planned (need 0 1 1000000 ∷ need 5 1 3 ∷ []) ≡ Err (Period 5)
