-- The slots of a plan: which runs at a moment of the major frame, and how long that stays so.
use Rattle.std.specs.Prelude.{◌≡◌, ◌↔◌, ℕ, ◌+◌, ◌<◌, ◌≤◌, ◌==◌, ◌&&◌, Bool, nat_lt, nat_le, if◌then◌else◌, IsTrue, List, [], ◌∷◌, All, IsSomeAnd, slice_get, map, filter, fold, min, Option, Some, None}
use Rattle.xm_conf.specs.Configuration.{Conf, Plan}
use Rattle.xm_conf.specs.declared.plan.Slot.{Slot}
use Rattle.cyclic_plans.specs.declared.slots.Here.{Here}

-- the slot runs at the moment: it has begun, and has not ended
abbrev pub Covers : ℕ → Slot → Type 0
Covers moment slot = (slot.start ≤ moment) × (moment < slot.start + slot.duration)

-- whether the slot runs at the moment
abbrev pub covers : ℕ → Slot → Bool
covers moment slot = nat_le slot.start moment && nat_lt moment (slot.start + slot.duration)

-- the slots of a plan, none where there is no such plan
abbrev pub slots_in : Option Plan → List Slot
slots_in None = []
slots_in (Some plan) = plan.slots

-- the length of a plan's frame, 0 where there is no such plan
abbrev pub frame_in : Option Plan → ℕ
frame_in None = 0
frame_in (Some plan) = plan.frame

-- the slots of the plan of a number
unfoldable pub slots_of : Conf → ℕ → List Slot
slots_of conf plan = slots_in (slice_get conf.plans plan)

-- the length of the frame of the plan of a number
unfoldable pub frame_of : Conf → ℕ → ℕ
frame_of conf plan = frame_in (slice_get conf.plans plan)

-- the slot that runs at a moment, with its number, where the first of these slots has a number
abbrev pub slot_from : ℕ → ℕ → List Slot → Option (ℕ × Slot)
slot_from moment number [] = None
slot_from moment number (slot ∷ rest) = if covers moment slot then Some (number, slot) else slot_from moment (number + 1) rest

-- what runs at a moment in a slot with its number
abbrev pub here_in : ℕ → ℕ × Slot → Here
here_in moment found = record { slot = found.0; part = found.1.part; first = found.1.start == moment }

-- what runs at a moment is this slot
pub record RunsIn (moment : ℕ) (here : Here) (slot : Slot) : Type 0 where
  pub part : here.part ≡ slot.part
  pub covers : Covers moment slot
  pub first : IsTrue here.first ↔ (slot.start ≡ moment)

-- what runs at a moment is one of the slots
abbrev pub IsHere : ℕ → List Slot → Here → Type 0
IsHere moment slots here = IsSomeAnd (slice_get slots here.slot) (RunsIn moment here)

-- no slot runs at the moment
abbrev pub IsGap : ℕ → List Slot → Type 0
IsGap moment slots = All (λ slot. ¬ (Covers moment slot)) slots

-- the end of a gap: the least start past the moment, or the end of the frame where no slot starts past it
abbrev pub gap_end : ℕ → ℕ → List Slot → ℕ
gap_end frame moment slots = fold min frame (filter (nat_lt moment) (map (λ slot. slot.start) slots))

-- the end of the slot that was found, or of the gap where none was
abbrev pub slot_or_gap_end : ℕ → ℕ → List Slot → Option (ℕ × Slot) → ℕ
slot_or_gap_end frame moment slots None = gap_end frame moment slots
slot_or_gap_end frame moment slots (Some found) = found.1.start + found.1.duration

-- the end of the slot that runs at a moment, or of the gap
abbrev pub stretch_end : ℕ → ℕ → List Slot → ℕ
stretch_end frame moment slots = slot_or_gap_end frame moment slots (slot_from moment 0 slots)
