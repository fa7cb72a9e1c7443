-- The plan that is made from requirements, or why there is none; and whether a plan meets a requirement.
use Rattle.std.specs.Prelude.{◌≡◌, ◌≢◌, ℕ, ◌+◌, ◌*◌, ◌<◌, ◌≤◌, ◌%◌, nat_lt, if◌then◌else◌, ⊤, List, [], ◌∷◌, length, All, Option, None, IsSomeAnd, Result, Ok, Err}
use Rattle.xm_conf.specs.Configuration.{Plan}
use Rattle.xm_conf.specs.Fits.{IsTime, InFrame, InTurn}
use Rattle.xm_conf.specs.declared.part.Need.{Need}
use Rattle.xm_conf.specs.declared.plan.Slot.{Slot}
use Rattle.plan_maker.specs.Course.{course_of, slots_so_far}
use Rattle.plan_maker.specs.Needed.{common_period, demand}
use Rattle.plan_maker.specs.Served.{window_time}
use Rattle.fault_messages.specs.declared.fault.PlanFault.{PlanFault}
use Rattle.fault_messages.specs.declared.fault.PlanFault.TheVariants.{NoNeed, Period, Overload, Slots, Memory}
use Rattle.plan_maker.specs.declared.jobs.Requirement.{Requirement}
use Rattle.plan_maker.specs.declared.answer.Met.{Met}
use Rattle.plan_maker.specs.declared.answer.Met.TheVariants as met

-- the most slots of a plan
unfoldable pub most_slots : ℕ
most_slots = 64

-- the slots of a frame, tick by tick
unfoldable pub frame_slots : List Requirement → ℕ → List Slot
frame_slots requirements frame = slots_so_far (course_of requirements frame)

-- the plan of a frame with these slots, where they are not too many
abbrev pub plan_with : ℕ → List Slot → Result Plan PlanFault
plan_with frame slots =
    if nat_lt most_slots (length slots) then Err (Slots (length slots)) else Ok (record { frame = frame; slots = slots })

-- the plan of a frame, where the demand is not too great for it
abbrev pub plan_in : List Requirement → ℕ → Result Plan PlanFault
plan_in requirements frame =
    if nat_lt frame (demand frame requirements)
    then Err (Overload (demand frame requirements) frame)
    else plan_with frame (frame_slots requirements frame)

-- the plan of the common period, where there is one
abbrev pub plan_over : List Requirement → Result ℕ ℕ → Result Plan PlanFault
plan_over requirements (Err part) = Err (Period part)
plan_over requirements (Ok frame) = plan_in requirements frame

-- the plan that is made from requirements, or the first refusal
abbrev pub planned : List Requirement → Result Plan PlanFault
planned [] = Err NoNeed
planned (first ∷ rest) = plan_over (first ∷ rest) (common_period (first ∷ rest))

-- why no plan is made
abbrev pub IsPlanRefused : List Requirement → PlanFault → Type 0
IsPlanRefused requirements NoNeed = requirements ≡ []
IsPlanRefused requirements (Period part) = common_period requirements ≡ Err part
IsPlanRefused requirements (Overload demanded frame) =
    (common_period requirements ≡ Ok frame) × (demanded ≡ demand frame requirements) × (frame < demanded)
IsPlanRefused requirements (Slots found) =
    (frame : ℕ) × (common_period requirements ≡ Ok frame) × (found ≡ length (frame_slots requirements frame)) × (most_slots < found)
IsPlanRefused requirements Memory = ⊤

-- the answer is the plan or the refusal, unless memory ran out
abbrev pub GivesPlan : Result Plan PlanFault → Result Plan PlanFault → Type 0
GivesPlan (Ok plan) expected = expected ≡ Ok plan
GivesPlan (Err NoNeed) expected = expected ≡ Err NoNeed
GivesPlan (Err (Period part)) expected = expected ≡ Err (Period part)
GivesPlan (Err (Overload demanded frame)) expected = expected ≡ Err (Overload demanded frame)
GivesPlan (Err (Slots found)) expected = expected ≡ Err (Slots found)
GivesPlan (Err Memory) expected = ⊤

-- a plan keeps the rules on its frame and its slots
pub record KeepsRules (plan : Plan) : Type 0 where
  pub frame : IsTime plan.frame
  pub inside : All (InFrame plan.frame) plan.slots
  pub in_turn : InTurn plan.slots
  pub few : length plan.slots ≤ most_slots

-- in each window of a requirement its partition has exactly its duration, and the frame is whole windows
pub record IsRequirementServed (plan : Plan) (requirement : Requirement) : Type 0 where
  pub whole : plan.frame % requirement.period ≡ 0
  pub exact : (window : ℕ) → (window + 1) * requirement.period ≤ plan.frame
      → window_time requirement.part plan.slots requirement.period window ≡ requirement.duration

-- the plan gives a partition enough time in a window
abbrev pub IsEnough : Plan → ℕ → Need → ℕ → Type 0
IsEnough plan part need window = need.duration ≤ window_time part plan.slots need.period window

-- in each window of the frame the partition has enough time
pub record IsMet (plan : Plan) (part : ℕ) (need : Need) : Type 0 where
  pub whole : plan.frame % need.period ≡ 0
  pub each : (window : ℕ) → (window + 1) * need.period ≤ plan.frame → IsEnough plan part need window

-- the window is the first of the frame in which the partition has less than its duration
pub record IsMissed (plan : Plan) (part : ℕ) (need : Need) (window : ℕ) : Type 0 where
  pub whole : plan.frame % need.period ≡ 0
  pub inside : (window + 1) * need.period ≤ plan.frame
  pub short : window_time part plan.slots need.period window < need.duration
  pub before : (earlier : ℕ) → earlier < window → IsEnough plan part need earlier

-- the answer to a requirement, by its cause
abbrev pub IsAnswer : Plan → ℕ → Option Need → Met → Type 0
IsAnswer plan part need met.NoNeed = need ≡ None
IsAnswer plan part need met.Uneven = IsSomeAnd need (λ of. plan.frame % of.period ≢ 0)
IsAnswer plan part need met.Met = IsSomeAnd need (IsMet plan part)
IsAnswer plan part need (met.Missed window) = IsSomeAnd need (λ of. IsMissed plan part of window)

-- what a requirement needs, without its partition
abbrev pub need_of : Requirement → Need
need_of requirement = record { duration = requirement.duration; period = requirement.period }

-- no plan that keeps the rules meets all requirements
abbrev pub AreNeverMet : List Requirement → Type 0
AreNeverMet requirements = (plan : Plan) → KeepsRules plan → All (λ of. IsMet plan of.part (need_of of)) requirements → ⊥

-- after an overload no plan meets the requirements
abbrev pub IsHopeless : List Requirement → PlanFault → Type 0
IsHopeless requirements NoNeed = ⊤
IsHopeless requirements (Period part) = ⊤
IsHopeless requirements (Overload demanded frame) = AreNeverMet requirements
IsHopeless requirements (Slots found) = ⊤
IsHopeless requirements Memory = ⊤
