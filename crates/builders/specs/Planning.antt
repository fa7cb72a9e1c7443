-- What is printed of plans: of one that is made from the requirements of a system description, and of one that is checked.
use Rattle.std.specs.Prelude.{ℕ, zero, suc, ◌+◌, ◌/◌, ◌%◌, ◌==◌, nat_lt, if◌then◌else◌, List, ◌++◌, length, codes, decimal, Option, Some, None, Result, Ok, Err}
use Rattle.xm_conf.specs.Along.{added_by_each}
use Rattle.xm_conf.specs.Configuration.{Conf, Part, Plan}
use Rattle.xm_conf.specs.declared.part.Need.{Need}
use Rattle.xm_conf.specs.declared.plan.Slot.{Slot}
use Rattle.cyclic_plans.specs.Slots.{frame_of, slots_of}
use Rattle.plan_maker.specs.Needed.{longest_common, requirements}
use Rattle.plan_maker.specs.Planned.{planned}
use Rattle.plan_maker.specs.Served.{window_time}
use Rattle.fault_messages.specs.Texts.{plan_fault_text}
use Rattle.plan_maker.specs.declared.answer.Met.{Met}
use Rattle.plan_maker.specs.declared.answer.Met.TheVariants as met
use Rattle.fault_messages.specs.declared.fault.PlanFault.{PlanFault}
use Rattle.builders.specs.Parsing.{conf_of, of_conf}

-- the line of a plan, by its frame and its number of slots
unfoldable pub frame_line : ℕ → ℕ → List ℕ
frame_line frame slots = codes "plan frame=" ++ decimal frame ++ codes " slots=" ++ decimal slots ++ codes "\n"

-- the line of a slot with its number
unfoldable pub slot_line : ℕ → Slot → List ℕ
slot_line id slot =
    codes "slot id=" ++ decimal id ++ codes " start=" ++ decimal slot.start ++ codes " duration=" ++ decimal slot.duration
    ++ codes " part=" ++ decimal slot.part ++ codes "\n"

-- the lines that describe a plan
unfoldable pub lines_of_plan : Plan → List ℕ
lines_of_plan plan = frame_line plan.frame (length plan.slots) ++ added_by_each slot_line plan.slots

-- the lines of a plan that was made, or the text of why there is none
abbrev pub plan_lines_by : Result Plan PlanFault → Result (List ℕ) (List ℕ)
plan_lines_by (Ok plan) = Ok (lines_of_plan plan)
plan_lines_by (Err fault) = Err (plan_fault_text fault)

-- the lines of the plan that the requirements of a configuration make, or the text of why there is none
abbrev pub plan_lines_for : Conf → Result (List ℕ) (List ℕ)
plan_lines_for conf = plan_lines_by (planned (requirements conf))

-- the lines of the plan that a text's requirements make, or the text of the first fault
unfoldable pub plan_lines_of : List ℕ → Result (List ℕ) (List ℕ)
plan_lines_of text = of_conf plan_lines_for (conf_of text)

-- the first of this many windows, from one on, in which a plan gives a partition less than its duration
abbrev pub met_from : Plan → ℕ → Need → ℕ → ℕ → Met
met_from plan part need window zero = met.Met
met_from plan part need window (suc more) =
    if nat_lt (window_time part plan.slots need.period window) need.duration
    then met.Missed window
    else met_from plan part need (window + 1) more

-- how a plan stands to a partition's requirement: the frame has to be whole windows, and each of them long enough
abbrev pub met_by : Plan → ℕ → Option Need → Met
met_by plan part None = met.NoNeed
met_by plan part (Some need) =
    if plan.frame % need.period == 0 then met_from plan part need 0 (plan.frame / need.period) else met.Uneven

-- the line of a partition of a number, by how the plan stands to its requirement
unfoldable pub met_line : ℕ → Met → List ℕ
met_line id met.Met = codes "P" ++ decimal id ++ codes " met\n"
met_line id met.NoNeed = codes "P" ++ decimal id ++ codes " none\n"
met_line id met.Uneven = codes "P" ++ decimal id ++ codes " uneven\n"
met_line id (met.Missed window) = codes "P" ++ decimal id ++ codes " missed window=" ++ decimal window ++ codes "\n"

-- the line of a partition with its number under a plan
abbrev pub part_line : Plan → ℕ → Part → List ℕ
part_line plan id part = met_line id (met_by plan id part.need)

-- plan 0 of a configuration
abbrev pub first_plan : Conf → Plan
first_plan conf = record { frame = frame_of conf 0; slots = slots_of conf 0 }

-- the fault text of a plan whose frame is too long to be checked
unfoldable pub frame_text : ℕ → List ℕ
frame_text found = codes "frame found=" ++ decimal found

-- the lines of partitions under a plan, or the text of why it is not checked: its frame is too long
unfoldable pub verdicts_by : Plan → List Part → Result (List ℕ) (List ℕ)
verdicts_by plan parts = if nat_lt longest_common plan.frame then Err (frame_text plan.frame) else Ok (added_by_each (part_line plan) parts)

-- the lines of the partitions of a configuration under its plan 0, or the text of why there are none
abbrev pub verdicts_for : Conf → Result (List ℕ) (List ℕ)
verdicts_for conf = verdicts_by (first_plan conf) conf.parts

-- the lines of the partitions of a text under its plan 0, or the text of the first fault
unfoldable pub verdicts_of : List ℕ → Result (List ℕ) (List ℕ)
verdicts_of text = of_conf verdicts_for (conf_of text)
