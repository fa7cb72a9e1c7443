-- Cues under which a partition prints nothing, and so says nothing.
use Rattle.std.proofs.Common.{◌≡◌, ℕ, Bool, true, false, if◌then◌else◌, List, [], ◌∷◌, ◌++◌, map, Some, None, Err, refl, ap, ◌∙◌}
use Rattle.std.specs.List.{flat_map}
use Rattle.xm_report.specs.Report.{ConsoleLine, EndPart, EndWhole, HealthLine, MovedLine, PlanLine, ReportLine, StruckLine, SystemLine, TraceLine, WholeLine, console_text, end_part_text, end_whole_text, health_text, moved_text, plan_text, struck_text, system_text, text_of, texts, trace_text, whole_text}
use Rattle.machine_model.specs.Alone.{Alone, alone_lines_of, alone_local, alone_local_in, alone_step_lines, alone_step_said}
use Rattle.machine_model.specs.Cue.{Away, Cue, CueSlot, Mine}
use Rattle.machine_model.specs.Lines.{local_lines, local_said}
use Rattle.machine_model.specs.LocalTick.{local_tick, said_in, worked}
use Rattle.machine_model.specs.Partition.{takes_turns}
use Rattle.machine_model.specs.Emission.{Sight, Emission, line_of}
use Rattle.machine_model.specs.View.{PartitionView}
use Rattle.fault_messages.specs.declared.fault.ScriptFault.{ScriptFault}
use Rattle.fault_messages.specs.declared.fault.ScriptFault.TheVariants as fault
use Rattle.xm_alone.specs.Replay.{AnswersFit}
use Rattle.upset_model.specs.Places.{Timetable}
use Rattle.upset_model.specs.Reports.{alone_reported, struck_line}
use Rattle.upset_model.specs.Upsets.{alone_upset_said, later}
use Rattle.upset_model.specs.declared.upset_line.UpsetLine.{UpsetLine}
use Rattle.xm_alone.specs.lemmas.Struck.{struck_by, tick_after, tick_lines, tick_said}
use Rattle.xm_alone.proofs.FollowLemmas.{strikes_of}

-- each line has a text
has_text : (line : ReportLine) → text_of line ≡ [] → ⊥
unfolding system_text console_text health_text trace_text whole_text plan_text moved_text struck_text end_part_text end_whole_text
has_text (SystemLine parts plans ticks) none = cc
has_text (ConsoleLine n p bytes) none = cc
has_text (HealthLine n p event word action) none = cc
has_text (TraceLine n p bits load) none = cc
has_text (MovedLine n p to) none = cc
has_text (StruckLine n p place bit) none = cc
has_text (WholeLine n to) none = cc
has_text (PlanLine n plan) none = cc
has_text (EndPart p state resets exec pc) none = cc
has_text (EndWhole halted plan clock ticks) none = cc

-- where a list of two parts is empty, so is each
pub first_none : {X : Type 0} (xs ys : List X) → xs ++ ys ≡ [] → xs ≡ []
first_none [] ys none = refl
first_none (x ∷ xs) ys none = absurd (cc)

pub second_none : {X : Type 0} (xs ys : List X) → xs ++ ys ≡ [] → ys ≡ []
second_none [] ys none = none
second_none (x ∷ xs) ys none = absurd (cc)

-- so there are no lines where there is no text
pub no_lines : (lines : List ReportLine) → texts lines ≡ [] → lines ≡ []
no_lines [] none = refl
no_lines (line ∷ lines) none = absurd (has_text line (first_none (text_of line) (texts lines) none))

-- what emits no line emits no console bytes
unemitted : (n p : ℕ) (ts : List Emission) → map (line_of n p) ts ≡ [] → flat_map said_in ts ≡ []
unemitted n p [] none = refl
unemitted n p (emitted ∷ ts) none = absurd (cc)

tick_unsaid : (view : PartitionView) (a : Alone) (first : Bool) (seen : Sight) → (local_tick view a.state a.copies a.ticks a.time first seen).lines ≡ []
    → (local_tick view a.state a.copies a.ticks a.time first seen).said ≡ []
unfolding local_tick
tick_unsaid view a first seen none = unemitted a.ticks view.id (worked view a.copies a.time first seen a.state).emitted none

local_unsaid : (slot : CueSlot) (view : PartitionView) (a : Alone) (seen : Sight) → local_lines (alone_local_in slot view a seen) ≡ [] → local_said (alone_local_in slot view a seen) ≡ []
local_unsaid Away view a seen none = refl
local_unsaid (Mine first) view a seen none = at (takes_turns a.state.state) none
  where
    at : (b : Bool) → local_lines (if b then Some (local_tick view a.state a.copies a.ticks a.time first seen) else None) ≡ []
        → local_said (if b then Some (local_tick view a.state a.copies a.ticks a.time first seen) else None) ≡ []
    at true none = tick_unsaid view a first seen none
    at false none = refl

pub step_unsaid : (view : PartitionView) (a : Alone) (cue : Cue) → alone_step_lines view a cue ≡ [] → alone_step_said view a cue ≡ []
unfolding alone_step_lines alone_lines_of alone_step_said alone_local
step_unsaid view a cue none = local_unsaid cue.mine view a cue.seen (first_none _ _ (first_none _ _ none))

pub tick_unsaid_too : (view : PartitionView) (lines : List UpsetLine) (a : Alone) (cue : Cue) → tick_lines view lines a cue ≡ [] → tick_said view lines a cue ≡ []
tick_unsaid_too view lines a cue none = step_unsaid view (struck_by lines a) cue (second_none (map struck_line lines) (alone_step_lines view (struck_by lines a) cue) none)

pub unsaid : (view : PartitionView) (t : Timetable) (a : Alone) (cues : List Cue) → alone_reported view t a cues ≡ [] → alone_upset_said view (strikes_of t) a cues ≡ []
unsaid view t a [] none = refl
unsaid view t a (cue ∷ cues) none =
    let rest = alone_reported view (later t) (tick_after view (t 0) a cue) cues in
    ap (λ bytes. bytes ++ alone_upset_said view (strikes_of (later t)) (tick_after view (t 0) a cue) cues) (tick_unsaid_too view (t 0) a cue (first_none (tick_lines view (t 0) a cue) rest none))
    ∙ unsaid view (later t) (tick_after view (t 0) a cue) cues (second_none (tick_lines view (t 0) a cue) rest none)

-- a fault says the same of a script, whatever an answer without it has
pub fault_fits : (S T : Type 0) (upsets : List UpsetLine) (view : PartitionView) (cues : List Cue) (why : ScriptFault) → AnswersFit {T = S} upsets view cues (Err why) → AnswersFit {T = T} upsets view cues (Err why)
fault_fits S T upsets view cues fault.Memory answers = tt
fault_fits S T upsets view cues fault.Magic answers = absurd answers
fault_fits S T upsets view cues (fault.Version found) answers = absurd answers
fault_fits S T upsets view cues (fault.Short at) answers = absurd answers
fault_fits S T upsets view cues (fault.Trailing at) answers = absurd answers
fault_fits S T upsets view cues (fault.Field at) answers = absurd answers
fault_fits S T upsets view cues (fault.Length found) answers = absurd answers
fault_fits S T upsets view cues (fault.Cue tick) answers = answers
