-- A partition that is replayed: which script fits it, what a replay says, and whether it was one of these cues.
use Rattle.std.specs.Prelude.{◌≡◌, ℕ, ◌<◌, ◌≤◌, Bool, false, List, [], ◌∷◌, length, take, Option, Some, None, Result, Ok, Err}
use Rattle.xm_outside.specs.Growth.{grown, GrewByPrefix}
use Rattle.xm_report.specs.Report.{ReportLine, texts}
use Rattle.xm_report.specs.declared.output.WriteFault.{WriteFault}
use Rattle.uart_board.specs.Heard.{IsHeard}
use Rattle.uart_board.specs.Views.{BoardView}
use Rattle.machine_model.specs.Alone.{alone_start}
use Rattle.machine_model.specs.Cue.{Cue}
use Rattle.machine_model.specs.Machine.{Machine, is_halt}
use Rattle.machine_model.specs.View.{PartitionView}
use Rattle.replay_model.specs.Passes.{part_in}
use Rattle.recording_model.specs.Replayed.{cue_lines, first_refused, replayed, strikes_in}
use Rattle.upset_model.specs.Upsets.{alone_upset_said}
use Rattle.upset_model.specs.declared.upset_line.UpsetLine.{UpsetLine}
use Rattle.fault_messages.specs.declared.fault.ScriptFault.{ScriptFault}
use Rattle.fault_messages.specs.declared.fault.ScriptFault.TheVariants as fault
use Rattle.recording_model.specs.Lone.{Lone, own_view, replay_said}

-- partition p of a machine by itself
abbrev pub lone_in : Machine → ℕ → Lone
lone_in g p = record { system = g.system; p = p; part = part_in g p; halted = g.halted }

-- a script fits: the partition can take each cue in the state which the cues before it and its own upsets leave
abbrev pub TakesAll : List UpsetLine → PartitionView → List Cue → Type 0
TakesAll upsets view cues = first_refused upsets view cues ≡ None

-- whether it fits, or the number of the first cue that the partition cannot take
abbrev pub AnswersFit : {T : Type 0} → List UpsetLine → PartitionView → List Cue → Result T ScriptFault → Type 0
AnswersFit upsets view cues (Ok fits) = TakesAll upsets view cues
AnswersFit upsets view cues (Err fault.Memory) = Unit {0}
AnswersFit upsets view cues (Err fault.Magic) = ⊥
AnswersFit upsets view cues (Err (fault.Version found)) = ⊥
AnswersFit upsets view cues (Err (fault.Short at)) = ⊥
AnswersFit upsets view cues (Err (fault.Trailing at)) = ⊥
AnswersFit upsets view cues (Err (fault.Field at)) = ⊥
AnswersFit upsets view cues (Err (fault.Length found)) = ⊥
AnswersFit upsets view cues (Err (fault.Cue tick)) = first_refused upsets view cues ≡ Some tick

-- whether the hypervisor has halted after cues: where the last of them halts it
abbrev pub halted_by : Bool → List Cue → Bool
halted_by halted [] = halted
halted_by halted (cue ∷ later) = halted_by (is_halt cue.whole) later

-- from its boot, the partition's part is that of these cues, and so is whether the hypervisor has halted; it is the same partition of the
-- same system
pub record IsReplayed (upsets : List UpsetLine) (cues : List Cue) (old new : Lone) : Type 0 where
  pub part : new.part ≡ replayed upsets (own_view old) cues
  pub halted : new.halted ≡ halted_by false cues
  pub system : new.system ≡ old.system
  pub p : new.p ≡ old.p

-- a replay whose cues print and say nothing
pub record IsSilentReplay (upsets : List UpsetLine) (cues : List Cue) (old new : Lone) : Type 0 where
  pub left : IsReplayed upsets cues old new
  pub lines : cue_lines upsets (own_view old) cues ≡ []
  pub said : alone_upset_said (own_view old) (strikes_in upsets (own_view old)) (alone_start (own_view old)) cues ≡ []

-- a replay whose lines all went out
pub record IsWholeReplay (upsets : List UpsetLine) (cues : List Cue) (lines : List ReportLine) (old new : Lone) (had got : Option (List ℕ)) (before after : BoardView) : Type 0 where
  pub left : IsReplayed upsets cues old new
  pub report : got ≡ grown had (texts lines)
  pub heard : IsHeard (replay_said upsets old cues) before after

-- a replay whose lines the sink did not take whole: this many of its cues were done, and the last of these is the one whose lines were cut, or
-- the last of all
pub record IsCutReplay (upsets : List UpsetLine) (cues : List Cue) (lines : List ReportLine) (old new : Lone) (had got : Option (List ℕ)) (before after : BoardView) : Type 0 where
  pub done : ℕ
  pub within : done ≤ length cues
  pub left : IsReplayed upsets (take done cues) old new
  pub report : GrewByPrefix had (texts lines) got
  pub heard : IsHeard (replay_said upsets old (take done cues)) before after
  pub whole : (k : ℕ) → k < done → length (texts (cue_lines upsets (own_view old) (take k cues))) ≤ report.count
  pub cut : done < length cues → report.count < length (texts (cue_lines upsets (own_view old) (take done cues)))

-- what a replay of cues answers that is to print these lines
abbrev pub IsReplay : {T : Type 0} → Result T WriteFault → List UpsetLine → List Cue → List ReportLine → Lone → Lone → Option (List ℕ) → Option (List ℕ) → BoardView → BoardView → Type 0
IsReplay (Ok done) upsets cues lines old new had got before after = IsWholeReplay upsets cues lines old new had got before after
IsReplay (Err unwritten) upsets cues lines old new had got before after = IsCutReplay upsets cues lines old new had got before after
