-- For proofs and private clauses: ticks of a partition that is replayed, before which its own upsets strike.
use Rattle.std.specs.Prelude.{◌≡◌, ℕ, ◌+◌, true, false, if◌then◌else◌, List, [], ◌∷◌, ◌++◌, length, map, Bool, Option, Result, Ok, Err}
use Rattle.xm_outside.specs.Causes.{Rose}
use Rattle.xm_outside.specs.Growth.{GrewByPrefix, GrewBySome, grown}
use Rattle.xm_report.specs.Report.{ReportLine, texts}
use Rattle.machine_model.specs.Alone.{Alone, alone_start, alone_step, alone_step_lines, alone_step_said}
use Rattle.machine_model.specs.Cue.{Cue}
use Rattle.machine_model.specs.Lines.{has_console}
use Rattle.machine_model.specs.Machine.{Machine, is_halt}
use Rattle.machine_model.specs.View.{PartitionView, view_of}
use Rattle.replay_model.specs.Passes.{part_in}
use Rattle.replay_model.specs.Taking.{takes_cue}
use Rattle.replay_tick.specs.LoneSpan.{AreSilent}
use Rattle.recording_model.specs.Replayed.{strikes_in}
use Rattle.uart_board.specs.Heard.{IsHeard}
use Rattle.uart_board.specs.Views.{BoardView}
use Rattle.upset_model.specs.Places.{Timetable, strike_of}
use Rattle.upset_model.specs.Reports.{own_due, struck_line}
use Rattle.upset_model.specs.Upsets.{alone_struck, alone_upset_said}
use Rattle.upset_model.specs.lemmas.Segments.{AreNone}
use Rattle.upset_model.specs.declared.upset_line.UpsetLine.{UpsetLine}
use Rattle.xm_machine.specs.declared.alone_span.AloneFault.{AloneFault}
use Rattle.xm_machine.specs.declared.alone_span.AloneFault.TheVariants as fault
use Rattle.xm_alone.specs.lemmas.Cues.{next_cues, next_left}
use Rattle.xm_alone.specs.declared.cues.Next as code_next

-- the lines of a file for a partition, before each tick
abbrev pub own_at : List UpsetLine → PartitionView → Timetable
own_at upsets view = own_due view.id upsets

-- the console bytes of a script from the boot on
abbrev pub script_said : List UpsetLine → PartitionView → List Cue → List ℕ
script_said upsets view cues = alone_upset_said view (strikes_in upsets view) (alone_start view) cues

-- a partition that these upsets of its own have struck
abbrev pub struck_by : List UpsetLine → Alone → Alone
struck_by lines a = alone_struck (map strike_of lines) a

-- a tick before which they strike: what it leaves, what it prints and says, and whether its cue can be taken
abbrev pub tick_after : PartitionView → List UpsetLine → Alone → Cue → Alone
tick_after view lines a cue = alone_step view (struck_by lines a) cue

abbrev pub tick_lines : PartitionView → List UpsetLine → Alone → Cue → List ReportLine
tick_lines view lines a cue = map struck_line lines ++ alone_step_lines view (struck_by lines a) cue

abbrev pub tick_said : PartitionView → List UpsetLine → Alone → Cue → List ℕ
tick_said view lines a cue = alone_step_said view (struck_by lines a) cue

abbrev pub tick_taken : PartitionView → List UpsetLine → Alone → Cue → Bool
tick_taken view lines a cue = takes_cue view (struck_by lines a) cue

-- one tick of partition p was done whole, before which these upsets of its own struck
pub record IsStruckLone (p : ℕ) (lines : List UpsetLine) (cue : Cue) (old new : Machine) : Type 0 where
  pub taken : tick_taken (view_of old.system p) lines (part_in old p) cue ≡ true
  pub part : part_in new p ≡ tick_after (view_of old.system p) lines (part_in old p) cue
  pub halted : new.halted ≡ is_halt cue.whole

-- what it answers: its lines went out, those of the upsets first; or it was done, and a prefix of them went out; or the partition cannot take
-- the cue, and some of the lines of the upsets went out
abbrev pub StepsStruck : {T : Type 0} → Result T AloneFault → ℕ → List UpsetLine → Cue → Machine → Machine → Option (List ℕ) → Option (List ℕ) → Type 0
StepsStruck (Ok done) p lines cue old new had got =
    IsStruckLone p lines cue old new × (got ≡ grown had (texts (tick_lines (view_of old.system p) lines (part_in old p) cue)))
StepsStruck (Err fault.Write) p lines cue old new had got =
    IsStruckLone p lines cue old new × GrewByPrefix had (texts (tick_lines (view_of old.system p) lines (part_in old p) cue)) got
StepsStruck (Err fault.Cue) p lines cue old new had got =
    (tick_taken (view_of old.system p) lines (part_in old p) cue ≡ false) × GrewBySome had (texts (map struck_line lines)) got

-- what each UART gets of its console bytes
abbrev pub said_struck : Machine → ℕ → List UpsetLine → Cue → ℕ → List ℕ
said_struck g p lines cue uart = if has_console g uart p then tick_said (view_of g.system p) lines (part_in g p) cue else []

abbrev pub IsSaidStruck : {T : Type 0} → Result T AloneFault → ℕ → List UpsetLine → Cue → Machine → BoardView → BoardView → Type 0
IsSaidStruck (Ok done) p lines cue old before after = IsHeard (said_struck old p lines cue) before after
IsSaidStruck (Err fault.Write) p lines cue old before after = IsHeard (said_struck old p lines cue) before after
IsSaidStruck (Err fault.Cue) p lines cue old before after = Unit {0}

-- and these are kept
abbrev pub KeepsStruck : {T : Type 0} → Result T AloneFault → ℕ → List UpsetLine → Cue → Machine → List ℕ → Type 0
KeepsStruck (Ok done) p lines cue old said = said ≡ tick_said (view_of old.system p) lines (part_in old p) cue
KeepsStruck (Err fault.Write) p lines cue old said = Unit {0}
KeepsStruck (Err fault.Cue) p lines cue old said = Unit {0}

-- its cause: the sink's count rises where lines could not be written
abbrev pub HasStruckCause : {T : Type 0} → Result T AloneFault → ℕ → ℕ → Type 0
HasStruckCause (Ok done) before now = now ≡ before
HasStruckCause (Err fault.Write) before now = Rose before now
HasStruckCause (Err fault.Cue) before now = Unit {0}

-- what a tick answers that would have answered this, of which a line of an upset could not be written
abbrev pub IsUnprinted : {T : Type 0} → Result T AloneFault → Result T AloneFault → Type 0
IsUnprinted (Ok done) result = result ≡ Err fault.Write
IsUnprinted (Err fault.Write) result = result ≡ Err fault.Write
IsUnprinted (Err fault.Cue) result = result ≡ Err fault.Cue

-- partition p followed the first of the cues that come next, with these lines of its own upsets before each tick: all but the last tick were
-- silent and not struck, and the last answers this
pub record FollowsStruck {T : Type 0} (ended : Result T AloneFault) (ticks p : ℕ) (own : Timetable) (first : code_next.Next) (old new : Machine) (had got : Option (List ℕ)) (begun board : BoardView) (said : List ℕ) : Type 0 where
  pub before : Machine
  pub quiet : List Cue
  pub cue : Cue
  pub split : next_cues first ≡ quiet ++ cue ∷ next_left first ticks
  pub count : ticks ≡ length quiet + 1
  pub none : AreNone (length quiet) own
  pub silent : AreSilent p quiet old before
  pub step : StepsStruck ended p (own (length quiet)) cue before new had got
  pub heard : IsSaidStruck ended p (own (length quiet)) cue before begun board
  pub kept : KeepsStruck ended p (own (length quiet)) cue before said
