-- One tick of one partition of a machine in isolation: what it leaves of the partition's part, what it prints and what it refuses.
use Rattle.std.specs.Prelude.{◌≡◌, ℕ, false, if◌then◌else◌, List, [], Option, Result, Ok, Err}
use Rattle.xm_outside.specs.Causes.{Rose}
use Rattle.xm_outside.specs.Growth.{GrewByPrefix, grown}
use Rattle.xm_report.specs.Report.{texts}
use Rattle.machine_model.specs.Alone.{alone_said, alone_step_lines, alone_step_said}
use Rattle.machine_model.specs.Cue.{Cue}
use Rattle.machine_model.specs.Lines.{has_console}
use Rattle.machine_model.specs.Machine.{Machine}
use Rattle.machine_model.specs.View.{view_of}
use Rattle.replay_model.specs.Passes.{part_in}
use Rattle.replay_model.specs.Step.{IsLone}
use Rattle.replay_model.specs.Taking.{takes_cue}
use Rattle.uart_board.specs.Heard.{IsHeard}
use Rattle.uart_board.specs.Views.{BoardView}
use Rattle.xm_machine.specs.declared.alone_span.AloneFault.{AloneFault}
use Rattle.xm_machine.specs.declared.alone_span.AloneFault.TheVariants as fault

-- what a tick in isolation answers: its lines went out; or it was done, and a prefix of its lines went out; or the partition cannot
-- take the cue
abbrev pub StepsAlone : {T : Type 0} → Result T AloneFault → ℕ → Cue → Machine → Machine → Option (List ℕ) → Option (List ℕ) → Type 0
StepsAlone (Ok done) p cue old new had got =
    IsLone p cue old new × (got ≡ grown had (texts (alone_step_lines (view_of old.system p) (part_in old p) cue)))
StepsAlone (Err fault.Write) p cue old new had got =
    IsLone p cue old new × GrewByPrefix had (texts (alone_step_lines (view_of old.system p) (part_in old p) cue)) got
StepsAlone (Err fault.Cue) p cue old new had got =
    (takes_cue (view_of old.system p) (part_in old p) cue ≡ false) × (got ≡ had)

-- its cause: the sink's count rises where lines could not be written, and only there
abbrev pub HasStepCause : {T : Type 0} → Result T AloneFault → ℕ → ℕ → Type 0
HasStepCause (Ok done) before now = now ≡ before
HasStepCause (Err fault.Write) before now = Rose before now
HasStepCause (Err fault.Cue) before now = now ≡ before

-- what each UART gets of the console bytes of a partition's tick alone
abbrev pub said_alone : Machine → ℕ → Cue → ℕ → List ℕ
said_alone g p cue uart = if has_console g uart p then alone_step_said (view_of g.system p) (part_in g p) cue else []

-- they were said where the tick was done, and nothing was said where the partition cannot take its cue
abbrev pub IsSaidAlone : {T : Type 0} → Result T AloneFault → ℕ → Cue → Machine → BoardView → BoardView → Type 0
IsSaidAlone (Ok done) p cue old before after = IsHeard (said_alone old p cue) before after
IsSaidAlone (Err fault.Write) p cue old before after = IsHeard (said_alone old p cue) before after
IsSaidAlone (Err fault.Cue) p cue old before after = after ≡ before

-- the console bytes that are kept of ticks of a partition in isolation: those that it writes under these cues, where the last was done
abbrev pub KeepsSaid : {T : Type 0} → Result T AloneFault → ℕ → List Cue → Machine → List ℕ → Type 0
KeepsSaid (Ok done) p cues old said = said ≡ alone_said (view_of old.system p) (part_in old p) cues
KeepsSaid (Err fault.Write) p cues old said = said ≡ alone_said (view_of old.system p) (part_in old p) cues
KeepsSaid (Err fault.Cue) p cues old said = Unit {0}
