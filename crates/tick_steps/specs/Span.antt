-- The outcome of ticks of one slot or gap.
use Rattle.std.specs.Prelude.{◌+◌, ◌-◌, Bool, false, true, if◌then◌else◌, List, map}
use Rattle.xm_report.specs.Report.{ReportLine}
use Rattle.system_state.specs.State.{memory_of}
pub use Rattle.system_state.specs.Turning.{counted_on}
use Rattle.system_state.specs.declared.served.Note.{Note}
use Rattle.system_state.specs.declared.served.Note.TheVariants as note
use Rattle.machine_model.specs.Machine.{Machine}
use Rattle.machine_model.specs.Emission.{line_of}
use Rattle.tick_steps.specs.Quiet.{ends_stretch}
use Rattle.tick_steps.specs.Work.{act_beyond, console_emissions}
use Rattle.tick_steps.specs.declared.beyond.Beyond.{Beyond}
use Rattle.tick_steps.specs.declared.span.Span.{Span}

-- the line of bytes for the console of the last of the ticks of a span
abbrev pub console_lines : Span → Machine → Machine → List ReportLine
console_lines span old new = map (line_of (old.ticks + span.ticks - 1) span.part) (console_emissions span.note (memory_of span.part new))

-- whether a note reports of a signal
abbrev pub notes_signal : Note → Bool
notes_signal note.Nothing = false
notes_signal (note.Console at size) = false
notes_signal (note.Trace entry) = false
notes_signal (note.Put chan at size) = false
notes_signal (note.Take chan) = false
notes_signal (note.Saw at size) = false
notes_signal note.NotKept = false
notes_signal (note.Signal number) = true

-- whether an act ends a stretch that this note reports and that reaches so beyond its partition
abbrev pub ends_so : Note → Beyond → Bool
ends_so a_note reach = if notes_signal a_note then true else ends_stretch (act_beyond reach)
