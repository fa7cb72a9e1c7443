-- The outcome of ticks of slots and gaps.
use Rattle.std.specs.Prelude.{◌≡◌, ℕ, ◌-◌, ◌<◌, ◌≤◌, false, List, [], ◌++◌, length}
use Rattle.xm_report.specs.Report.{ReportLine}
use Rattle.machine_model.specs.Lines.{lines}
use Rattle.machine_model.specs.Machine.{run, turn_of}
use Rattle.system_state.specs.Serving.{CanBeEmitted}
use Rattle.system_state.specs.State.{SysState, areas_in, memory_of, with_machine}
use Rattle.tick_steps.specs.Kept.{kept_by, kept_tick}
use Rattle.tick_steps.specs.Quiet.{AreQuiet, ends_in}
use Rattle.tick_steps.specs.Span.{console_lines, ends_so}
use Rattle.tick_steps.specs.declared.span.Span.{Span}

-- ticks of the machine were done, in the last of which the hypervisor may have halted; only the last has lines, which are these, but for
-- one of bytes for the console, and only the last may have an act that ends a stretch; the span has what is to be kept of the last
-- and by whose slot it is in
pub record IsSpanDone (span : Span) (most : ℕ) (old new : SysState) (got : List ReportLine) : Type 0 where
  pub some : 0 < span.ticks
  pub within : span.ticks ≤ most
  pub running : (run old.machine (span.ticks - 1)).halted ≡ false
  pub state : new ≡ with_machine (run old.machine span.ticks) old
  pub silent : lines old.machine (span.ticks - 1) ≡ []
  pub lines : lines old.machine span.ticks ≡ console_lines span old.machine new.machine ++ got
  pub few : length got ≤ 40
  pub part : span.part < length new.machine.parts
  pub readable : CanBeEmitted span.note (areas_in span.part new.machine)
  pub kept : kept_tick (run old.machine (span.ticks - 1))
      ≡ kept_by (turn_of (run old.machine (span.ticks - 1))) span.worked span.note span.reach (memory_of span.part new.machine)
  pub quiet : AreQuiet span.ticks old.machine
  pub ends : ends_in (run old.machine (span.ticks - 1)) ≡ ends_so span.note span.reach
