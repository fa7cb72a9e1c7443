-- What one tick of one partition in isolation does to the whole system, part by part.
use Rattle.std.specs.Prelude.{◌≡◌, ℕ, ◌≤◌, false, List, ◌++◌, length, map, Option, Some, None}
use Rattle.xm_report.specs.Report.{ReportLine}
use Rattle.machine_model.specs.Alone.{alone_step_lines}
use Rattle.machine_model.specs.Cue.{Cue}
use Rattle.machine_model.specs.Machine.{Machine}
use Rattle.machine_model.specs.Emission.{line_of}
use Rattle.machine_model.specs.View.{view_of}
use Rattle.system_state.specs.Serving.{CanBeEmitted}
use Rattle.system_state.specs.State.{areas_in, memory_of}
use Rattle.system_state.specs.declared.served.Note.{Note}
use Rattle.replay_model.specs.Passes.{part_in}
use Rattle.replay_model.specs.Step.{IsLone}
use Rattle.replay_model.specs.Taking.{takes_cue}
use Rattle.tick_steps.specs.Work.{console_emissions}

-- how many lines a tick of one partition in isolation has at most, but for that of bytes for the console: four of its work, one of an order,
-- and those of a hypervisor event
abbrev pub most_lines : ℕ
most_lines = 24

-- a tick of partition p in isolation that was done: what it leaves of the partition, the lines that it adds, but for that of bytes for
-- the console, and the note that has those bytes
pub record IsLoneTicked (p : ℕ) (cue : Cue) (note : Note) (old new : Machine) (got : List ReportLine) : Type 0 where
  pub lone : IsLone p cue old new
  pub lines : alone_step_lines (view_of old.system p) (part_in old p) cue ≡ map (line_of old.ticks p) (console_emissions note (memory_of p new)) ++ got
  pub readable : CanBeEmitted note (areas_in p new)
  pub few : length got ≤ most_lines

-- a tick was done, or the partition cannot take its cue
abbrev pub IsLoneTick : Option Note → ℕ → Cue → Machine → Machine → List ReportLine → Type 0
IsLoneTick (Some note) p cue old new got = IsLoneTicked p cue note old new got
IsLoneTick None p cue old new got = takes_cue (view_of old.system p) (part_in old p) cue ≡ false
