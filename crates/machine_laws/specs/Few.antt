-- How many lines a partition's part of a tick prints, and how many bytes it writes to its console, at most.
use Rattle.std.specs.Prelude.{ℕ, ◌+◌, ◌*◌, ◌≤◌, Bool, List, length, Option}
use Rattle.xm_ports.specs.Channels.{Content}
use Rattle.machine_model.specs.Emission.{Sight}
use Rattle.machine_model.specs.Lines.{lines, step_lines}
use Rattle.machine_model.specs.LocalTick.{LocalTick, local_tick}
use Rattle.machine_model.specs.Machine.{Machine}
use Rattle.machine_model.specs.Partition.{PartitionState}
use Rattle.machine_model.specs.View.{PartitionView}

-- the most lines that a partition's part of a tick prints, and the most bytes that it writes to its console
abbrev pub most_tick_lines : ℕ
most_tick_lines = 3

abbrev pub most_console_bytes : ℕ
most_console_bytes = 1024

-- what a partition's part of a tick gives is no more
pub record IsFew (tick : LocalTick) : Type 0 where
  pub lines : length tick.lines ≤ most_tick_lines
  pub said : length tick.said ≤ most_console_bytes

-- whatever the partition executes
abbrev pub EmitsFew : Type 0
EmitsFew = (view : PartitionView) (ps : PartitionState) (contents : List (Option Content)) (n time : ℕ) (first : Bool) (seen : Sight) → IsFew (local_tick view ps contents n time first seen)

-- a tick of the machine prints at most three lines of the partition whose slot it is, one of an order that another one obeyed, one of a hypervisor event, one
-- of each partition that it reset, and one of a new plan
abbrev pub most_step_lines : Machine → ℕ
most_step_lines g = length g.parts + 6

abbrev pub PrintsFew : Type 0
PrintsFew = (g : Machine) → length (step_lines g) ≤ most_step_lines g

-- so does each of this many ticks
abbrev pub RunsPrintFew : Type 0
RunsPrintFew = (g : Machine) (count : ℕ) → length (lines g count) ≤ count * most_step_lines g
