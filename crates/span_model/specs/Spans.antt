-- Ticks of one slot or gap of any machine: what holds before them, and what they leave. The first of them is tick 0.
use Rattle.std.specs.Prelude.{◌≡◌, ℕ, suc, ◌+◌, ◌==◌, ◌<◌, ◌≤◌, Bool, true, false, List, [], ◌++◌, map, Some, slice_get}
use Rattle.std.specs.List.{flat_map}
use Rattle.cyclic_plans.specs.PlanClock.{ended, slot_at}
use Rattle.cyclic_plans.specs.Slots.{frame_of}
use Rattle.xm_report.specs.Report.{ReportLine}
use Rattle.machine_model.specs.Lines.{lines, plan_lines, said}
use Rattle.machine_model.specs.LocalTick.{said_in}
use Rattle.machine_model.specs.Machine.{Machine, run, turn_of}
use Rattle.machine_model.specs.Partition.{PartitionState}
use Rattle.machine_model.specs.Emission.{Emission, line_of}

-- this many ticks are of one slot or gap, and of one frame
pub record IsStretch (g : Machine) (most : ℕ) : Type 0 where
  pub alike : (k : ℕ) → k < most → slot_at g.system.conf g.clock (g.time + k) ≡ slot_at g.system.conf g.clock g.time
  pub within : g.time + most ≤ g.clock.frame_start + frame_of g.system.conf g.clock.plan

-- it is the slot of a partition, in this state
pub record IsSlotOf (g : Machine) (p : ℕ) (first : Bool) (ps : PartitionState) : Type 0 where
  pub turn : turn_of g ≡ Some (record { part = p; first = first })
  pub there : slice_get g.parts p ≡ Some ps

-- the machine has not halted, and its ticks up to this one are of one slot or gap, and of one frame
pub record IsSpan (g : Machine) (last : ℕ) : Type 0 where
  pub running : g.halted ≡ false
  pub begun : g.clock.frame_start ≤ g.time
  pub within : g.time + last < g.clock.frame_start + frame_of g.system.conf g.clock.plan
  pub alike : (k : ℕ) → k ≤ last → slot_at g.system.conf g.clock (g.time + k) ≡ slot_at g.system.conf g.clock g.time

-- the machine inside these ticks, when this many are done, with these partitions
abbrev pub inside : ℕ → List PartitionState → Machine → Machine
inside done parts g = record g { parts = parts; time = g.time + done; ticks = g.ticks + done }

-- the machine after its ticks up to this one, with these partitions: the frame may end with it
abbrev pub after_span : ℕ → List PartitionState → Machine → Machine
after_span last parts g = record g {
  parts = parts;
  clock = ended g.system.conf g.clock (g.time + last);
  time = g.time + last + 1;
  ticks = g.ticks + last + 1;
}

-- the line of a plan that starts after this tick
abbrev pub plan_line : ℕ → Machine → List ReportLine
plan_line last g = plan_lines (g.ticks + last) g.clock.plan (ended g.system.conf g.clock (g.time + last)).plan

-- this many ticks leave these partitions, and report nothing
pub record IsUnderway (g : Machine) (done : ℕ) (parts : List PartitionState) : Type 0 where
  pub state : run g done ≡ inside done parts g
  pub lines : lines g done ≡ []
  pub said : (p : ℕ) → said g done p ≡ []

-- the ticks up to this one leave these partitions, and emit at most that a plan starts
pub record IsQuietSpan (g : Machine) (last : ℕ) (parts : List PartitionState) : Type 0 where
  pub state : run g (suc last) ≡ after_span last parts g
  pub silent : lines g last ≡ []
  pub lines : lines g (suc last) ≡ plan_line last g
  pub said : (p : ℕ) → said g (suc last) p ≡ []

-- the console bytes of a tale, where it is this partition's
abbrev pub said_if : Bool → List Emission → List ℕ
said_if true tale = flat_map said_in tale
said_if false tale = []

-- the ticks up to this one leave these partitions, and only the last reports something, of partition p, and at most that a plan starts
pub record IsEmittingSpan (g : Machine) (last p : ℕ) (parts : List PartitionState) (tale : List Emission) : Type 0 where
  pub state : run g (suc last) ≡ after_span last parts g
  pub lines : lines g (suc last) ≡ map (line_of (g.ticks + last) p) tale ++ plan_line last g
  pub said : (q : ℕ) → said g (suc last) q ≡ said_if (p == q) tale
