-- What holds of each machine that was read of a file: all that a machine needs to go on from it, and to keep what holds of every machine.
use Rattle.std.specs.Prelude.{◌≡◌, ℕ, ◌+◌, ◌<◌, ◌≤◌, ◌^◌, ◌||◌, true, List, length, min, All, IfSome, slice_get}
use Rattle.std.specs.Option.{ForSome}
use Rattle.xm_base.specs.declared.limits.TheConstants.{TICKS}
use Rattle.cyclic_plans.specs.PlanClock.{AsksPlan, IsInFrame}
use Rattle.guest_bus.specs.Memory.{Area, all_from, is_readable}
use Rattle.guest_memory.specs.Loading.{memory_areas}
use Rattle.machine_model.specs.Facts.{HasFacts, HasShapes, HaveEight, IsClocked, IsComplete, IsTimed}
use Rattle.machine_model.specs.Machine.{Machine}
use Rattle.machine_model.specs.Partition.{is_halted}
use Rattle.machine_model.specs.Structures.{flag}
use Rattle.machine_model.specs.View.{part_of}
use Rattle.saved_machines.specs.Saved.{SavedHead, SavedMachine, SavedPage, SavedPartition}
use Rattle.saved_machines.specs.SavedFields.{are_channel_ends}
use Rattle.virt_clocks.specs.Clocks.{IsTimer}
use Rattle.xm_conf.specs.Configuration.{Conf}
use Rattle.xm_ports.specs.Channels.{shapes_of}
use Rattle.xm_ports.specs.Contents.{EachSuits}
use Rattle.xm_traces.specs.Ring.{RING_ENTRIES}

-- each address of each of these pages is in an area
abbrev pub ArePages : List Area → List SavedPage → Type 0
ArePages areas pages = All (λ page. all_from (is_readable areas) page.address (length page.bytes) ≡ true) pages

-- of partition p: timers that can be set, logs that keep all that was noted but the last 64 at most, pages in its areas, and a word counts its
-- input words; its numbers are bounded by the ticks of the machine, its traces have eight bytes, and its ports that are made are ends of channels
pub record IsRestorablePart (conf : Conf) (head : SavedHead) (p : ℕ) (part : SavedPartition) : Type 0 where
  pub hardware_timer : ForSome part.hardware_timer IsTimer
  pub execution_timer : ForSome part.execution_timer IsTimer
  pub traces : length part.store.traces.entries ≡ min part.store.traces.next RING_ENTRIES
  pub health : length part.store.health.entries ≡ min part.store.health.next RING_ENTRIES
  pub pages : All (ArePages (memory_areas (part_of conf p))) part.store.pages
  pub inputs : length part.store.inputs < 2 ^ 32
  pub trace_count : part.store.traces.next ≤ head.ticks
  pub health_count : part.store.health.next ≤ head.ticks + flag (head.halted || is_halted part.standing.state)
  pub execution : part.standing.execution ≤ head.ticks + flag head.halted
  pub loads : HaveEight part.store.traces.entries
  pub made : are_channel_ends conf p 0 part.store.made ≡ true

-- of the machine: as many partitions and channels as the configuration has, contents that suit its channels, a clock within the ticks that are
-- done, a plan that there is in its frame, and no more ticks begun than a run may have
pub record IsRestorable (conf : Conf) (saved : SavedMachine) : Type 0 where
  pub counted : length saved.parts ≡ length conf.parts
  pub parts : (p : ℕ) → IfSome (slice_get saved.parts p) (IsRestorablePart conf saved.head p)
  pub channels : length saved.channels ≡ length (shapes_of conf)
  pub contents : EachSuits (shapes_of conf) saved.channels
  pub time : saved.head.time ≤ saved.head.ticks
  pub begun : saved.head.ticks + flag saved.head.halted ≤ TICKS
  pub frame : IsInFrame conf saved.head.clock saved.head.time
  pub asked : AsksPlan conf saved.head.clock

-- what holds of every machine at all times
pub record HasAllFacts (g : Machine) : Type 0 where
  pub facts : HasFacts g
  pub timed : IsTimed g
  pub clocked : IsClocked g
  pub complete : IsComplete g
  pub shapes : HasShapes g
