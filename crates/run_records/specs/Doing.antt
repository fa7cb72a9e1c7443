-- What a partition does in a tick: nothing, the delivery of an interrupt, or an instruction.
use Rattle.std.specs.Prelude.{◌≡◌, ℕ, Bool, true, false, if◌then◌else◌, List, Option, Some, None}
use Rattle.virt_traps.specs.Virtual.{due}
use Rattle.xm_base.specs.declared.partition.State.TheVariants.{Ready}
use Rattle.xm_ports.specs.Channels.{Content}
use Rattle.machine_model.specs.Alone.{Alone, alone_local}
use Rattle.machine_model.specs.Cue.{Away, Cue, Mine, CueSlot}
use Rattle.machine_model.specs.Emission.{Sight}
use Rattle.machine_model.specs.Health.{Worked, interrupt_delivered, quiet}
use Rattle.machine_model.specs.LocalTick.{LocalTick, clocked, executed_in_tick, goes_on, seen_outside, with_interrupts}
use Rattle.machine_model.specs.Partition.{PartitionState, takes_turns}
use Rattle.machine_model.specs.View.{PartitionView}

-- what a partition does in a tick: it rests, interrupt n is delivered to it, or it executes an instruction
pub data Doing : Type 0 where
  Rests : Doing
  Delivers : (n : ℕ) → Doing
  Executes : Doing

-- a partition that goes on takes the interrupt that is due where traps are enabled, and executes an instruction otherwise
abbrev pub doing_by : Bool → Option ℕ → Bool → Doing
doing_by false interrupt enabled = Rests
doing_by true None enabled = Executes
doing_by true (Some n) true = Delivers n
doing_by true (Some n) false = Executes

-- what it does where these interrupts have become pending
abbrev pub doing_with : Bool → PartitionState → Doing
doing_with first ps = doing_by (goes_on ps.state first (due ps.traps)) (due ps.traps) ps.traps.enabled

-- what it does in a tick of its slot, by the hardware clock and by whether the slot begins with the tick
unfoldable pub doing_in_slot : ℕ → Bool → PartitionState → Doing
doing_in_slot time first ps = doing_with first (with_interrupts time first ps)

-- what it does in a tick: outside its slots, and where it is suspended or has halted, it rests
abbrev pub doing_here : CueSlot → Alone → Doing
doing_here Away a = Rests
doing_here (Mine first) a = if takes_turns a.state.state then doing_in_slot a.time first a.state else Rests

unfoldable pub doing : Alone → Cue → Doing
doing a cue = doing_here cue.mine a

-- the work of a partition that does this, once the interrupts of the tick are pending
abbrev pub work_of : Doing → PartitionView → List (Option Content) → ℕ → Sight → PartitionState → Worked
work_of Rests view contents time sight ps = quiet ps
work_of (Delivers n) view contents time sight ps = interrupt_delivered view time n (clocked (record ps { state = Ready }))
work_of Executes view contents time sight ps = executed_in_tick view contents time sight (record ps { state = Ready })

-- the local tick of a partition that does this in its slot
unfoldable pub local_doing : Doing → Bool → PartitionView → Alone → Cue → LocalTick
local_doing d first view a cue = seen_outside view a.ticks (work_of d view a.copies a.time cue.seen (with_interrupts a.time first a.state))

-- the local tick of a partition that does this: it has one in a slot of its own, where it takes its turn
abbrev pub local_with : CueSlot → Doing → PartitionView → Alone → Cue → Option LocalTick
local_with Away d view a cue = None
local_with (Mine first) d view a cue = if takes_turns a.state.state then Some (local_doing d first view a cue) else None

-- a partition's part of a tick is the work of what it does
abbrev pub DoesItsWork : Type 0
DoesItsWork = (view : PartitionView) (a : Alone) (cue : Cue) → alone_local view a cue ≡ local_with cue.mine (doing a cue) view a cue
