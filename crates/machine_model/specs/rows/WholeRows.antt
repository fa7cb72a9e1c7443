-- Rows on what reaches several partitions: messages, orders in each state, resets of the hypervisor, and consoles by UART.
use Rattle.std.specs.Prelude.{◌≡◌, ℕ, ◌-◌, ◌^◌, true, false, List, [], ◌∷◌, ◌++◌, map, Bool, Option, Some, None}
use Rattle.cyclic_plans.specs.PlanClock.{frame_from}
use Rattle.guest_bus.specs.Memory.{Memory, bytes_at}
use Rattle.health_monitor.specs.declared.entry.HealthEntry.{HealthEntry}
use Rattle.sparc_step.specs.Registers.{in_window, registers_started}
use Rattle.virt_traps.specs.Virtual.{no_traps}
use Rattle.xm_base.specs.declared.partition.Mode.TheVariants.{Cold, Warm}
use Rattle.xm_base.specs.declared.partition.Order.{Order}
use Rattle.xm_base.specs.declared.partition.Order.TheVariants as order
use Rattle.xm_base.specs.declared.partition.State.{State}
use Rattle.xm_base.specs.declared.partition.State.TheVariants.{Ready, Idle, Suspended, Halted}
use Rattle.xm_conf.specs.Configuration.{Part}
use Rattle.xm_conf.specs.declared.health.Action.{Action}
use Rattle.xm_conf.specs.declared.health.Action.TheVariants as action
use Rattle.xm_conf.specs.declared.health.Event.TheVariants as event
use Rattle.xm_ports.specs.Channels.{Queuing}
use Rattle.xm_ports.specs.Ports.{no_ports, with_port}
use Rattle.xm_report.specs.Report.{HealthLine, MovedLine, PlanLine, WholeLine, EndPart, EndWhole}
use Rattle.xm_report.specs.declared.line.Move.{Move}
use Rattle.xm_report.specs.declared.line.Move.TheVariants as move
use Rattle.xm_traces.specs.Ring.{Kept, kept_of}
use Rattle.machine_model.specs.rows.CallRows.{Calls, caller, healths, traces}
use Rattle.machine_model.specs.rows.HealthRows.{IsIllegal, parts_at_ends, queue}
use Rattle.machine_model.specs.Lines.{console}
use Rattle.machine_model.specs.Machine.{Machine}
use Rattle.machine_model.specs.rows.OwnRows.{by_itself, tracer}
use Rattle.machine_model.specs.Partition.{PartitionState, loaded_memory, ordered, ordered_emissions}
use Rattle.machine_model.specs.rows.PortCallRows.{all_made, view_of_ports, with_made}
use Rattle.machine_model.specs.rows.Rows.{Holds, Leaves, Prints, at, calling, entered_at, small_conf, halves, machine, plain_part, whole_frame}
use Rattle.machine_model.specs.rows.ServedRows.{view_for, with_call}
use Rattle.machine_model.specs.rows.TimeCallRows.{timer}
use Rattle.machine_model.specs.Emission.{Moved, OwnPuts, OwnTakes, Emission}
use Rattle.machine_model.specs.Traffic.{hearing}
use Rattle.machine_model.specs.View.{System, view_of}
use Rattle.machine_model.specs.Whole.{AllReset, whole_resets_after}

-- a partition in a state, with these ports made
abbrev pub in_state : State → List Bool → Memory → PartitionState
in_state state made memory = record (with_made made [] memory) { state = state }

-- a message for the channel that it calls q makes these interrupts pending
abbrev pub Hears : ℕ → State → List Bool → ℕ → Memory → Type 0
Hears q state made pending memory =
    hearing (view_of_ports 0) (OwnPuts q (5 ∷ [])) (in_state state made memory) ≡ record (in_state state made memory) { traps = record no_traps { pending = pending } }

-- interrupt 3 of a sampling channel and 4 of a queue come at a destination that is made; a partition that has halted hears of none, and
-- a message that is taken brings none
pub record HearingRows : Type 0 where
  pub sampling : (memory : Memory) → Hears 1 Ready all_made 8 memory × Hears 1 Idle all_made 8 memory × Hears 1 Suspended all_made 8 memory
  pub queuing : (memory : Memory) → Hears 3 Ready all_made 16 memory × Hears 3 Suspended all_made 16 memory
  pub halted : (memory : Memory) → Hears 1 Halted all_made 0 memory × Hears 3 Halted all_made 0 memory
  pub second_port : (memory : Memory) → Hears 1 Ready (with_port 5 no_ports) 8 memory
  pub not_made : (memory : Memory) → Hears 1 Ready (with_port 3 no_ports) 0 memory × Hears 3 Ready no_ports 0 memory
  pub source : (memory : Memory) → Hears 0 Ready all_made 0 memory × Hears 2 Ready all_made 0 memory
  pub taken : (memory : Memory) → hearing (view_of_ports 0) (OwnTakes 3) (in_state Ready all_made memory) ≡ in_state Ready all_made memory

-- the four states
abbrev pub states : List State
states = Ready ∷ Idle ∷ Suspended ∷ Halted ∷ []

-- the states that an order leaves instead of these, and what it emits in each
abbrev pub LeavesStates : Order → List State → Memory → Type 0
LeavesStates an_order after memory = map (λ state. (ordered (view_for false) an_order (in_state state no_ports memory)).state) states ≡ after

abbrev pub EmitsInEach : Order → List (List Emission) → Memory → Type 0
EmitsInEach an_order emitted memory = map (λ state. ordered_emissions an_order (in_state state no_ports memory)) states ≡ emitted

-- whether an order makes interrupt 2 pending in each
abbrev pub RaisesInEach : Order → List ℕ → Memory → Type 0
RaisesInEach an_order pending memory = map (λ state. (ordered (view_for false) an_order (in_state state no_ports memory)).traps.pending) states ≡ pending

pub record OrderRows : Type 0 where
  pub halt : (memory : Memory) → LeavesStates order.Halt (Halted ∷ Halted ∷ Halted ∷ Halted ∷ []) memory
      × EmitsInEach order.Halt ((Moved move.Halt ∷ []) ∷ (Moved move.Halt ∷ []) ∷ (Moved move.Halt ∷ []) ∷ [] ∷ []) memory
  pub suspend : (memory : Memory) → LeavesStates order.Suspend (Suspended ∷ Suspended ∷ Suspended ∷ Halted ∷ []) memory
      × EmitsInEach order.Suspend ((Moved move.Suspend ∷ []) ∷ (Moved move.Suspend ∷ []) ∷ [] ∷ [] ∷ []) memory
  pub resume : (memory : Memory) → LeavesStates order.Resume (Ready ∷ Idle ∷ Ready ∷ Halted ∷ []) memory
      × EmitsInEach order.Resume ([] ∷ [] ∷ (Moved move.Resume ∷ []) ∷ [] ∷ []) memory
  pub shutdown : (memory : Memory) → LeavesStates order.Shutdown states memory
      × EmitsInEach order.Shutdown ([] ∷ [] ∷ [] ∷ [] ∷ []) memory
      × RaisesInEach order.Shutdown (4 ∷ 4 ∷ 4 ∷ 0 ∷ []) memory
  pub reset : (memory : Memory) → LeavesStates (order.Reset Cold 9) (Ready ∷ Ready ∷ Ready ∷ Ready ∷ []) memory
      × EmitsInEach (order.Reset Warm 9) ((Moved move.Warm ∷ []) ∷ (Moved move.Warm ∷ []) ∷ (Moved move.Warm ∷ []) ∷ (Moved move.Warm ∷ []) ∷ []) memory

-- the counters of resets go on modulo 2^32: a partition's, and the hypervisor's
pub record CounterRows : Type 0 where
  pub part : (memory : Memory) →
      (ordered (view_for false) (order.Reset Warm 9) (record (with_call [] memory) { resets = 2 ^ 32 - 1 })).resets ≡ 0
      × (ordered (view_for false) (order.Reset Warm 9) (record (with_call [] memory) { resets = 2 ^ 32 - 2 })).resets ≡ 2 ^ 32 - 1
      × (ordered (view_for false) (order.Reset Cold 9) (record (with_call [] memory) { resets = 7 })).resets ≡ 0
  pub whole : whole_resets_after (AllReset Warm) (2 ^ 32 - 1) ≡ 0 × whole_resets_after (AllReset Warm) 7 ≡ 8 × whole_resets_after (AllReset Cold) 7 ≡ 0

-- a system of two partitions at the ends of a queue, under three plans; each has two input words
abbrev pub used_system : Action → System
used_system an_action = record {
  conf = small_conf (halves ∷ halves ∷ halves ∷ []) (parts_at_ends an_action) (queue ∷ []);
  images = entered_at (0x40000000 ∷ 0x40000100 ∷ []);
  inputs = (0x29 ∷ 0x2a ∷ []) ∷ (0x39 ∷ 0x3a ∷ []) ∷ [];
}

-- a partition at an address that has something of all that a reset takes away or leaves: it was reset five times, is in another window, takes traps, has an
-- interrupt that waits but is masked, ticks of its own, both timers, a made port, a trace entry and a health entry, and this input word is left
abbrev pub used : ℕ → ℕ → Memory → PartitionState
used entry input memory = record (at entry memory) {
  core = in_window (registers_started entry) 6;
  traps = record { enabled = true; base = 0x4000_1000; pending = 1; mask = 0xffff_fffd };
  clocks = record { execution = 7; hardware_timer = Some (timer 100 1); execution_timer = Some (timer 200 2) };
  resets = 5;
  reset_status = 9;
  made = with_port 0 no_ports;
  traces = traces;
  health = healths;
  inputs = input ∷ [];
}

-- two such partitions, the second of which has halted, after seven resets of all, where the queue holds a message: the first tick of a frame of plan 1, with
-- plan 2 asked for
abbrev pub used_machine : Action → Memory → Memory → Machine
used_machine an_action one other = record {
  system = used_system an_action;
  parts = used 0x40000000 0x2a one ∷ record (used 0x40000100 0x3a other) { state = Halted } ∷ [];
  channels = Queuing ((0x68 ∷ 0x69 ∷ []) ∷ []) ∷ [];
  clock = record { plan = 1; frame_start = 4; asked = Some 2 };
  time = 4;
  ticks = 9;
  resets = 7;
  halted = false;
}

-- a partition that begins again after this many resets: it has its traces, these health entries and the input word that is left
abbrev pub begun_again : ℕ → ℕ → Kept HealthEntry → ℕ → Memory → PartitionState
begun_again entry resets health input memory = record (at entry memory) { resets = resets; traces = traces; health = health; inputs = input ∷ [] }

-- the first one's health entries after an illegal instruction that resets all
abbrev pub healths_after : Action → Kept HealthEntry
healths_after an_action =
    kept_of 2 (healths.entries ++ record { time = 4; seq = 1; event = event.SparcIllegalInstruction; action = an_action; word = 0x40000000 } ∷ [])

-- an illegal instruction resets all in a mode: each partition begins again, also one that has halted, after this many resets of its own, with this memory by
-- its number; the queue is empty, plan 0 begins, nothing is asked for, and this many resets of all are counted
abbrev pub ResetsAll : Action → Move → ℕ → ℕ → (ℕ → Memory → Memory) → Type 0
ResetsAll an_action to own_resets resets memory_of = (one other : Memory) → IsIllegal an_action one
    → Prints (used_machine an_action one other) 1
    (HealthLine 9 0 event.SparcIllegalInstruction 0x40000000 an_action ∷ WholeLine 9 to ∷ MovedLine 9 0 to ∷ MovedLine 9 1 to ∷ PlanLine 9 0
    ∷ EndPart 0 Ready own_resets 0 0x40000000 ∷ EndPart 1 Ready own_resets 0 0x40000100 ∷ EndWhole false 0 0 10 ∷ [])
    × Leaves (λ g. g.parts) (used_machine an_action one other) 1
    (begun_again 0x40000000 own_resets (healths_after an_action) 0x2a (memory_of 0 one) ∷ begun_again 0x40000100 own_resets healths 0x3a (memory_of 1 other) ∷ [])
    × Leaves (λ g. g.channels) (used_machine an_action one other) 1 (Queuing [] ∷ [])
    × Leaves (λ g. g.clock) (used_machine an_action one other) 1 (frame_from 0 0)
    × Leaves (λ g. g.resets) (used_machine an_action one other) 1 resets

-- HYPERVISOR_COLD_RESET loads each image again, and no reset is counted; HYPERVISOR_WARM_RESET leaves the memories, and each reset is counted
pub record ResetRows : Type 0 where
  pub cold : ResetsAll action.HypervisorColdReset move.Cold 0 0 (λ p memory. loaded_memory (view_of (used_system action.HypervisorColdReset) p))
  pub warm : ResetsAll action.HypervisorWarmReset move.Warm 6 8 (λ p memory. memory)

-- a partition with a console
abbrev pub with_console : Option ℕ → Part → Part
with_console uart part = record part { console = uart }

-- another partition that calls: an instruction, and 20 bytes after it
abbrev pub other_caller : Part
other_caller = plain_part 0x40000100 24

-- two partitions in the slot of the first, which writes two bytes to its console
abbrev pub consoles : Option ℕ → Option ℕ → Memory → Memory → Machine
consoles uart other_uart one other =
    machine (small_conf (whole_frame ∷ []) (with_console uart (caller false) ∷ with_console other_uart (plain_part 0x40000100 8) ∷ []) []) (0x40000000 ∷ 0x40000100 ∷ []) 1
    (calling 0x40000000 (32 ∷ 0x40000004 ∷ 2 ∷ []) one ∷ at 0x40000100 other ∷ [])

-- two partitions in the second one's slot, in which it writes two bytes
abbrev pub other_consoles : Option ℕ → Option ℕ → Memory → Memory → Machine
other_consoles uart other_uart one other =
    machine (small_conf (halves ∷ []) (with_console uart (caller false) ∷ with_console other_uart other_caller ∷ []) []) (0x40000000 ∷ 0x40000100 ∷ []) 2
    (at 0x40000000 one ∷ calling 0x40000100 (32 ∷ 0x40000104 ∷ 2 ∷ []) other ∷ [])

-- a partition alone with a console, which traces eight bytes
abbrev pub tracing_alone : Memory → Machine
tracing_alone memory = by_itself (with_console (Some 0) tracer) (calling 0x40000000 (24 ∷ 3 ∷ 0x40000004 ∷ []) memory)

-- a UART gets these bytes in that tick
pub record Gets (g : Machine) (uart : ℕ) (bytes : List ℕ) : Type 0 where
  pub got : console g 1 uart ≡ bytes

-- a UART gets the bytes of the partitions whose console it is, and of no others, whichever of them writes; what is traced goes to no UART
pub record WritesToItsConsole : Type 0 where
  pub first : (one other : Memory) → Calls (caller false) one
      → Gets (consoles (Some 1) (Some 0) one other) 1 (bytes_at one 0x40000004 2)
      × Gets (consoles (Some 1) (Some 0) one other) 0 []
      × Gets (consoles (Some 1) (Some 1) one other) 1 (bytes_at one 0x40000004 2)
      × Gets (consoles None (Some 0) one other) 0 []
  pub second : (one other : Memory) → Holds other_caller other 0x40000100 0x91d02070
      → Gets (other_consoles (Some 1) (Some 0) one other) 0 (bytes_at other 0x40000104 2)
      × Gets (other_consoles (Some 1) (Some 0) one other) 1 []
      × Gets (other_consoles (Some 1) (Some 1) one other) 1 (bytes_at other 0x40000104 2)
      × Gets (other_consoles (Some 1) None one other) 1 []
  pub traced : (memory : Memory) → Calls (caller false) memory → Gets (tracing_alone memory) 0 []
