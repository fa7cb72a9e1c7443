-- Rows on health events: what each action does, what is entered and reported, deliveries that fail, and calls that end in an event.
use Rattle.std.specs.Prelude.{◌≡◌, ℕ, ◌-◌, ◌^◌, Bool, true, false, List, [], ◌∷◌, map, replicate, Some, None}
use Rattle.guest_bus.specs.Memory.{Memory}
use Rattle.health_monitor.specs.Monitor.{effect_of, event_of_type}
use Rattle.health_monitor.specs.declared.entry.HealthEntry.{HealthEntry}
use Rattle.sparc_step.specs.Registers.{Registers, in_window, registers_started}
use Rattle.virt_clocks.specs.Clocks.{no_clocks}
use Rattle.virt_traps.specs.Virtual.{VirtualTraps, no_traps}
use Rattle.xm_base.specs.declared.partition.Mode.TheVariants as mode
use Rattle.xm_base.specs.declared.partition.State.TheVariants.{Suspended, Halted}
use Rattle.xm_conf.specs.Health.{events}
use Rattle.xm_conf.specs.declared.health.Action.{Action}
use Rattle.xm_conf.specs.declared.health.Action.TheVariants as action
use Rattle.xm_conf.specs.declared.health.Event.{Event}
use Rattle.xm_conf.specs.declared.health.Event.TheVariants as event
use Rattle.xm_ports.specs.Ports.{no_ports, with_port}
use Rattle.xm_report.specs.declared.line.Move.TheVariants as move
use Rattle.xm_traces.specs.Ring.{kept_of}
use Rattle.machine_model.specs.Health.{event_handled, interrupt_delivered, is_passed_over}
use Rattle.machine_model.specs.LocalTick.{called}
use Rattle.machine_model.specs.rows.LogCallRows.{health_3, health_4}
use Rattle.machine_model.specs.Partition.{PartitionState, loaded_memory}
use Rattle.machine_model.specs.rows.ProcessorCallRows.{below_top, in_trap, top_spilled, with_core}
use Rattle.machine_model.specs.rows.Rows.{at, with_outs}
use Rattle.machine_model.specs.rows.ServedRows.{calling_part, made_by, view_for, with_call, with_o0}
use Rattle.machine_model.specs.rows.TimeCallRows.{timer}
use Rattle.machine_model.specs.Emission.{Act, AllHalted, AllReset, Health, Maintenance, Moved, Nothing, Plans, Emission, UponAll}
use Rattle.machine_model.specs.View.{PartitionView}

-- the events of trap types, those of section 7 of the SPARC V8 manual and two that have none of their own
abbrev pub TrapsHaveEvents : Type 0
TrapsHaveEvents =
    map event_of_type (0x01 ∷ 0x02 ∷ 0x03 ∷ 0x04 ∷ 0x05 ∷ 0x06 ∷ 0x07 ∷ 0x09 ∷ 0x0a ∷ 0x24 ∷ 0x2a ∷ 0x08 ∷ 0xe0 ∷ [])
    ≡ event.SparcInstrAccess ∷ event.SparcIllegalInstruction ∷ event.SparcPrivilegedInstruction ∷ event.SparcFpDisabled
    ∷ event.MemProtection ∷ event.MemProtection ∷ event.SparcAddressNotAligned ∷ event.SparcDataAccess ∷ event.SparcTagOverflow
    ∷ event.SparcCpDisabled ∷ event.SparcDivideException ∷ event.UnexpectedTrap ∷ event.UnexpectedTrap ∷ []

-- each event but a raised one is passed over where the action does so, and none where it does not
abbrev pub EventsPassOver : Type 0
EventsPassOver =
    (map (λ an_event. is_passed_over an_event (effect_of action.Ignore true)) events
    ≡ false ∷ true ∷ true ∷ true ∷ true ∷ true ∷ true ∷ true ∷ true ∷ true ∷ true ∷ true ∷ [])
    × (map (λ an_event. is_passed_over an_event (effect_of action.Halt true)) events ≡ replicate 12 false)

-- a partition with this action for each event and these log flags
abbrev pub view_with : Action → ℕ → PartitionView
view_with an_action logged = record (view_for false) {
  part = record (calling_part false) { hm = record { actions = replicate 12 an_action; logged = logged } };
  image = record { entry = 0x1000; segments = [] };
}

-- the registers of a partition in a window, in the delay slot of a jump
abbrev pub struck_core : ℕ → Registers
struck_core window = record (in_window (registers_started 0x1010) window) { npc = 0x1020 }

-- its virtual traps, with interrupts 0 and 5 pending
abbrev pub struck_traps : Bool → VirtualTraps
struck_traps enabled = record { enabled = enabled; base = 0x4000_1000; pending = 33; mask = 0xffff_ffff }

-- a partition that meets an event: it was reset so often, it has a made port, an armed timer, entries and an input word, and takes traps or not
abbrev pub struck : ℕ → ℕ → Bool → Memory → PartitionState
struck resets window enabled memory = record (at 0x1010 memory) {
  core = struck_core window;
  traps = struck_traps enabled;
  clocks = record no_clocks { execution = 7; hardware_timer = Some (timer 100 1) };
  resets = resets;
  reset_status = 10;
  made = with_port 1 no_ports;
  health = kept_of 5 (health_3 ∷ health_4 ∷ []);
  inputs = 0x2a ∷ [];
}

-- an entry of tick 9 with a number
abbrev pub entry : ℕ → Event → Action → ℕ → HealthEntry
entry seq an_event an_action word = record { time = 9; seq = seq; event = an_event; action = an_action; word = word }

-- the partition with one further entry
abbrev pub with_health_entry : HealthEntry → PartitionState → PartitionState
with_health_entry one ps = record ps { health = kept_of 6 (health_3 ∷ health_4 ∷ one ∷ []) }

-- the partition after the instruction
abbrev pub after_instruction : PartitionState → PartitionState
after_instruction ps = record ps { core = record ps.core { pc = 0x1020; npc = 0x1024 } }

-- the partition that has halted, with its timer disarmed
abbrev pub halted : PartitionState → PartitionState
halted ps = record ps { state = Halted; clocks = record no_clocks { execution = 7 } }

-- the partition as it begins again, after this many resets
abbrev pub restarted : ℕ → PartitionState → PartitionState
restarted resets ps = record ps {
  core = registers_started 0x1000;
  traps = no_traps;
  clocks = no_clocks;
  resets = resets;
  reset_status = 0;
  made = no_ports;
}

-- the outcome of an illegal instruction of this partition, under an action and log flags, is this
abbrev pub Meets : Action → ℕ → PartitionState → PartitionState → List Emission → Act → Type 0
Meets an_action logged ps after emitted act =
    event_handled (view_with an_action logged) 9 event.SparcIllegalInstruction 0x1010 (Some 2) ps ≡ record { after = after; emitted = emitted; act = act }

-- an action changes the partition so, emits this further, and has this act. Where the flag of the event is set, which is bit 3, the event is entered
-- and reported first, with this action; where it alone is not set it is neither
abbrev pub ActionDoes : Action → ℕ → Bool → Action → (PartitionState → PartitionState) → List Emission → Act → Type 0
ActionDoes an_action resets enabled shown change emitted act = (memory : Memory) →
    Meets an_action 8 (struck resets 7 enabled memory) (change (with_health_entry (entry 5 event.SparcIllegalInstruction shown 0x1010) (struck resets 7 enabled memory)))
    (Health event.SparcIllegalInstruction 0x1010 shown ∷ emitted) act
    × Meets an_action 0xff7 (struck resets 7 enabled memory) (change (struck resets 7 enabled memory)) emitted act

-- the partition at the entry of trap 2 in its table
abbrev pub in_table : PartitionState → PartitionState
in_table ps = record ps {
  core = record (with_outs 16 (0xa7 ∷ 0x1010 ∷ 0x1020 ∷ []) (in_window (struck_core 7) 6)) { pc = 0x4000_1020; npc = 0x4000_1024 };
  traps = struck_traps false;
}

-- what each action does; where traps are disabled PROPAGATE is HALT; a warm reset counts modulo 2^32
pub record ActionRows : Type 0 where
  pub ignore : ActionDoes action.Ignore 3 true action.Ignore after_instruction [] Nothing
  pub shutdown : ActionDoes action.Shutdown 3 true action.Shutdown (λ ps. record (after_instruction ps) { traps = record ps.traps { pending = 37 } }) [] Nothing
  pub cold_reset : ActionDoes action.PartitionColdReset 3 true action.PartitionColdReset
      (λ ps. record (restarted 0 ps) { memory = loaded_memory (view_with action.PartitionColdReset 0) }) (Moved move.Cold ∷ []) Nothing
  pub warm_reset : ActionDoes action.PartitionWarmReset 3 true action.PartitionWarmReset (restarted 4) (Moved move.Warm ∷ []) Nothing
  pub last_reset : ActionDoes action.PartitionWarmReset (2 ^ 32 - 1) true action.PartitionWarmReset (restarted 0) (Moved move.Warm ∷ []) Nothing
  pub suspend : ActionDoes action.Suspend 3 true action.Suspend (λ ps. record (after_instruction ps) { state = Suspended }) (Moved move.Suspend ∷ []) Nothing
  pub halt : ActionDoes action.Halt 3 true action.Halt halted (Moved move.Halt ∷ []) Nothing
  pub propagate : ActionDoes action.Propagate 3 true action.Propagate in_table [] Nothing
  pub propagate_disabled : ActionDoes action.Propagate 3 false action.Halt halted (Moved move.Halt ∷ []) Nothing
  pub hypervisor_cold_reset : ActionDoes action.HypervisorColdReset 3 true action.HypervisorColdReset (λ ps. ps) [] (UponAll (AllReset mode.Cold))
  pub hypervisor_warm_reset : ActionDoes action.HypervisorWarmReset 3 true action.HypervisorWarmReset (λ ps. ps) [] (UponAll (AllReset mode.Warm))
  pub hypervisor_halt : ActionDoes action.HypervisorHalt 3 true action.HypervisorHalt (λ ps. ps) [] (UponAll AllHalted)
  pub maintenance : ActionDoes action.SwitchToMaintenance 3 true action.SwitchToMaintenance after_instruction [] (Plans Maintenance)

-- a raised event: its word is that of the call, and the partition is past the call already
abbrev pub RaisesWithWord : Action → (PartitionState → PartitionState) → List Emission → Act → Type 0
RaisesWithWord an_action change emitted act = (memory : Memory) →
    event_handled (view_with an_action 1) 9 event.PartitionError 42 None (struck 3 7 true memory)
    ≡ record {
      after = change (with_health_entry (entry 5 event.PartitionError an_action 42) (struck 3 7 true memory));
      emitted = Health event.PartitionError 42 an_action ∷ emitted;
      act = act;
    }

pub record RaisedRows : Type 0 where
  pub ignore : RaisesWithWord action.Ignore (λ ps. ps) [] Nothing
  pub suspend : RaisesWithWord action.Suspend (λ ps. record ps { state = Suspended }) (Moved move.Suspend ∷ []) Nothing
  pub halt : RaisesWithWord action.Halt halted (Moved move.Halt ∷ []) Nothing
  pub maintenance : RaisesWithWord action.SwitchToMaintenance (λ ps. ps) [] (Plans Maintenance)

-- a partition that has halted with these entries after its earlier ones
abbrev pub halted_with : List HealthEntry → ℕ → PartitionState → PartitionState
halted_with entries next ps = record (halted ps) { health = kept_of next (health_3 ∷ health_4 ∷ entries) }

-- a delivery that fails, in window 1 with no stack to spill to: whatever the log flags, MEM_PROTECTION with HALT is entered and reported, its word being
-- the program counter; an interrupt stays pending
abbrev pub trap_fails : Memory → PartitionState
trap_fails memory = struck 3 1 true memory

pub record DeliveryRows : Type 0 where
  pub unlogged : (memory : Memory) → Meets action.Propagate 0 (trap_fails memory)
      (halted_with (entry 5 event.MemProtection action.Halt 0x1010 ∷ []) 6 (trap_fails memory))
      (Health event.MemProtection 0x1010 action.Halt ∷ Moved move.Halt ∷ []) Nothing
  pub logged : (memory : Memory) → Meets action.Propagate 8 (trap_fails memory)
      (halted_with (entry 5 event.SparcIllegalInstruction action.Propagate 0x1010 ∷ entry 6 event.MemProtection action.Halt 0x1010 ∷ []) 7 (trap_fails memory))
      (Health event.SparcIllegalInstruction 0x1010 action.Propagate ∷ Health event.MemProtection 0x1010 action.Halt ∷ Moved move.Halt ∷ []) Nothing
  pub interrupt : (memory : Memory) → interrupt_delivered (view_with action.Ignore 0) 9 0 (trap_fails memory)
      ≡ record {
        after = halted_with (entry 5 event.MemProtection action.Halt 0x1010 ∷ []) 6 (trap_fails memory);
        emitted = Health event.MemProtection 0x1010 action.Halt ∷ Moved move.Halt ∷ [];
        act = Nothing;
      }
  pub delivered : (memory : Memory) → interrupt_delivered (view_with action.Ignore 0) 9 5 (struck 3 7 true memory)
      ≡ record {
        after = record (struck 3 7 true memory) {
          core = record (with_outs 16 (0xa7 ∷ 0x1010 ∷ 0x1020 ∷ []) (in_window (struck_core 7) 6)) { pc = 0x4000_1e50; npc = 0x4000_1e54 };
          traps = record (struck_traps false) { pending = 1 };
        };
        emitted = [];
        act = Nothing;
      }
  pub same_type : (memory : Memory) → event_handled (view_with action.Propagate 0) 9 event.UnexpectedTrap 0x1010 (Some 0xe0) (struck 3 7 true memory)
      ≡ record {
        after = record (struck 3 7 true memory) {
          core = record (with_outs 16 (0xa7 ∷ 0x1010 ∷ 0x1020 ∷ []) (in_window (struck_core 7) 6)) { pc = 0x4000_1e00; npc = 0x4000_1e04 };
          traps = struck_traps false;
        };
        emitted = [];
        act = Nothing;
      }

-- a call that is undone, and the action for MEM_PROTECTION, whose flag is bit 1: the word is the program counter of the call, from which passing over starts;
-- no result is written, and the tick is counted.
-- Such a partition is at the call again, in the tick that is counted
abbrev pub at_call : PartitionState → PartitionState
at_call ps = record ps {
  core = record ps.core { pc = 0x1004; npc = 0x1020 };
  clocks = record no_clocks { execution = 1 };
  health = kept_of 1 (entry 0 event.MemProtection action.Shutdown 0x1004 ∷ []);
}

abbrev pub shut_down : PartitionState → PartitionState
shut_down ps = record (at_call ps) { core = record ps.core { pc = 0x1020; npc = 0x1024 }; traps = record no_traps { pending = 4 } }

-- the registers of a return that cannot load the window above
abbrev pub lacking : Registers
lacking = with_outs 30 (0x1008 ∷ []) (in_trap 7 (0 ∷ 0x1010 ∷ 0x1018 ∷ []))

pub record UndoneRows : Type 0 where
  pub iret : (memory : Memory) → called (made_by (view_with action.Shutdown 2) (with_core lacking memory))
      ≡ record { after = shut_down (with_core lacking memory); emitted = Health event.MemProtection 0x1004 action.Shutdown ∷ []; act = Nothing }
  pub flush : (memory : Memory) → called (made_by (view_with action.Shutdown 2) (with_core (below_top 5 0x1000) memory))
      ≡ record { after = shut_down (top_spilled 5 0x1000 memory); emitted = Health event.MemProtection 0x1004 action.Shutdown ∷ []; act = Nothing }
  pub halts : (memory : Memory) → called (made_by (view_with action.Halt 0) (with_core lacking memory))
      ≡ record {
        after = record (with_core lacking memory) { core = record lacking { pc = 0x1004; npc = 0x1020 }; state = Halted; clocks = record no_clocks { execution = 1 } };
        emitted = Moved move.Halt ∷ [];
        act = Nothing;
      }
  pub raised : (memory : Memory) → called (made_by (view_with action.Suspend 0) (with_call (27 ∷ 42 ∷ []) memory))
      ≡ record {
        after = record (with_o0 0 (with_call (27 ∷ 42 ∷ []) memory)) { state = Suspended; clocks = record no_clocks { execution = 1 } };
        emitted = Moved move.Suspend ∷ [];
        act = Nothing;
      }
