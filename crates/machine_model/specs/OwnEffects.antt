-- The outcome of the effects on the caller's own things: a trace, the console, an input word, masked interrupts, the way back from a trap, and the windows.
use Rattle.std.specs.Prelude.{ℕ, if◌then◌else◌, ◌%◌, ◌+◌, ◌==◌, ◌∷◌, suc, zero, Err, List, Ok, Result, []}
use Rattle.guest_bus.specs.Memory.{Area}
use Rattle.virt_traps.specs.Delivery.{Returned}
use Rattle.virt_traps.specs.Moves.{Moved, spilled}
use Rattle.virt_traps.specs.declared.delivery.IretFault.TheVariants.{Stack, Unaligned}
use Rattle.virt_traps.specs.declared.delivery.IretFault.{IretFault}
use Rattle.virt_traps.specs.declared.windows.StackFault.{StackFault}
use Rattle.xm_conf.specs.declared.health.Event.TheVariants.{MemProtection}
use Rattle.xm_traces.specs.Ring.{noted}
use Rattle.xm_traces.specs.declared.entry.TraceEntry.{TraceEntry}
use Rattle.machine_model.specs.Caller.{Acts, Caller, Meets, Served, a_of, answering, b_of, caller_bytes, invalid_parameter, not_available, room, tested, with_written}
use Rattle.machine_model.specs.Partition.{PartitionState}
use Rattle.machine_model.specs.Structures.{word}
use Rattle.machine_model.specs.Emission.{Console, Nothing, Emission, Trace}

-- the trace entry of a call: the clock, the bits a, and 8 bytes at b
abbrev pub trace_entry : Caller → TraceEntry
trace_entry caller = record {
  time = caller.time;
  bits = a_of caller;
  seq = caller.state.traces.next;
  load = caller_bytes caller (b_of caller) 8;
}

-- the entry is noted and emitted
abbrev pub tracing : Caller → Served
tracing caller = record (answering 0 (record caller.state { traces = noted (trace_entry caller) caller.state.traces })) {
  emitted = Trace (a_of caller) (caller_bytes caller (b_of caller) 8) ∷ [];
}

-- the partition with another mask of interrupts
abbrev pub with_mask : ℕ → PartitionState → PartitionState
with_mask mask ps = record ps { traps = record ps.traps { mask = mask } }

-- a console call prints where it has bytes
abbrev pub printed : List ℕ → List Emission
printed [] = []
printed (byte ∷ bytes) = Console (byte ∷ bytes) ∷ []

-- the next input word is written at a, and is used
abbrev pub input_read : List ℕ → Caller → Served
input_read [] caller = answering not_available caller.state
input_read (next ∷ rest) caller =
    tested (room caller (a_of caller) 4 ∷ []) caller
    (answering 0 (record (with_written (a_of caller) (word next) caller.state) { inputs = rest }))

-- a call that met a stack fault: it is undone, so that the program is at it again, and the event MEM_PROTECTION has its pc as word
abbrev pub undone : Caller → PartitionState → Served
undone caller ps = record {
  after = record ps { core = record ps.core { pc = caller.pc; npc = caller.npc } };
  emitted = [];
  upshot = Meets MemProtection caller.pc;
}

-- the partition back from a trap, with no result
abbrev pub by_return : Result (Unit {0}) IretFault → Returned → Caller → Served
by_return (Ok left) r caller = record { after = record caller.state { core = r.core; traps = r.traps }; emitted = []; upshot = Acts Nothing }
by_return (Err Unaligned) r caller = answering invalid_parameter caller.state
by_return (Err Stack) r caller = undone caller caller.state

-- the windows spilled until all but the current one are, at most this many; a refused spill ends it, and the spills before it stay
abbrev pub flushed_after : (Moved → Moved) → Moved → Result (Unit {0}) StackFault → Moved
flushed_after further moved (Ok one) = further moved
flushed_after further moved (Err fault) = moved

abbrev pub flushed : ℕ → List Area → Moved → Moved
flushed zero areas moved = moved
flushed (suc count) areas moved =
    if (moved.core.cwp + 1) % 8 == moved.core.inv then moved
    else
    let next = spilled areas moved.core moved.memory in
    flushed_after (flushed count areas) next next.answer

-- the windows after the flush
abbrev pub by_flush : Result (Unit {0}) StackFault → PartitionState → Caller → Served
by_flush (Ok all) ps caller = answering 0 ps
by_flush (Err fault) ps caller = undone caller ps
