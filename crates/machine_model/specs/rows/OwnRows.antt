-- Rows on the calls that a partition makes for itself, and on those that reach the whole system.
use Rattle.std.specs.Prelude.{ℕ, ◌-◌, ◌^◌, true, false, List, [], ◌∷◌, Some}
use Rattle.guest_bus.specs.Memory.{Memory, bytes_at, with_bytes}
use Rattle.sparc_step.specs.Registers.{in_window, registers_started}
use Rattle.virt_clocks.specs.Clocks.{no_clocks}
use Rattle.xm_base.specs.declared.partition.State.TheVariants.{Ready, Idle}
use Rattle.xm_conf.specs.Configuration.{Part}
use Rattle.xm_report.specs.Report.{TraceLine, MovedLine, WholeLine, EndPart, EndWhole}
use Rattle.xm_report.specs.declared.line.Move.TheVariants as move
use Rattle.xm_traces.specs.Ring.{kept_of}
use Rattle.machine_model.specs.Machine.{Machine}
use Rattle.machine_model.specs.Partition.{PartitionState}
use Rattle.machine_model.specs.rows.Rows.{Leaves, Prints, at, calling, small_conf, machine, of_part, whole_frame, with_outs}
use Rattle.machine_model.specs.rows.CallRows.{Calls, after_answer, caller, healths}
use Rattle.machine_model.specs.rows.TrapRows.{with_table}

-- a partition alone, in the second tick of a frame
abbrev pub by_itself : Part → PartitionState → Machine
by_itself part ps = machine (small_conf (whole_frame ∷ []) (part ∷ []) []) (0x40000000 ∷ []) 1 (ps ∷ [])

-- it makes a call with these arguments
abbrev pub asking : List ℕ → Memory → Machine
asking outs memory = by_itself (caller false) (calling 0x40000000 outs memory)

-- it is the same as before but for what follows a call that answers so
abbrev pub after_request : ℕ → List ℕ → Memory → PartitionState
after_request value outs memory = after_answer value (calling 0x40000000 outs memory)

-- a partition whose trace mask has bit 0 alone
abbrev pub tracer : Part
tracer = record (caller false) { trace_mask = 1 }

-- a trace with a bit in the mask is emitted, and entered with its time, its number and eight bytes
abbrev pub TracesInMask : Type 0
TracesInMask = (memory : Memory) → Calls (caller false) memory
    → Prints (by_itself tracer (calling 0x40000000 (24 ∷ 3 ∷ 0x40000004 ∷ []) memory)) 1
    (TraceLine 1 0 3 (bytes_at memory 0x40000004 8) ∷ EndPart 0 Ready 0 1 0x40000004 ∷ EndWhole false 0 2 2 ∷ [])
    × Leaves (of_part (λ ps. ps.traces) 0) (by_itself tracer (calling 0x40000000 (24 ∷ 3 ∷ 0x40000004 ∷ []) memory)) 1
    (Some (kept_of 1 (record { time = 1; bits = 3; seq = 0; load = bytes_at memory 0x40000004 8 } ∷ [])))

-- one with none answers -1, and is neither emitted nor entered
abbrev pub TracesNotElse : Type 0
TracesNotElse = (memory : Memory) → Calls (caller false) memory
    → Prints (by_itself tracer (calling 0x40000000 (24 ∷ 2 ∷ 0x40000004 ∷ []) memory)) 1 (EndPart 0 Ready 0 1 0x40000004 ∷ EndWhole false 0 2 2 ∷ [])
    × Leaves (λ g. g.parts) (by_itself tracer (calling 0x40000000 (24 ∷ 2 ∷ 0x40000004 ∷ []) memory)) 1
    (after_request (2 ^ 32 - 1) (24 ∷ 2 ∷ 0x40000004 ∷ []) memory ∷ [])

-- a timer on the hardware clock is set with its deadline and its interval
abbrev pub SetsTimer : Type 0
SetsTimer = (memory : Memory) → Calls (caller false) memory
    → Leaves (λ g. g.parts) (asking (13 ∷ 0 ∷ 0 ∷ 5 ∷ 0 ∷ 2 ∷ []) memory) 1
    (record (after_request 0 (13 ∷ 0 ∷ 0 ∷ 5 ∷ 0 ∷ 2 ∷ []) memory) {
      clocks = record no_clocks { execution = 1; hardware_timer = Some (record { deadline = 5; interval = 2 }) };
    } ∷ [])

-- a deadline below zero is refused with -3
abbrev pub RefusesDeadline : Type 0
RefusesDeadline = (memory : Memory) → Calls (caller false) memory
    → Leaves (λ g. g.parts) (asking (13 ∷ 0 ∷ 2 ^ 31 ∷ 0 ∷ 0 ∷ 0 ∷ []) memory) 1
    (after_request (2 ^ 32 - 3) (13 ∷ 0 ∷ 2 ^ 31 ∷ 0 ∷ 0 ∷ 0 ∷ []) memory ∷ [])

-- a partition that asks for a clock, after seven ticks of its own
abbrev pub timing : ℕ → Memory → PartitionState
timing clock memory = record (calling 0x40000000 (12 ∷ clock ∷ 0x40000004 ∷ []) memory) { clocks = record no_clocks { execution = 7 } }

-- the hardware clock is 1 in tick 1, and the execution clock has the ticks before this one; the value is written in eight bytes
abbrev pub ShowsClocks : Type 0
ShowsClocks = (memory : Memory) → Calls (caller false) memory
    → Leaves (of_part (λ ps. ps.memory) 0) (by_itself (caller false) (timing 0 memory)) 1
    (Some (with_bytes memory 0x40000004 (0 ∷ 0 ∷ 0 ∷ 0 ∷ 0 ∷ 0 ∷ 0 ∷ 1 ∷ [])))
    × Leaves (of_part (λ ps. ps.memory) 0) (by_itself (caller false) (timing 1 memory)) 1
    (Some (with_bytes memory 0x40000004 (0 ∷ 0 ∷ 0 ∷ 0 ∷ 0 ∷ 0 ∷ 0 ∷ 7 ∷ [])))

-- a partition with these input words, which asks for one
abbrev pub part_reading_input : List ℕ → Memory → PartitionState
part_reading_input inputs memory = record (calling 0x40000000 (33 ∷ 0x40000004 ∷ []) memory) { inputs = inputs }

-- the first input word is written, and the others are left; where none is left the answer is -7
abbrev pub ReadsInput : Type 0
ReadsInput = (memory : Memory) → Calls (caller false) memory
    → Leaves (λ g. g.parts) (by_itself (caller false) (part_reading_input (0x2a ∷ 7 ∷ []) memory)) 1
    (record (after_answer 0 (part_reading_input (7 ∷ []) memory)) { memory = with_bytes memory 0x40000004 (0 ∷ 0 ∷ 0 ∷ 0x2a ∷ []) } ∷ [])
    × Leaves (λ g. g.parts) (by_itself (caller false) (part_reading_input [] memory)) 1 (after_answer (2 ^ 32 - 7) (part_reading_input [] memory) ∷ [])

-- a partition that waits is idle from the next tick on
abbrev pub Idles : Type 0
Idles = (memory : Memory) → Calls (caller false) memory
    → Leaves (λ g. g.parts) (asking (7 ∷ []) memory) 1 (record (after_request 0 (7 ∷ []) memory) { state = Idle } ∷ [])

-- a number that is no call's answers -2
abbrev pub UnknownCall : Type 0
UnknownCall = (memory : Memory) → Calls (caller false) memory
    → Leaves (λ g. g.parts) (asking (39 ∷ []) memory) 1 (after_request (2 ^ 32 - 2) (39 ∷ []) memory ∷ [])
    × Leaves (λ g. g.parts) (asking (0 ∷ []) memory) 1 (after_request (2 ^ 32 - 2) (0 ∷ []) memory ∷ [])

-- a partition in the window of a trap that it took at 0x40000010, which returns from it
abbrev pub returning : Memory → PartitionState
returning memory = record (at 0x40000000 memory) {
  core = with_outs 16 (0xa7 ∷ 0x40000010 ∷ 0x40000014 ∷ []) (with_outs 8 (34 ∷ []) (in_window (registers_started 0x40000000) 6));
  traps = with_table false 0 0xffff_ffff;
}

-- it is where it was, in the window above, and takes traps again
abbrev pub ReturnsFromTrap : Type 0
ReturnsFromTrap = (memory : Memory) → Calls (caller false) memory
    → Prints (by_itself (caller false) (returning memory)) 1 (EndPart 0 Ready 0 1 0x40000010 ∷ EndWhole false 0 2 2 ∷ [])
    × Leaves (of_part (λ ps. ps.core.cwp) 0) (by_itself (caller false) (returning memory)) 1 (Some 7)
    × Leaves (of_part (λ ps. ps.traps) 0) (by_itself (caller false) (returning memory)) 1 (Some (with_table true 0 0xffff_ffff))

-- a partition reads an entry of its own health log: the time, the number, the numbers of the event and of the action, and the word
abbrev pub ReadsOwnLog : Type 0
ReadsOwnLog = (memory : Memory) → Calls (caller false) memory
    → Leaves (of_part (λ ps. ps.memory) 0) (by_itself (caller false) (record (calling 0x40000000 (28 ∷ 0 ∷ 0 ∷ 0x40000004 ∷ []) memory) { health = healths })) 1
    (Some (with_bytes memory 0x40000004 (0 ∷ 0 ∷ 0 ∷ 0 ∷ 0 ∷ 0 ∷ 0 ∷ 0 ∷ 0 ∷ 0 ∷ 0 ∷ 0 ∷ 3 ∷ 0 ∷ 0 ∷ 0 ∷ 0x40 ∷ 0 ∷ 0 ∷ 0 ∷ [])))

-- a system partition halts the system: the tick is not counted
abbrev pub HaltsSystem : Type 0
HaltsSystem = (memory : Memory) → Calls (caller true) memory
    → Prints (by_itself (caller true) (calling 0x40000000 (9 ∷ []) memory)) 2
    (WholeLine 1 move.Halt ∷ EndPart 0 Ready 0 1 0x40000004 ∷ EndWhole true 0 1 1 ∷ [])

-- a cold reset of the system counts for nobody
abbrev pub ResetsSystemCold : Type 0
ResetsSystemCold = (memory : Memory) → Calls (caller true) memory
    → Prints (by_itself (caller true) (record (calling 0x40000000 (10 ∷ 0 ∷ []) memory) { resets = 5 })) 1
    (WholeLine 1 move.Cold ∷ MovedLine 1 0 move.Cold ∷ EndPart 0 Ready 0 0 0x40000000 ∷ EndWhole false 0 0 2 ∷ [])
    × Leaves (λ g. g.resets) (record (by_itself (caller true) (calling 0x40000000 (10 ∷ 0 ∷ []) memory)) { resets = 3 }) 1 0

-- a partition without the system flag may do neither: it is answered -4
abbrev pub ReachesNotAll : Type 0
ReachesNotAll = (memory : Memory) → Calls (caller false) memory
    → Leaves (λ g. g.parts) (asking (9 ∷ []) memory) 1 (after_request (2 ^ 32 - 4) (9 ∷ []) memory ∷ [])
    × Leaves (λ g. g.parts) (asking (10 ∷ 0 ∷ []) memory) 1 (after_request (2 ^ 32 - 4) (10 ∷ 0 ∷ []) memory ∷ [])

-- a system partition is shown how often the hypervisor was reset, and how many partitions there are
abbrev pub SeesSystem : Type 0
SeesSystem = (memory : Memory) → Calls (caller true) memory
    → Leaves (of_part (λ ps. ps.memory) 0) (record (by_itself (caller true) (calling 0x40000000 (11 ∷ 0x40000004 ∷ []) memory)) { resets = 3 }) 1
    (Some (with_bytes memory 0x40000004 (0 ∷ 0 ∷ 0 ∷ 3 ∷ 0 ∷ 0 ∷ 0 ∷ 1 ∷ [])))
