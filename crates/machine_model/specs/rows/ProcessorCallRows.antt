-- Rows on the calls on interrupts, the console, input words and the virtual processor, numbers 30 to 37: the result and the effect of each,
-- and each of its tests at its edge.
use Rattle.std.specs.Prelude.{ℕ, Bool, true, false, List, [], ◌∷◌, ◌++◌, replicate}
use Rattle.std.specs.Int.{to_be_bytes, w32}
use Rattle.guest_bus.specs.Memory.{Memory, bytes_at, with_bytes}
use Rattle.sparc_step.specs.Registers.{Registers, in_window, registers_started}
use Rattle.guest_bus.specs.Words.{words_at}
use Rattle.virt_traps.specs.SaveArea.{with_registers}
use Rattle.virt_traps.specs.Virtual.{no_traps}
use Rattle.xm_conf.specs.declared.health.Event.TheVariants.{MemProtection}
use Rattle.machine_model.specs.Caller.{Acts, Caller, Meets, Served}
use Rattle.machine_model.specs.Partition.{PartitionState}
use Rattle.machine_model.specs.rows.Rows.{area, with_outs}
use Rattle.machine_model.specs.rows.ServedRows.{AnswersWith, ComesTo, Leads, call, made_by, minus, view_for, with_call, with_o0, written}
use Rattle.machine_model.specs.Emission.{Console, Nothing, Emission}
use Rattle.machine_model.specs.View.{PartitionView}

-- a partition with a mask of interrupts, which calls
abbrev pub masked : ℕ → List ℕ → Memory → PartitionState
masked mask outs memory = record (with_call outs memory) { traps = record no_traps { mask = mask } }

-- calls 30 and 31: bits of the mask are set, and cleared
abbrev pub Masks : Type 0
Masks = (memory : Memory) →
    Leads (made_by (view_for false) (masked 12 (30 ∷ 10 ∷ []) memory)) 0 (masked 14 (30 ∷ 10 ∷ []) memory)
    × Leads (made_by (view_for false) (masked 12 (30 ∷ 0 ∷ []) memory)) 0 (masked 12 (30 ∷ 0 ∷ []) memory)

abbrev pub Unmasks : Type 0
Unmasks = (memory : Memory) →
    Leads (made_by (view_for false) (masked 12 (31 ∷ 10 ∷ []) memory)) 0 (masked 4 (31 ∷ 10 ∷ []) memory)
    × Leads (made_by (view_for false) (masked 0xffff_ffff (31 ∷ 0xffff_fffe ∷ []) memory)) 0 (masked 1 (31 ∷ 0xffff_fffe ∷ []) memory)

-- a call that emits this, is answered so, and changes nothing else
abbrev pub emitting : List Emission → ℕ → PartitionState → Served
emitting emitted value ps = record { after = with_o0 value ps; emitted = emitted; upshot = Acts Nothing }

-- a partition with 1025 bytes
abbrev pub large_view : PartitionView
large_view = record (view_for false) { part = record ((view_for false).part) { areas = area 0x1000 1025 ∷ [] } }

-- it calls
abbrev pub long_call : List ℕ → Memory → Caller
long_call outs memory = made_by large_view (with_call outs memory)

-- call 32: bytes that have to be readable, at most 1024; none print nothing
abbrev pub WritesConsole : Type 0
WritesConsole = (memory : Memory) →
    ComesTo (call false (32 ∷ 0x1038 ∷ 8 ∷ []) memory) (emitting (Console (bytes_at memory 0x1038 8) ∷ []) 8 (with_call (32 ∷ 0x1038 ∷ 8 ∷ []) memory))
    × ComesTo (call false (32 ∷ 0x2038 ∷ 8 ∷ []) memory) (emitting (Console (bytes_at memory 0x2038 8) ∷ []) 8 (with_call (32 ∷ 0x2038 ∷ 8 ∷ []) memory))
    × AnswersWith (call false (32 ∷ 0x1039 ∷ 8 ∷ []) memory) (minus 3)
    × AnswersWith (call false (32 ∷ 0 ∷ 0 ∷ []) memory) 0
    × ComesTo (long_call (32 ∷ 0x1000 ∷ 1024 ∷ []) memory) (emitting (Console (bytes_at memory 0x1000 1024) ∷ []) 1024 (with_call (32 ∷ 0x1000 ∷ 1024 ∷ []) memory))
    × AnswersWith (long_call (32 ∷ 0x1000 ∷ 1025 ∷ []) memory) (minus 3)

-- a partition with these input words, which calls
abbrev pub caller_with_inputs : List ℕ → List ℕ → Memory → PartitionState
caller_with_inputs inputs outs memory = record (with_call outs memory) { inputs = inputs }

-- call 33: the next input word, in four bytes that have to be writable; that there is one is tested first
abbrev pub CallReadsInput : Type 0
CallReadsInput = (memory : Memory) →
    Leads (made_by (view_for false) (caller_with_inputs (0x0102_0304 ∷ 7 ∷ []) (33 ∷ 0x103c ∷ []) memory)) 0
    (written 0x103c (1 ∷ 2 ∷ 3 ∷ 4 ∷ []) (caller_with_inputs (7 ∷ []) (33 ∷ 0x103c ∷ []) memory))
    × AnswersWith (made_by (view_for false) (caller_with_inputs (7 ∷ []) (33 ∷ 0x103d ∷ []) memory)) (minus 3)
    × AnswersWith (made_by (view_for false) (caller_with_inputs (7 ∷ []) (33 ∷ 0x2000 ∷ []) memory)) (minus 3)
    × AnswersWith (made_by (view_for false) (caller_with_inputs [] (33 ∷ 0x2000 ∷ []) memory)) (minus 7)

-- the registers of a trap in a window: the PSR and the program counters that it saved, and the number of the call in %o0
abbrev pub in_trap : ℕ → List ℕ → Registers
in_trap window locals = with_outs 16 locals (with_outs 8 (34 ∷ []) (in_window (registers_started 0x1020) window))

-- a partition with these registers
abbrev pub with_core : Registers → Memory → PartitionState
with_core core memory = record (with_call [] memory) { core = core }

-- a partition with these registers calls
abbrev pub core_call : Registers → Memory → Caller
core_call core memory = made_by (view_for false) (with_core core memory)

-- a call that has no result: the partition goes on with these registers, and takes traps or not
abbrev pub going_on : Registers → Bool → Memory → Served
going_on core enabled memory = record {
  after = record (with_core core memory) { traps = record no_traps { enabled = enabled } };
  emitted = [];
  upshot = Acts Nothing;
}

-- a call that is undone: both program counters are back at it, and the event has its program counter as word
abbrev pub taken_back : PartitionState → Served
taken_back ps = record {
  after = record ps { core = record ps.core { pc = 0x1004; npc = 0x1020 } };
  emitted = [];
  upshot = Meets MemProtection 0x1004;
}

-- call 34: the condition codes and the flag of the PSR, the program counters, and the window above, which is loaded where it was spilled;
-- a program counter that is no multiple of 4 is refused, and where the window cannot be loaded the call is undone
abbrev pub Returns : Type 0
Returns = (memory : Memory) →
    ComesTo (core_call (in_trap 6 (0x00a0_0020 ∷ 0x1010 ∷ 0x1018 ∷ [])) memory)
    (going_on (record (in_trap 6 (0x00a0_0020 ∷ 0x1010 ∷ 0x1018 ∷ [])) { pc = 0x1010; npc = 0x1018; icc = 10; cwp = 7 }) true memory)
    × ComesTo (core_call (in_trap 6 (0xff5f_ffdf ∷ 0x1010 ∷ 0x1018 ∷ [])) memory)
    (going_on (record (in_trap 6 (0xff5f_ffdf ∷ 0x1010 ∷ 0x1018 ∷ [])) { pc = 0x1010; npc = 0x1018; icc = 5; cwp = 7 }) false memory)
    × AnswersWith (core_call (in_trap 6 (0 ∷ 0x1012 ∷ 0x1018 ∷ [])) memory) (minus 3)
    × AnswersWith (core_call (in_trap 6 (0 ∷ 0x1010 ∷ 0x1019 ∷ [])) memory) (minus 3)
    × ComesTo (core_call (with_outs 30 (0x2000 ∷ []) (in_trap 7 (0 ∷ 0x1010 ∷ 0x1018 ∷ []))) memory)
    (going_on (record (with_outs 30 (0x2000 ∷ []) (in_trap 7 (0 ∷ 0x1010 ∷ 0x1018 ∷ []))) {
      pc = 0x1010;
      npc = 0x1018;
      cwp = 0;
      inv = 1;
      windows = with_registers (with_outs 30 (0x2000 ∷ []) (in_trap 7 (0 ∷ 0x1010 ∷ 0x1018 ∷ []))).windows 0 16 (words_at memory 0x2000 16);
    }) false memory)
    × ComesTo (core_call (with_outs 30 (0x1008 ∷ []) (in_trap 7 (0 ∷ 0x1010 ∷ 0x1018 ∷ []))) memory)
    (taken_back (with_core (with_outs 30 (0x1008 ∷ []) (in_trap 7 (0 ∷ 0x1010 ∷ 0x1018 ∷ []))) memory))
    × AnswersWith (core_call (with_outs 30 (0x1008 ∷ []) (in_trap 7 (0 ∷ 0x1012 ∷ 0x1018 ∷ []))) memory) (minus 3)

-- a partition with these condition codes and this flag, which calls
abbrev pub with_conditions : ℕ → Bool → List ℕ → Memory → PartitionState
with_conditions icc enabled outs memory = record (with_call outs memory) {
  core = record ((with_call outs memory).core) { icc = icc };
  traps = record no_traps { enabled = enabled };
}

-- call 35: the condition codes are bits 23 to 20, and the flag is bit 5
abbrev pub SetsPsr : Type 0
SetsPsr = (memory : Memory) →
    Leads (call false (35 ∷ 0x00a0_0020 ∷ []) memory) 0 (with_conditions 10 true (35 ∷ 0x00a0_0020 ∷ []) memory)
    × Leads (made_by (view_for false) (with_conditions 3 true (35 ∷ 0xff5f_ffdf ∷ []) memory)) 0 (with_conditions 5 false (35 ∷ 0xff5f_ffdf ∷ []) memory)

-- a partition whose table of traps stands at an address, which calls
abbrev pub with_base : ℕ → List ℕ → Memory → PartitionState
with_base base outs memory = record (with_call outs memory) { traps = record no_traps { base = base } }

-- call 36: the low 12 bits are cleared
abbrev pub SetsTbr : Type 0
SetsTbr = (memory : Memory) →
    Leads (call false (36 ∷ 0x4000_1000 ∷ []) memory) 0 (with_base 0x4000_1000 (36 ∷ 0x4000_1000 ∷ []) memory)
    × Leads (call false (36 ∷ 0xffff_ffff ∷ []) memory) 0 (with_base 0xffff_f000 (36 ∷ 0xffff_ffff ∷ []) memory)

-- the registers of a partition that calls in a window below window 7, whose stack pointer is this; it has two values to be saved there
abbrev pub below_top : ℕ → ℕ → Registers
below_top window stack =
    with_outs 8 (37 ∷ []) (in_window (with_outs 31 (0x0102_0304 ∷ []) (with_outs 16 (0x0a0b_0c0d ∷ []) (with_outs 14 (stack ∷ []) (in_window (registers_started 0x1020) 7)))) window)

-- the 64 bytes that window 7 saves
abbrev pub saved_bytes : List ℕ
saved_bytes = 10 ∷ 11 ∷ 12 ∷ 13 ∷ replicate 56 0 ++ 1 ∷ 2 ∷ 3 ∷ 4 ∷ []

-- the partition in a window with window 7 spilled to an address
abbrev pub top_spilled : ℕ → ℕ → Memory → PartitionState
top_spilled window stack memory = written stack saved_bytes (with_core (record (below_top window stack) { inv = 7 }) memory)

-- the registers with a stack pointer in a window, and the window's number in its first local
abbrev pub with_window : ℕ → ℕ → Registers → Registers
with_window window stack core = with_outs 16 (window ∷ []) (with_outs 14 (stack ∷ []) (in_window core window))

-- the registers of a partition that calls in window 1, where windows 2 to 7 are used, window 7 first
abbrev pub in_lowest : Registers
in_lowest =
    with_outs 8 (37 ∷ []) (in_window (with_window 2 0x1140 (with_window 3 0x1100 (with_window 4 0x10c0 (with_window 5 0x1080 (with_window 6 0x1040 (with_window 7 0x1000
    (registers_started 0x1020))))))) 1)

-- the 64 bytes that such a window saves: its number, and as its frame pointer the stack pointer of the window above
abbrev pub saved_window : ℕ → ℕ → List ℕ
saved_window window above = 0 ∷ 0 ∷ 0 ∷ window ∷ replicate 52 0 ++ to_be_bytes w32 above ++ replicate 4 0

-- the memory with all six saved
abbrev pub all_saved : Memory → Memory
all_saved memory =
    with_bytes (with_bytes (with_bytes (with_bytes (with_bytes (with_bytes memory 0x1000 (saved_window 7 0)) 0x1040 (saved_window 6 0x1000)) 0x1080 (saved_window 5 0x1040))
    0x10c0 (saved_window 4 0x1080)) 0x1100 (saved_window 3 0x10c0)) 0x1140 (saved_window 2 0x1100)

-- call 37: each window but the current one is spilled, six at most; where one cannot be the call is undone, and those before it stay spilled
abbrev pub FlushesWindows : Type 0
FlushesWindows = (memory : Memory) →
    Leads (core_call (below_top 7 0x1000) memory) 0 (with_core (below_top 7 0x1000) memory)
    × Leads (core_call (below_top 6 0x1000) memory) 0 (top_spilled 6 0x1000 memory)
    × ComesTo (core_call (below_top 6 0x1008) memory) (taken_back (with_core (below_top 6 0x1008) memory))
    × ComesTo (core_call (below_top 6 0x2000) memory) (taken_back (with_core (below_top 6 0x2000) memory))
    × ComesTo (core_call (below_top 5 0x1000) memory) (taken_back (top_spilled 5 0x1000 memory))
    × Leads (made_by large_view (with_core in_lowest memory)) 0 (with_core (record in_lowest { inv = 2 }) (all_saved memory))

-- the rows of calls 30 to 37
pub record ProcessorCallRows : Type 0 where
  pub set_irqmask : Masks
  pub clear_irqmask : Unmasks
  pub write_console : WritesConsole
  pub read_input : CallReadsInput
  pub iret : Returns
  pub set_psr : SetsPsr
  pub set_tbr : SetsTbr
  pub flush_regwin : FlushesWindows
