-- An instruction as it is tried: where it stands, and what becomes of it, by the registers and the memory that it finds.
use Rattle.std.specs.Prelude.{◌≡◌, ℕ, ◌==◌, Bool, false, if◌then◌else◌, List, Result, Ok, Err}
use Rattle.guest_bus.specs.Access.{fetched}
use Rattle.guest_bus.specs.Memory.{Area, Memory}
use Rattle.guest_bus.specs.declared.bus.BusFault.{BusFault}
use Rattle.sparc_code.specs.Decoded.{decoded}
use Rattle.sparc_code.specs.declared.instruction.Instr.{Instr}
use Rattle.sparc_code.specs.declared.instruction.Instr.TheVariants as instr
use Rattle.sparc_step.specs.Conditions.{holds}
use Rattle.sparc_step.specs.Execution.{turned}
use Rattle.sparc_step.specs.Registers.{Registers}
use Rattle.sparc_step.specs.declared.outcome.Turn.{Turn}
use Rattle.sparc_step.specs.declared.outcome.Turn.TheVariants.{Went, Trap, Call}
use Rattle.virt_traps.specs.Moves.{Moved, filled, spilled}
use Rattle.virt_traps.specs.Settled.{settled}
use Rattle.virt_traps.specs.declared.windows.StackFault.{StackFault}

-- the registers and the memory in which an instruction is tried
pub record Tried : Type 0 where
  pub core : Registers
  pub memory : Memory

abbrev pub tried_in : Registers → Memory → Tried
tried_in core memory = record { core = core; memory = memory }

-- those that a spill or a fill left, where it was made
abbrev pub tried_again : Result (Unit {0}) StackFault → Moved → Registers → Memory → Tried
tried_again (Ok made) moved core memory = tried_in moved.core moved.memory
tried_again (Err fault) moved core memory = tried_in core memory

-- those in which an instruction is tried last: window overflow is met by a spill, and underflow by a fill
abbrev pub tried_after : Turn → List Area → Registers → Memory → Tried
tried_after Went areas core memory = tried_in core memory
tried_after (Trap type) areas core memory =
    if type == 5 then tried_again (spilled areas core memory).answer (spilled areas core memory) core memory
    else if type == 6 then tried_again (filled areas core memory).answer (filled areas core memory) core memory
    else tried_in core memory
tried_after Call areas core memory = tried_in core memory

unfoldable pub tried : List Area → Registers → Memory → Tried
tried areas core memory = tried_after (turned areas core memory).turn areas core memory

-- what a tick's instruction comes to, it comes to where it is tried last
abbrev pub IsTriedLast : Type 0
IsTriedLast = (areas : List Area) (core : Registers) (memory : Memory)
    → (settled areas core memory).turn ≡ (turned areas (tried areas core memory).core (tried areas core memory).memory).turn

-- whether an instruction is a branch that is taken under these condition codes: Bicc, the branch that is always taken among them
abbrev pub is_taken : Instr → ℕ → Bool
is_taken (instr.Call disp) icc = false
is_taken (instr.Branch condition annul disp) icc = holds condition icc
is_taken (instr.Sethi rd imm) icc = false
is_taken (instr.Arith operation rd rs1 source) icc = false
is_taken (instr.ReadY rd) icc = false
is_taken instr.Barrier icc = false
is_taken (instr.WriteY rs1 source) icc = false
is_taken (instr.Jump rd rs1 source) icc = false
is_taken (instr.Trap condition rs1 source) icc = false
is_taken instr.Flush icc = false
is_taken (instr.Save rd rs1 source) icc = false
is_taken (instr.Restore rd rs1 source) icc = false
is_taken (instr.Mem operation rd rs1 source) icc = false
is_taken instr.Privileged icc = false
is_taken instr.Float icc = false
is_taken instr.Coproc icc = false
is_taken instr.Illegal icc = false

-- whether the word that a fetch answers is one
abbrev pub is_fetched_taken : Result ℕ BusFault → ℕ → Bool
is_fetched_taken (Ok word) icc = is_taken (decoded word) icc
is_fetched_taken (Err fault) icc = false

abbrev pub is_tried_taken : List Area → Tried → Bool
is_tried_taken areas t = is_fetched_taken (fetched areas t.memory t.core.pc) t.core.icc

-- what became of an instruction: it completed, as a taken branch or otherwise, or it trapped. A hypercall has completed
pub data Fate : Type 0 where
  Completed : (taken : Bool) → Fate
  Trapped : (type : ℕ) → Fate

abbrev pub fate_of : Turn → Bool → Fate
fate_of Went taken = Completed taken
fate_of (Trap type) taken = Trapped type
fate_of Call taken = Completed taken

-- an instruction that was executed: the address at which it stands, and what became of it
pub record Executed : Type 0 where
  pub address : ℕ
  pub fate : Fate

-- the instruction at the pc, by these areas, registers and memory alone
abbrev pub executed_at : List Area → Registers → Memory → Executed
executed_at areas core memory = record {
  address = core.pc;
  fate = fate_of (settled areas core memory).turn (is_tried_taken areas (tried areas core memory));
}
