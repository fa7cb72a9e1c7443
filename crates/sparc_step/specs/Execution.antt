-- What one instruction does.
use Rattle.std.specs.Prelude.{ℕ, List, Result, Ok, Err}
use Rattle.guest_bus.specs.Access.{fetched}
use Rattle.guest_bus.specs.Memory.{Area, Memory}
use Rattle.guest_bus.specs.declared.bus.BusFault.{BusFault}
use Rattle.sparc_code.specs.Decoded.{decoded}
use Rattle.sparc_code.specs.declared.instruction.Instr.{Instr}
use Rattle.sparc_code.specs.declared.instruction.Instr.TheVariants as instr
use Rattle.sparc_step.specs.Arithmetic.{arith_row}
use Rattle.sparc_step.specs.Flow.{branch_row, call_row, jump_row, restore_row, save_row, sethi_row, trap_row, write_y_row}
use Rattle.sparc_step.specs.Outcome.{RegisterOutcome, with_result}
use Rattle.sparc_step.specs.Registers.{Registers, advanced}
use Rattle.sparc_step.specs.Transfers.{transfer_row}
pub use Rattle.sparc_step.specs.Transfers.{Turned, done, refused}

-- the outcome of an instruction that touches no memory
abbrev pub keeping_memory : Memory → RegisterOutcome → Turned
keeping_memory memory o = record { turn = o.turn; core = o.core; memory = memory }

-- what an instruction does
abbrev pub executed : Instr → List Area → Registers → Memory → Turned
executed (instr.Call disp) areas core memory = done (call_row disp core) memory
executed (instr.Branch condition annul disp) areas core memory = done (branch_row condition annul disp core) memory
executed (instr.Sethi rd imm) areas core memory = done (sethi_row rd imm core) memory
executed (instr.Arith operation rd rs1 source) areas core memory = keeping_memory memory (arith_row operation rd rs1 source core)
executed (instr.ReadY rd) areas core memory = done (with_result rd core.y core) memory
executed instr.Barrier areas core memory = done (advanced core) memory
executed (instr.WriteY rs1 source) areas core memory = done (write_y_row rs1 source core) memory
executed (instr.Jump rd rs1 source) areas core memory = keeping_memory memory (jump_row rd rs1 source core)
executed (instr.Trap condition rs1 source) areas core memory = keeping_memory memory (trap_row condition rs1 source core)
executed instr.Flush areas core memory = done (advanced core) memory
executed (instr.Save rd rs1 source) areas core memory = keeping_memory memory (save_row rd rs1 source core)
executed (instr.Restore rd rs1 source) areas core memory = keeping_memory memory (restore_row rd rs1 source core)
executed (instr.Mem operation rd rs1 source) areas core memory = transfer_row operation rd rs1 source areas core memory
executed instr.Privileged areas core memory = refused 0x03 core memory
executed instr.Float areas core memory = refused 0x04 core memory
executed instr.Coproc areas core memory = refused 0x24 core memory
executed instr.Illegal areas core memory = refused 0x02 core memory

-- what the instruction does that the fetch answered
abbrev pub turned_after : Result ℕ BusFault → List Area → Registers → Memory → Turned
turned_after (Ok word) areas core memory = executed (decoded word) areas core memory
turned_after (Err fault) areas core memory = refused 0x01 core memory

-- what the instruction at pc does
unfoldable pub turned : List Area → Registers → Memory → Turned
turned areas core memory = turned_after (fetched areas memory core.pc) areas core memory
