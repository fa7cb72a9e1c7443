-- For proofs and private clauses: the outcome of steps of a partition.
use Rattle.std.specs.Prelude.{◌≡◌, Result}
use Rattle.guest_bus.specs.Memory.{Memory}
use Rattle.sparc_step.specs.Registers.{Registers}
use Rattle.virt_traps.specs.Moves.{Moved}
use Rattle.virt_traps.specs.declared.windows.StackFault.{StackFault}

-- answer, registers and memory are those of windows that were moved
pub record IsMoved (answer : Result (Unit {0}) StackFault) (core : Registers) (memory : Memory) (moved : Moved) : Type 0 where
  pub answered : answer ≡ moved.answer
  pub registers : core ≡ moved.core
  pub bytes : memory ≡ moved.memory
