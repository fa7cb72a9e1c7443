-- For proofs and private clauses: what one instruction does.
use Rattle.std.specs.Prelude.{◌≡◌, List}
use Rattle.guest_bus.specs.Memory.{Area, Memory}
use Rattle.sparc_code.specs.declared.instruction.Instr.{Instr}
use Rattle.sparc_step.specs.Registers.{Registers}
use Rattle.sparc_step.specs.declared.outcome.Turn.{Turn}
use Rattle.sparc_step.specs.Execution.{executed}

-- the outcome of an instruction that touches no memory, and the registers after it, whatever the memory is
abbrev pub TurnsTo : Instr → Registers → Turn → Registers → Type 0
TurnsTo i before turn after =
    (areas : List Area) (memory : Memory) → executed i areas before memory ≡ record { turn = turn; core = after; memory = memory }
