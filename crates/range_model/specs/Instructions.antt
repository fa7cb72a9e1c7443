-- That instructions keep the ranges of registers and memories.
use Rattle.std.specs.Prelude.{◌<◌, List}
use Rattle.guest_bus.specs.Memory.{Area, Memory}
use Rattle.sparc_step.specs.Execution.{Turned, turned}
use Rattle.sparc_step.specs.Registers.{Registers}
use Rattle.sparc_step.specs.declared.outcome.Turn.{Turn}
use Rattle.sparc_step.specs.declared.outcome.Turn.TheVariants.{Went, Trap, Call}
use Rattle.range_model.specs.Numbers.{IsByteMemory}
use Rattle.range_model.specs.Registers.{AreWordRegisters}

-- a trap has a type of one byte
abbrev pub IsTrapByte : Turn → Type 0
IsTrapByte Went = Unit {0}
IsTrapByte (Trap type) = type < 256
IsTrapByte Call = Unit {0}

-- what an instruction leaves is in its ranges
pub record IsTurnedInRange (t : Turned) : Type 0 where
  pub turn : IsTrapByte t.turn
  pub core : AreWordRegisters t.core
  pub memory : IsByteMemory t.memory

-- so it is after each instruction
abbrev pub InstructionsKeepRanges : Type 0
InstructionsKeepRanges = (areas : List Area) (core : Registers) (memory : Memory) → AreWordRegisters core → IsByteMemory memory → IsTurnedInRange (turned areas core memory)
