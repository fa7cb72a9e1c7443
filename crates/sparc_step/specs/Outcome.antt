-- The outcome of an instruction that touches no memory.
use Rattle.std.specs.Prelude.{ℕ}
use Rattle.sparc_step.specs.Registers.{Registers, advanced, with_icc, with_register}
use Rattle.sparc_step.specs.declared.outcome.Turn.{Turn}
use Rattle.sparc_step.specs.declared.outcome.Turn.TheVariants.{Went, Trap}

-- the outcome of an instruction, and the registers that it left
pub record RegisterOutcome : Type 0 where
  pub turn : Turn
  pub core : Registers

-- an instruction that was executed
abbrev pub went : Registers → RegisterOutcome
went core = record { turn = Went; core = core }

-- an instruction that trapped and changed nothing
abbrev pub trapped : ℕ → Registers → RegisterOutcome
trapped type core = record { turn = Trap type; core = core }

-- the registers after an instruction with a result
unfoldable pub with_result : ℕ → ℕ → Registers → Registers
with_result rd value core = advanced (with_register core rd value)

-- the registers after an instruction with a result and condition codes
unfoldable pub with_result_and_codes : ℕ → ℕ → ℕ → Registers → Registers
with_result_and_codes rd value icc core = advanced (with_icc (with_register core rd value) icc)
