-- Loads and stores of a run.
use Rattle.std.specs.Prelude.{◌≡◌, ℕ, true, List, Some, slice_get}
use Rattle.guest_bus.specs.Memory.{Area, Memory}
use Rattle.sparc_code.specs.declared.instruction.MemOp.{MemOp}
use Rattle.sparc_step.specs.Registers.{Registers}
use Rattle.predecode.specs.Kinds.{is_unmade}
use Rattle.predecode.specs.lemmas.Reached.{IsReached}
use Rattle.predecode.specs.declared.rows.Row.{Row}
use Rattle.fast_loop.specs.declared.simple.Step.{Step}
use Rattle.fast_loop.specs.declared.simple.Step.TheVariants as step
use Rattle.fast_loop.specs.lemmas.Effects.{IsTransferred}

-- a load or a store was done, or it is left to others
abbrev pub HasMoved : Step → MemOp → ℕ → ℕ → List Area → Registers → Registers → Memory → Memory → Type 0
HasMoved (step.Next way) operation rd address areas old new memory after = IsTransferred operation rd address areas old new memory after
HasMoved step.Stays operation rd address areas old new memory after = (new ≡ old) × (after ≡ memory)
HasMoved s operation rd address areas old new memory after = ⊥

-- the words that are reached have no rows
abbrev pub HaveNoRows : List Row → ℕ → ℕ → Type 0
HaveNoRows rows place count = (k : ℕ) (row : Row) → IsReached place count k → slice_get rows k ≡ Some row → is_unmade row.kind ≡ true
