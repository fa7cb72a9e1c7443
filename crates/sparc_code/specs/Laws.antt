-- What holds of words and instructions.
use Rattle.std.specs.Prelude.{ℕ, ◌≡◌, ◌≢◌, ◌↔◌}
use Rattle.sparc_code.specs.Decoded.{decoded}
use Rattle.sparc_code.specs.Ranges.{InRange}
use Rattle.sparc_code.specs.Spells.{Spells}
use Rattle.sparc_code.specs.declared.instruction.Instr.{Instr}
use Rattle.sparc_code.specs.declared.instruction.Instr.TheVariants.{Illegal}

-- each word spells an instruction
abbrev pub SpellsSome : Type 0
SpellsSome = (word : ℕ) → (instruction : Instr) × Spells word instruction

-- each word spells the instruction that is read from its selectors
abbrev pub SpellsDecoded : Type 0
SpellsDecoded = (word : ℕ) → Spells word (decoded word)

-- no word spells two instructions
abbrev pub Unique : Type 0
Unique = (word : ℕ) (one other : Instr) → Spells word one → Spells word other → one ≡ other

-- an instruction has a word exactly where its fields are in range
abbrev pub HasWord : Type 0
HasWord = (instruction : Instr) → InRange instruction ↔ ((word : ℕ) × Spells word instruction)

-- a word is illegal exactly where it spells no other instruction
abbrev pub Unassigned : Type 0
Unassigned = (word : ℕ) → Spells word Illegal ↔ ((other : Instr) → other ≢ Illegal → ¬ Spells word other)
