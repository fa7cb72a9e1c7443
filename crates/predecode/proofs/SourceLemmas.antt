-- The row of an instruction that is in range.
use Rattle.std.proofs.Common.{ℕ, sym, subst}
use Rattle.sparc_code.specs.lemmas.DecodedLemmas.{decoded-spells}
use Rattle.sparc_code.specs.Spells.{Spells}
use Rattle.sparc_code.specs.declared.instruction.Instr.{Instr}
use Rattle.predecode.specs.Rows.{AreRegisterNumbers, IsRowOf}
use Rattle.predecode.specs.Kept.{IsRowFor}
use Rattle.predecode.specs.declared.rows.Row.{Row}

-- the row of what a word spells is the word's
pub row_spelled : (word : ℕ) (i : Instr) (row : Row) → Spells word i → IsRowOf row i → AreRegisterNumbers row → IsRowFor word row
row_spelled word i row spells of_it numbers = record {
  spelled = subst (λ (x : Instr). IsRowOf row x) (sym (decoded-spells word i spells)) of_it;
  registers = numbers;
}
