-- Words from an address on that have no rows, one by one.
use Rattle.std.proofs.Common.{◌≡◌, ◌⊎◌, ℕ, ◌+◌, ◌-◌, ◌*◌, ◌%◌, ◌^◌, ◌<◌, ◌≤◌, true, List, length, inl, inr, ⊎_elim, subst, arith}
use Rattle.std.proofs.lemmas.Bool.{cases_lt}
use Rattle.predecode.specs.Kinds.{is_unmade}
use Rattle.predecode.specs.lemmas.Reached.{IsReached, word_after}
use Rattle.predecode.specs.declared.rows.Row.{Row}
use Rattle.fast_loop.specs.lemmas.Moves.{HaveNoRows}
use Rattle.fast_loop.proofs.KeptLemmas.{none_past}

-- each of this many words from an address on has none
abbrev pub HasNoneOf : List Row → ℕ → ℕ → ℕ → Type 0
HasNoneOf rows origin address count = (j : ℕ) → j < count → HaveNoRows rows (word_after origin ((address + 4 * j) % 2 ^ 32)) 1

-- the next one has none
pub none_more : (rows : List Row) (origin address count : ℕ) → HasNoneOf rows origin address count → HaveNoRows rows (word_after origin ((address + 4 * count) % 2 ^ 32)) 1 → HasNoneOf rows origin address (count + 1)
none_more rows origin address count before next = λ j small.
    ⊎_elim (before j) (λ over. subst (λ (n : ℕ). HaveNoRows rows (word_after origin ((address + 4 * n) % 2 ^ 32)) 1) (same j small over) next) (cases_lt j count)
  where
    same : (j : ℕ) → j < count + 1 → count ≤ j → count ≡ j
    same j small over = omega arith

-- where the word at a distance stands
moved_word : (origin address distance k : ℕ) → k < 2 ^ 30 → origin < 2 ^ 32 → address < 2 ^ 32 → (word_after origin address + distance ≡ k) ⊎ (word_after origin address + distance ≡ k + 2 ^ 30)
    → word_after origin ((address + 4 * distance) % 2 ^ 32) ≡ k
unfolding word_after
moved_word origin address distance k under low small (inl there) = omega arith
moved_word origin address distance k under low small (inr there) = omega arith

word_small : (origin address : ℕ) → word_after origin address < 2 ^ 30
unfolding word_after
word_small origin address = omega arith

reached_there : (place k : ℕ) → place ≡ k → IsReached place 1 k
reached_there place k is = inl (omega arith, omega arith)

-- so none of all has a row
pub all_unmade : (rows : List Row) (origin address count : ℕ) → length rows ≤ 2 ^ 30 → origin < 2 ^ 32 → address < 2 ^ 32 → count ≤ 2 ^ 30 → HasNoneOf rows origin address count → HaveNoRows rows (word_after origin address) count
all_unmade rows origin address count few low small short none k row reached there = ⊎_elim (λ under. at under reached) (λ big. absurd (none_past rows k row (omega (arith, big, few)) there)) (cases_lt k (2 ^ 30))
  where
    at : k < 2 ^ 30 → IsReached (word_after origin address) count k → is_unmade row.kind ≡ true
    at under (inl here) =
        let distance = k - word_after origin address in
        none distance (omega (arith, here.0, here.1)) k row (reached_there (word_after origin ((address + 4 * distance) % 2 ^ 32)) k (moved_word origin address distance k under low small (inl (omega (arith, here.0))))) there
    at under (inr on) =
        let distance = k + 2 ^ 30 - word_after origin address in
        let first = word_small origin address in
        none distance (omega (arith, on, first)) k row (reached_there (word_after origin ((address + 4 * distance) % 2 ^ 32)) k (moved_word origin address distance k under low small (inr (omega (arith, first))))) there
