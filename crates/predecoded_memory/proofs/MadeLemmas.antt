-- Rows that are made one after another.
use Rattle.std.proofs.Common.{◌≡◌, ◌⊎◌, ℕ, ◌+◌, ◌-◌, ◌*◌, ◌<◌, true, List, length, length-set, set, get_or, Option, None, Ok, ⊎_elim, refl, sym, ap, ◌∙◌, subst, arith}
use Rattle.std.proofs.lemmas.Option.{slice_get-get_or}
use Rattle.std.specs.Prelude.{slice_get}
use Rattle.guest_bus.specs.Access.{fetched}
use Rattle.guest_bus.specs.Memory.{Area, Memory}
use Rattle.predecode.specs.Kept.{IsBranchOn, IsKeptRow, IsRowFor}
use Rattle.predecode.specs.Kinds.{follows, is_unmade}
use Rattle.predecode.specs.lemmas.KeptLemmas.{made_kept}
use Rattle.predecode.specs.declared.rows.Row.{Row}
use Rattle.fast_loop.specs.Keeping.{AreLengths, AreRowsOf}
use Rattle.predecoded_memory.specs.lemmas.MakingTerms.{AreCleared, AreMade}
use Rattle.predecoded_memory.specs.lemmas.SharesTerms.{row_of_zeros}
use Rattle.predecoded_memory.proofs.EmptiedLemmas.{get_set_other}
use Rattle.predecoded_memory.proofs.MakingLemmas.{alone_on, no_branch, put_lengths, put_rows}

-- none is made
pub none_made : (areas : List Area) (memory : Memory) (first at : ℕ) (rows : List Row) (lengths : List ℕ) → AreRowsOf rows areas memory first → AreLengths lengths rows → AreMade areas memory first at rows lengths rows lengths
none_made areas memory first at rows lengths are ends = record { rows = are; lengths = ends; counted = refl; same = λ k outside. refl; known = λ k under small. refl }

-- some are, and then others
pub made_then : (areas : List Area) (memory : Memory) (first at : ℕ) (old mid new : List Row) (were between are : List ℕ) → AreMade areas memory first at old were mid between → AreMade areas memory first at mid between new are → AreMade areas memory first at old were new are
made_then areas memory first at old mid new were between are one two = record {
  rows = two.rows;
  lengths = two.lengths;
  counted = two.counted ∙ one.counted;
  same = λ k outside. two.same k outside ∙ one.same k outside;
  known = λ k under small.
      let was = two.known k (omega (arith, under, one.counted)) small in
      was ∙ one.known k under (omega (arith, small, was));
}

-- the row of a place, which was empty
pub row_made : (areas : List Area) (memory : Memory) (first at address word : ℕ) (rows new : List Row) (old are : List ℕ) (row : Row) → AreRowsOf rows areas memory first → AreLengths old rows → at < length rows → is_unmade (get_or rows at row_of_zeros).kind ≡ true
    → fetched areas memory address ≡ Ok word → address ≡ first + 4 * at → IsRowFor word row → follows row.kind ≡ None → new ≡ set rows at row → AreCleared at old are → AreMade areas memory first at rows old new are
row_made areas memory first at address word rows new old are row rows_are lengths below unmade stands place made alone new_is clear =
    subst (λ (l : List Row). AreMade areas memory first at rows old l are) (sym new_is) (record {
      rows = put_rows rows areas memory first at row rows_are below (subst (λ (n : ℕ). IsKeptRow row areas memory n) place (made_kept row areas memory address word stands made))
          (alone_on (follows row.kind) (slice_get rows (at + 1)) alone)
          (λ k before here was. no_branch (follows before.kind) (get_or rows at row_of_zeros) row unmade
          (subst (λ (o : Option Row). IsBranchOn (follows before.kind) o) (ap (slice_get rows) here ∙ slice_get-get_or rows at row_of_zeros below) (rows_are.pairs k before was)));
      lengths = put_lengths rows old are at row lengths clear;
      counted = length-set rows at row;
      same = λ k outside. get_set_other rows at k row (λ e. ⊎_elim (λ before. absurd (omega (arith, before, e))) (λ over. absurd (omega (arith, over, e))) outside);
      known = λ k under small. (clear.each k (omega (arith, under, lengths.counted)) small).0;
    })
