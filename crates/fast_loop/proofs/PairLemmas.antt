-- The branch after a comparison, where both are a pair.
use Rattle.std.proofs.Common.{◌≡◌, ℕ, ◌+◌, ◌<◌, Bool, true, false, List, length, Option, Some, None, refl, sym, ap, ◌∙◌, subst, arith}
use Rattle.std.specs.Prelude.{slice_get}
use Rattle.guest_bus.specs.Memory.{Area, Memory}
use Rattle.sparc_step.specs.Conditions.{holds}
use Rattle.sparc_step.specs.Registers.{Registers, register_at}
use Rattle.predecode.specs.Kept.{IsBranchOn}
use Rattle.predecode.specs.Kinds.{Does, Branches, does, follows, is_exit, is_none}
use Rattle.predecode.specs.declared.kinds.Kind.{Kind}
use Rattle.predecode.specs.declared.kinds.Kind.TheVariants.{Branch}
use Rattle.predecode.specs.declared.rows.Row.{Row}
use Rattle.fast_loop.specs.Runs.{AreSteps}
use Rattle.fast_loop.specs.lemmas.Coming.{NoExit}
use Rattle.fast_loop.specs.Keeping.{AreRowsOf}
use Rattle.fast_loop.specs.lemmas.Ahead.{IsAhead}
use Rattle.fast_loop.specs.lemmas.Places.{at_place, at_slot}
use Rattle.fast_loop.specs.lemmas.RunsLemmas.{steps_then}
use Rattle.fast_loop.specs.lemmas.Steps.{FollowsBy, HasDone, HasTaken}
use Rattle.fast_loop.proofs.BlockLemmas.{later}
use Rattle.fast_loop.proofs.ComingLemmas.{done_step, with_row, word_done, word_taken}
use Rattle.fast_loop.proofs.DoesLemmas.{goes_on}

-- the branch's row
pub pair_branch : {P : Type 0} (taken : Bool) (core : Registers) (found : Option ℕ) (next : Option Row) → IsBranchOn found next → FollowsBy taken found core
    → ((row : Row) → next ≡ Some row → row.kind ≡ Branch → holds row.rs1 core.icc ≡ taken → P) → P
pair_branch taken core None next is holding found_row = absurd holding
pair_branch taken core (Some condition) None is holding found_row = absurd is
pair_branch taken core (Some condition) (Some row) is holding found_row = found_row row refl is.0 (ap (λ (n : ℕ). holds n core.icc) is.1 ∙ holding)

-- it may go on
branch_on : (kind : Kind) → kind ≡ Branch → is_exit kind ≡ false
branch_on kind is = ap is_exit is

pub no_exit : (rows : List Row) (at : ℕ) (row : Row) → slice_get rows at ≡ Some row → row.kind ≡ Branch → NoExit rows at
no_exit rows at row there is = λ other there_too. let same : other ≡ row = cc in ap (λ (r : Row). is_exit r.kind) same ∙ branch_on row.kind is

-- what it does
by_branch : (P : Does → Type 0) (kind : Kind) → kind ≡ Branch → P Branches → P (does kind)
by_branch P kind is so = subst (λ (k : Kind). P (does k)) (sym is) so

-- it is not taken
pub pair_passed : (rows : List Row) (origin at : ℕ) (areas : List Area) (memory : Memory) (core : Registers) (row : Row) → AreRowsOf rows areas memory origin → at < length rows → slice_get rows at ≡ Some row → row.kind ≡ Branch
    → register_at core 0 ≡ 0 → holds row.rs1 core.icc ≡ false → AreSteps 1 areas (at_place origin at core) memory (at_place origin (at + 1) core) memory
pair_passed rows origin at areas memory core row are under there is zeroed holding =
    done_step origin at areas core core memory memory
    (word_done rows origin at areas memory are under row there core core memory zeroed (by_branch (λ (d : Does). HasDone d row areas core core memory memory) row.kind is (holding, refl, refl)))

-- it is taken
pub pair_taken : (rows : List Row) (origin at number : ℕ) (areas : List Area) (memory : Memory) (core : Registers) (row : Row) → AreRowsOf rows areas memory origin → at < length rows → slice_get rows at ≡ Some row → row.kind ≡ Branch
    → register_at core 0 ≡ 0 → holds row.rs1 core.icc ≡ true → number ≡ row.number → AreSteps 1 areas (at_place origin at core) memory (at_slot origin (at + 1) (at + number) core) memory
pair_taken rows origin at number areas memory core row are under there is zeroed holding same =
    word_taken rows origin at areas memory are under row there number core core zeroed (ap (λ (k : Kind). is_none (does k)) is)
    (by_branch (λ (d : Does). HasTaken d row origin at number core core) row.kind is (holding, refl, same))

-- a place with an exit ahead is one of the rows'
pub under_of : (rows : List Row) (at : ℕ) → IsAhead rows at → at < length rows
under_of rows at is = omega (arith, is.ends.from, is.ends.under, is.ends.within)

-- so is the one after a pair
pub under_pair : (rows : List Row) (at : ℕ) → IsAhead rows at → NoExit rows at → NoExit rows (at + 1) → at + 2 < length rows
under_pair rows at is one two = let ends = later rows (at + 1) is.end (later rows at is.end is.ends one) two in omega (arith, ends.from, ends.under, ends.within)

-- a pair at a place
module _ (taken : Bool) (rows : List Row) (origin at : ℕ) (areas : List Area) (old new : Registers) (memory after : Memory) (are : AreRowsOf rows areas memory origin) (are_then : AreRowsOf rows areas after origin)
    (ahead : IsAhead rows at) (zeroed : register_at old 0 ≡ 0) (zeroed_then : register_at new 0 ≡ 0)
    (step : (row : Row) → slice_get rows at ≡ Some row → HasDone (does row.kind) row areas old new memory after × FollowsBy taken (follows row.kind) new) where
  -- the first of both went on
  pub first_on : NoExit rows at
  first_on row there = goes_on (does row.kind) row areas old new memory after (step row there).0

  first_step : AreSteps 1 areas (at_place origin at old) memory (at_place origin (at + 1) new) after
  first_step = done_step origin at areas old new memory after
      (with_row rows at (under_of rows at ahead) (λ row there. word_done rows origin at areas memory are (under_of rows at ahead) row there old new after zeroed (step row there).0))

  -- the second is a branch
  with_branch : {P : Type 0} → ((row : Row) → slice_get rows (at + 1) ≡ Some row → row.kind ≡ Branch → holds row.rs1 new.icc ≡ taken → P) → P
  with_branch found = with_row rows at (under_of rows at ahead) (λ row there. pair_branch taken new (follows row.kind) (slice_get rows (at + 1)) (are.pairs at row there) (step row there).1 found)

  pub second_on : NoExit rows (at + 1)
  second_on = with_branch (λ row there is holding. no_exit rows (at + 1) row there is)

  second_under : at + 1 < length rows
  second_under = omega (arith, ahead.ends.from, ahead.ends.under, ahead.ends.within)

  both : at + 1 + 1 ≡ at + 2
  both = omega arith

  -- it is not taken
  pub came_passed : taken ≡ false → AreSteps 2 areas (at_place origin at old) memory (at_place origin (at + 2) new) after
  came_passed is = subst (λ (n : ℕ). AreSteps 2 areas (at_place origin at old) memory (at_place origin n new) after) both
      (with_branch (λ row there branch holding.
      steps_then 1 1 areas (at_place origin at old) (at_place origin (at + 1) new) (at_place origin (at + 1 + 1) new) memory after after first_step
      (pair_passed rows origin (at + 1) areas after new row are_then second_under there branch zeroed_then (holding ∙ is))))

  -- it is taken
  pub came_pair : (number : ℕ) → taken ≡ true → ((row : Row) → slice_get rows (at + 1) ≡ Some row → number ≡ row.number) → AreSteps 2 areas (at_place origin at old) memory (at_slot origin (at + 2) (at + 1 + number) new) after
  came_pair number is same = subst (λ (n : ℕ). AreSteps 2 areas (at_place origin at old) memory (at_slot origin n (at + 1 + number) new) after) both
      (with_branch (λ row there branch holding.
      steps_then 1 1 areas (at_place origin at old) (at_place origin (at + 1) new) (at_slot origin (at + 1 + 1) (at + 1 + number) new) memory after after first_step
      (pair_taken rows origin (at + 1) number areas after new row are_then second_under there branch zeroed_then (holding ∙ is) (same row there))))
