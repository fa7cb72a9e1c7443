-- Passes over the partitions of a system, done one partition after the other.
use Rattle.std.proofs.Common.{◌≡◌, ℕ, zero, suc, ◌+◌, ◌<◌, ◌≤◌, List, [], ◌∷◌, length, refl, sym, ap, ◌∙◌, arith}
use Rattle.std.proofs.Math.Numerals.{suc-eq-add-one}
use Rattle.std.specs.Prelude.{slice_index_or, slice_set}
use Rattle.system_state.specs.State.{SysState, part_at, with_machine, with_part}
use Rattle.machine_model.specs.Lists.{each}
use Rattle.machine_model.specs.Machine.{booted_part}
use Rattle.machine_model.specs.Partition.{PartitionState}

-- a pass that is done for the first this many elements
abbrev pub each_below : {X : Type 0} → (ℕ → X → X) → ℕ → List X → List X
each_below f zero xs = xs
each_below f (suc n) [] = []
each_below f (suc n) (x ∷ xs) = f 0 x ∷ each_below (λ k. f (suc k)) n xs

-- it keeps the number of elements
pub below_length : {X : Type 0} (f : ℕ → X → X) (n : ℕ) (xs : List X) → length (each_below f n xs) ≡ length xs
below_length f zero xs = refl
below_length f (suc n) [] = refl
below_length f (suc n) (x ∷ xs) = ap suc (below_length (λ k. f (suc k)) n xs)

-- the next element is written
pub below_more : {X : Type 0} (f : ℕ → X → X) (n : ℕ) (xs : List X) (other new : X) → n < length xs → new ≡ f n (slice_index_or (each_below f n xs) n other)
    → slice_set (each_below f n xs) n new ≡ each_below f (suc n) xs
below_more f n [] other new there is = absurd (omega (arith, there))
below_more f zero (x ∷ xs) other new there is = ap (λ first. first ∷ xs) is
below_more f (suc n) (x ∷ xs) other new there is = ap (λ rest. f 0 x ∷ rest) (below_more (λ k. f (suc k)) n xs other new (omega (arith, there)) is)

-- the next element is one that the pass leaves
pub below_skip : {X : Type 0} (f : ℕ → X → X) (n : ℕ) (xs : List X) → ((x : X) → f n x ≡ x) → each_below f n xs ≡ each_below f (suc n) xs
below_skip f zero [] same = refl
below_skip f (suc n) [] same = refl
below_skip f zero (x ∷ xs) same = ap (λ first. first ∷ xs) (sym (same x))
below_skip f (suc n) (x ∷ xs) same = ap (λ rest. f 0 x ∷ rest) (below_skip (λ k. f (suc k)) n xs same)

-- it is done for all elements
pub below_end : {X : Type 0} (f : ℕ → X → X) (n : ℕ) (xs : List X) → length xs ≤ n → each_below f n xs ≡ each f xs
below_end f zero [] all = refl
below_end f (suc n) [] all = refl
below_end f zero (x ∷ xs) all = absurd (omega (arith, all))
below_end f (suc n) (x ∷ xs) all = ap (λ rest. f 0 x ∷ rest) (below_end (λ k. f (suc k)) n xs (omega (arith, all)))

-- the system with other states of its partitions
abbrev pub with_states : List PartitionState → SysState → SysState
with_states parts sys = with_machine (record sys.machine { parts = parts }) sys

-- a system with a pass over its partitions that is done for the first this many
abbrev pub each_passed : (ℕ → PartitionState → PartitionState) → ℕ → SysState → SysState
each_passed f n sys = with_states (each_below f n sys.machine.parts) sys

-- the next partition is written
pub passed_more : (f : ℕ → PartitionState → PartitionState) (n : ℕ) (old now new : SysState) (x : PartitionState) → n < length old.machine.parts → now ≡ each_passed f n old
    → new ≡ with_machine (with_part n x now.machine) now → x ≡ f n (part_at n now.machine) → new ≡ each_passed f (n + 1) old
passed_more f n old now new x there before written is =
    written ∙ ap (λ (s : SysState). with_machine (with_part n x s.machine) s) before
    ∙ ap (λ (parts : List PartitionState). with_states parts old)
    (below_more f n old.machine.parts (booted_part old.machine.system n) x there (is ∙ ap (λ (s : SysState). f n (part_at n s.machine)) before))
    ∙ ap (λ (k : ℕ). each_passed f k old) (suc-eq-add-one n)

-- the next partition is one that the pass leaves
pub passed_skip : (f : ℕ → PartitionState → PartitionState) (n : ℕ) (old now : SysState) → now ≡ each_passed f n old → ((x : PartitionState) → f n x ≡ x) → now ≡ each_passed f (n + 1) old
passed_skip f n old now before same =
    before ∙ ap (λ (parts : List PartitionState). with_states parts old) (below_skip f n old.machine.parts same)
    ∙ ap (λ (k : ℕ). each_passed f k old) (suc-eq-add-one n)

-- the pass is done for all partitions
pub passed_end : (f : ℕ → PartitionState → PartitionState) (n : ℕ) (old now : SysState) → length old.machine.parts ≤ n → now ≡ each_passed f n old
    → now ≡ with_states (each f old.machine.parts) old
passed_end f n old now all before = before ∙ ap (λ (parts : List PartitionState). with_states parts old) (below_end f n old.machine.parts all)

-- a pass under way keeps the number of partitions
pub passed_length : (f : ℕ → PartitionState → PartitionState) (n : ℕ) (old now : SysState) → now ≡ each_passed f n old → length now.machine.parts ≡ length old.machine.parts
passed_length f n old now before = ap (λ (s : SysState). length s.machine.parts) before ∙ below_length f n old.machine.parts
