-- The smallest number that passes a test, found by a loop; and what it means that none is missing.
use Rattle.std.proofs.Common.{◌≡◌, ℕ, zero, suc, ◌+◌, ◌-◌, ◌<◌, ◌≤◌, Bool, true, false, not, cond, List, [], ◌∷◌, length, get_or, Option, None, Some, refl, sym, ap, subst, ◌∙◌, inl, inr, arith}
use Rattle.std.proofs.lemmas.Bool.{cases_lt}
use Rattle.std.specs.Prelude.{◌==◌, ◌||◌, All}
use Rattle.std.specs.List.{list_any}
use Rattle.std.proofs.lemmas.Bool.Decides.{Decides-eqb, nat_tests}
use Rattle.std.proofs.lemmas.List.Elements.{All-from_get_or, All-head, All-tail}
use Rattle.std.proofs.lemmas.List.Folds.{list_any_at}
use Rattle.xm_container.specs.lemmas.EntriesTerms.{RiseFrom}
use Rattle.xm_container.specs.Numbers.{least_where, has_id, extra, missing}

-- numbers that differ
eqb-false : (a b : ℕ) → (a ≡ b → ⊥) → (a == b) ≡ false
eqb-false a b differ = grind (arith, nat_tests)

-- a number that does not pass: the rest determines the smallest
pub least_on : (test : ℕ → Bool) (end n : ℕ) (r : Option ℕ) → n < end → test n ≡ false → least_where test n (end - n) ≡ r → least_where test (n + 1) (end - (n + 1)) ≡ r
least_on test end n r below fails so_far =
    let more : end - n ≡ suc (end - (n + 1)) = omega arith in
    let one : least_where test n (end - n) ≡ least_where test (n + 1) (end - (n + 1)) = rw (more, fails) refl in
    sym one ∙ so_far

-- a number that passes
pub least_here : (test : ℕ → Bool) (end n : ℕ) (r : Option ℕ) → n < end → test n ≡ true → least_where test n (end - n) ≡ r → Some n ≡ r
least_here test end n r below passes so_far =
    let more : end - n ≡ suc (end - (n + 1)) = omega arith in
    let one : least_where test n (end - n) ≡ Some n = rw (more, passes) refl in
    sym one ∙ so_far

-- after the last number there is none
pub least_done : (test : ℕ → Bool) (end n : ℕ) (r : Option ℕ) → end ≤ n → least_where test n (end - n) ≡ r → None ≡ r
least_done test end n r past so_far =
    let none : end - n ≡ 0 = omega arith in
    let one : least_where test n (end - n) ≡ None = rw none refl in
    sym one ∙ so_far

-- a choice that gives nothing
chose_none : (test : Bool) (here : ℕ) (later : Option ℕ) → cond test (Some here) later ≡ None → (test ≡ false) × (later ≡ None)
chose_none true here later e = absurd cc
chose_none false here later e = (refl, e)

-- where none passes, each fails
pub none_passes : (test : ℕ → Bool) (from count n : ℕ) → least_where test from count ≡ None → from ≤ n → n < from + count → test n ≡ false
none_passes test from zero n none least most = absurd (omega (arith, least, most))
none_passes test from (suc count) n none least most =
    let split = chose_none (test from) from (least_where test (from + 1) count) none in
    elim (cases_lt from n) [
      | inl lt ↦ none_passes test (from + 1) count n split.1 (omega (arith, lt)) (omega (arith, most))
      | inr le ↦ subst (λ (k : ℕ). test k ≡ false) (let same : from ≡ n = omega (arith, le, least) in same) split.0
    ]

-- what is not false is true
pub not_false : (test : Bool) → not test ≡ false → test ≡ true
not_false true e = refl
not_false false e = absurd cc

-- where no partition lacks an image, each has one
pub none_missing : (parts : ℕ) (ids : List ℕ) (id : ℕ) → missing parts ids ≡ None → id < parts → has_id ids id ≡ true
unfolding missing
none_missing parts ids id none below = not_false (has_id ids id) (none_passes (λ n. not (has_id ids n)) 0 parts id none (omega arith) (omega (arith, below)))

-- where no number is extra, each is a partition's
pub all_below : (parts : ℕ) (ids : List ℕ) → parts ≤ 256 → ((i : ℕ) → get_or ids i 0 < 256) → extra parts ids ≡ None → All (λ id. id < parts) ids
unfolding extra has_id
all_below parts ids few bytes none =
    All-from_get_or (λ id. id < parts) ids 0
    (λ k within. elim (cases_lt (get_or ids k 0) parts) [
      | inl lt ↦ lt
      | inr le ↦
          let same : (get_or ids k 0 == get_or ids k 0) ≡ true = (Decides-eqb (get_or ids k 0) (get_or ids k 0)).1 refl in
          let has : list_any (λ other. other == get_or ids k 0) ids ≡ true = list_any_at (λ other. other == get_or ids k 0) ids k 0 within same in
          let lacks : list_any (λ other. other == get_or ids k 0) ids ≡ false = none_passes (λ id. list_any (λ other. other == id) ids) parts (256 - parts) (get_or ids k 0) none le (omega (arith, bytes k, few)) in
          let wrong : ⊥ = cc in absurd wrong
    ])

-- a number below all that rise is none of them
not_among : (ids : List ℕ) (floor n : ℕ) → RiseFrom floor ids → n < floor → has_id ids n ≡ false
unfolding has_id
not_among [] floor n rise below = refl
not_among (id ∷ later) floor n rise below =
    let differ : (id == n) ≡ false = eqb-false id n (λ e. omega (arith, e, rise.0, below)) in
    rw differ (not_among later (id + 1) n rise.1 (omega (arith, rise.0, below)))

-- a number that is there and is not the first is a later one
among_later : (id : ℕ) (later : List ℕ) (n : ℕ) → id < n → has_id (id ∷ later) n ≡ true → has_id later n ≡ true
unfolding has_id
among_later id later n above has =
    let differ : (id == n) ≡ false = eqb-false id n (λ e. omega (arith, e, above)) in
    ap (λ t. t || list_any (λ other. other == n) later) (sym differ) ∙ has

-- the first of numbers that rise from the floor is the floor, where none from the floor on lacks
first_is : (id : ℕ) (later : List ℕ) (floor parts : ℕ) → RiseFrom floor (id ∷ later) → All (λ id. id < parts) (id ∷ later) → ((n : ℕ) → floor ≤ n → n < parts → has_id (id ∷ later) n ≡ true)
    → id ≡ floor
first_is id later floor parts rise below there =
    let here : id < parts = All-head (λ n. n < parts) id later below in
    elim (cases_lt floor id) [
      | inl lt ↦
          let has : has_id (id ∷ later) floor ≡ true = there floor (omega arith) (omega (arith, lt, here)) in
          let lacks : has_id (id ∷ later) floor ≡ false = not_among (id ∷ later) id floor (omega arith, rise.1) lt in
          let wrong : ⊥ = cc in absurd wrong
      | inr le ↦ omega (arith, le, rise.0)
    ]

-- numbers that rise from the floor, among them all below a count and no other
rising_count : (ids : List ℕ) (floor parts : ℕ) → RiseFrom floor ids → All (λ id. id < parts) ids → ((n : ℕ) → floor ≤ n → n < parts → has_id ids n ≡ true) → floor ≤ parts
    → length ids + floor ≡ parts
unfolding has_id
rising_count [] floor parts rise below there small =
    elim (cases_lt floor parts) [
      | inl lt ↦ let wrong : false ≡ true = there floor (omega arith) lt in absurd cc
      | inr le ↦ omega (arith, le, small)
    ]
rising_count (id ∷ later) floor parts rise below there small =
    let here : id < parts = All-head (λ n. n < parts) id later below in
    let same : id ≡ floor = first_is id later floor parts rise below there in
    let rest : length later + (id + 1) ≡ parts =
    rising_count later (id + 1) parts rise.1 (All-tail (λ n. n < parts) id later below)
    (λ n least most. among_later id later n (omega (arith, least)) (there n (omega (arith, least, same)) most)) (omega (arith, here)) in
    omega (arith, rest, same)

-- rising numbers, none extra and none missing, are as many as the partitions
pub all_counted : (parts : ℕ) (ids : List ℕ) → RiseFrom 0 ids → All (λ id. id < parts) ids → missing parts ids ≡ None → length ids ≡ parts
all_counted parts ids rise below none =
    let whole : length ids + 0 ≡ parts = rising_count ids 0 parts rise below (λ n least most. none_missing parts ids n none most) (omega arith) in
    omega (arith, whole)

-- the numbers from one on, this many
abbrev pub numbers : ℕ → ℕ → List ℕ
numbers from zero = []
numbers from (suc count) = from ∷ numbers (from + 1) count

-- numbers that rise from the floor, among them all below a count and no other, follow each other
rising_numbers : (ids : List ℕ) (floor parts : ℕ) → RiseFrom floor ids → All (λ id. id < parts) ids → ((n : ℕ) → floor ≤ n → n < parts → has_id ids n ≡ true)
    → ids ≡ numbers floor (length ids)
rising_numbers [] floor parts rise below there = refl
rising_numbers (id ∷ later) floor parts rise below there =
    let same : id ≡ floor = first_is id later floor parts rise below there in
    let rest : later ≡ numbers (id + 1) (length later) =
    rising_numbers later (id + 1) parts rise.1 (All-tail (λ n. n < parts) id later below)
    (λ n least most. among_later id later n (omega (arith, least)) (there n (omega (arith, least, same)) most)) in
    ap (λ list. id ∷ list) rest ∙ ap (λ n. numbers n (suc (length later))) same

-- rising numbers, none extra and none missing, are those of the partitions
pub all_numbers : (parts : ℕ) (ids : List ℕ) → RiseFrom 0 ids → All (λ id. id < parts) ids → missing parts ids ≡ None → ids ≡ numbers 0 (length ids)
all_numbers parts ids rise below none = rising_numbers ids 0 parts rise below (λ n least most. none_missing parts ids n none most)
