-- All children of an entry, and all of theirs, stand within it.
use Rattle.std.proofs.Common.{◌≡◌, ◌∙◌, refl, sym, ap, arith, ℕ, zero, suc, ◌+◌, ◌<◌, ◌≤◌, ◌==◌, Bool, true, false, cond, List, [], ◌∷◌, take, drop, filter, Option, Some, None}
use native.Mathlib.Numerals.{unary_clauses}
use Rattle.std.specs.Prelude.{nat_le, nat_lt, slice_get, take_while}
use Rattle.std.specs.List.{prefix_len}
use Rattle.std.proofs.lemmas.Bool.Decides.{nat_tests}
use Rattle.xmcf_reader.specs.Drafts.{IsDraft, StandsAt}
use Rattle.xmcf_reader.specs.declared.draft.Entry.{Entry}
use Rattle.xmcf_check.specs.Described.{children, grandchildren, is_child, with_grandparent, with_parent}
use Rattle.xmcf_check.specs.lemmas.Families.{within}

-- a test fails where another would pass that fails
fails : (one two : Bool) → (one ≡ true → two ≡ true) → two ≡ false → one ≡ false
fails true two follows not = sym (follows refl) ∙ not
fails false two follows not = refl

-- one of two numbers is less, or they are equal
compared : {G : Type 0} (a b : ℕ) → (a < b → G) → (a ≡ b → G) → (b < a → G) → G
compared {G} a b less same more = at (nat_lt a b) refl
  where
    past : (t : Bool) → nat_lt b a ≡ t → nat_lt a b ≡ false → G
    past true is not = more (grind (arith, nat_tests, is))
    past false is not = same (grind (arith, nat_tests, is, not))

    at : (t : Bool) → nat_lt a b ≡ t → G
    at true is = less (grind (arith, nat_tests, is))
    at false is = past (nat_lt b a) refl is

-- none is kept where none passes
none_kept : {X : Type 0} (P : X → Bool) (xs : List X) → ((k : ℕ) (x : X) → slice_get xs k ≡ Some x → P x ≡ false) → filter P xs ≡ []
none_kept P [] none = refl
none_kept P (x ∷ xs) none = rw (none 0 x refl) (none_kept P xs (λ k y is. none (suc k) y is))

-- those that pass are all after the first
front_dropped : {X : Type 0} (P : X → Bool) (n : ℕ) (xs : List X) → ((k : ℕ) (x : X) → slice_get xs k ≡ Some x → k < n → P x ≡ false) → filter P (drop n xs) ≡ filter P xs
front_dropped P zero xs none = refl
front_dropped P (suc n) [] none = refl
front_dropped P (suc n) (x ∷ xs) none = rw (none 0 x refl (omega arith)) (front_dropped P n xs (λ k y is less. none (suc k) y is (omega (arith, less))))

-- one more from the prefix
one_more : {X : Type 0} (n : ℕ) (x : X) (xs : List X) → take (1 + n) (x ∷ xs) ≡ x ∷ take n xs
one_more n x xs = let e : 1 + n ≡ suc n = omega arith in rw e refl

-- up to each that passes all pass another test
abbrev Leads : {X : Type 0} (P Q : X → Bool) → List X → Type 0
Leads {X} P Q xs = (k m : ℕ) (x y : X) → slice_get xs k ≡ Some x → P x ≡ true → slice_get xs m ≡ Some y → m ≤ k → Q y ≡ true

-- those that pass are all before the first that fails another test
back_dropped : {X : Type 0} (P Q : X → Bool) (xs : List X) → Leads P Q xs → filter P (take_while Q xs) ≡ filter P xs
back_dropped P Q [] leads = refl
back_dropped {X} P Q (x ∷ xs) leads = at (Q x) refl (back_dropped P Q xs (λ k m y z is passes other le. leads (suc k) (suc m) y z is passes other (omega (arith, le))))
  where
    at : (q : Bool) → Q x ≡ q → filter P (take_while Q xs) ≡ filter P xs → filter P (take_while Q (x ∷ xs)) ≡ filter P (x ∷ xs)
    at true q more = rw q (ap (filter P) (one_more (prefix_len Q xs) x xs) ∙ ap (λ kept. cond (P x) (x ∷ kept) kept) more)
    at false q more = rw q (sym (none_kept P (x ∷ xs) (λ k y is. fails (P y) (Q x) (λ passes. leads k 0 y x is passes refl (omega arith)) q)))

-- an element after the first ones has its number among all
got_after : {X : Type 0} (n k : ℕ) (xs : List X) (x : X) → slice_get (drop n xs) k ≡ Some x → slice_get xs (n + k) ≡ Some x
got_after zero k xs x is = let e : 0 + k ≡ k = omega arith in rw e is
got_after (suc n) k [] x is = is
got_after (suc n) k (y ∷ xs) x is = let e : suc n + k ≡ suc (n + k) = omega arith in rw e (got_after n k xs x is)

-- what is after the first ones, without the root
following : (n : ℕ) (root : Entry) (rest : List Entry) → drop (n + 1) (root ∷ rest) ≡ drop n rest
following n root rest = simp unary_clauses refl

-- one number has one entry
one_entry : (entries : List Entry) (i j : ℕ) (x y : Entry) → StandsAt entries i x → StandsAt entries j y → i ≡ j → x.parent ≡ y.parent
one_entry entries i j x y one two same = cc

-- a parent does not stand after
parent_before : (entries : List Entry) (n : ℕ) (x : Entry) → IsDraft entries → StandsAt entries n x → x.parent ≤ n
parent_before entries zero x draft is = let first = draft.root in let same = one_entry entries 0 0 x first.0 is first.1 refl in omega (arith, same, first.2.parent)
parent_before entries (suc n) x draft is = omega (arith, draft.before (suc n) x is (omega arith))

-- all children of an entry stand within it
pub children_within : (number : ℕ) (entries : List Entry) → IsDraft entries → with_parent number (within number entries) ≡ children number entries
unfolding within children
children_within number [] draft = let stands : StandsAt [] 0 draft.root.0 = draft.root.1 in cc
children_within number (root ∷ rest) draft =
    ap (λ (inside : List Entry). with_parent number (take_while (λ e. nat_le number e.parent) inside)) (following number root rest)
    ∙ back_dropped (λ e. e.parent == number) (λ e. nat_le number e.parent) (drop number rest) leads
    ∙ front_dropped (λ e. e.parent == number) number rest (λ k x is less. grind (arith, nat_tests, less, draft.before (suc k) x is (omega arith)))
  where
    leads : Leads (λ e. e.parent == number) (λ e. nat_le number e.parent) (drop number rest)
    leads k m x y at_k passes at_m le =
        let one = got_after number k rest x at_k in
        let two = got_after number m rest y at_m in
        let parent : x.parent ≡ number = grind (arith, nat_tests, passes) in
        compared m k (λ less. grind (arith, nat_tests, parent, draft.within (suc (number + k)) (suc (number + m)) x y one two (omega (arith, parent)) (omega (arith, less))))
        (λ same. grind (arith, nat_tests, parent, one_entry (root ∷ rest) (suc (number + k)) (suc (number + m)) x y one two (omega (arith, same))))
        (λ more. absurd (omega (arith, more, le)))

-- an entry whose parent's parent has a number has such a parent
its_parent : (number : ℕ) (o : Option Entry) → is_child number o ≡ true → (p : Entry) × (o ≡ Some p) × (p.parent ≡ number)
its_parent number None passes = cc
its_parent number (Some p) passes = (p, refl, grind (arith, nat_tests, passes))

-- one whose parent's parent stands too early passes not
no_child : (number : ℕ) (o : Option Entry) → ((p : Entry) → o ≡ Some p → p.parent < number) → is_child number o ≡ false
no_child number None early = refl
no_child number (Some p) early = grind (arith, nat_tests, early p refl)

-- all children of an entry's children stand within it
pub grandchildren_within : (number : ℕ) (entries : List Entry) → IsDraft entries → with_grandparent entries number (within number entries) ≡ grandchildren number entries
unfolding within grandchildren
grandchildren_within number [] draft = let stands : StandsAt [] 0 draft.root.0 = draft.root.1 in cc
grandchildren_within number (root ∷ rest) draft =
    ap (λ (inside : List Entry). with_grandparent (root ∷ rest) number (take_while (λ e. nat_le number e.parent) inside)) (following number root rest)
    ∙ back_dropped (λ e. is_child number (slice_get (root ∷ rest) e.parent)) (λ e. nat_le number e.parent) (drop number rest) leads
    ∙ front_dropped (λ e. is_child number (slice_get (root ∷ rest) e.parent)) number rest
    (λ k x is less. no_child number (slice_get (root ∷ rest) x.parent) (λ p at_p. omega (arith, less, draft.before (suc k) x is (omega arith), parent_before (root ∷ rest) x.parent p draft at_p)))
  where
    leads : Leads (λ e. is_child number (slice_get (root ∷ rest) e.parent)) (λ e. nat_le number e.parent) (drop number rest)
    leads k m x y at_k passes at_m le =
        let one : StandsAt (root ∷ rest) (suc (number + k)) x = got_after number k rest x at_k in
        let two : StandsAt (root ∷ rest) (suc (number + m)) y = got_after number m rest y at_m in
        let found = its_parent number (slice_get (root ∷ rest) x.parent) passes in
        let first : x.parent < suc (number + k) = draft.before (suc (number + k)) x one (omega arith) in
        let not_after : found.0.parent ≤ x.parent = parent_before (root ∷ rest) x.parent found.0 draft found.1 in
        let grand : found.0.parent ≡ number = found.2 in
        compared x.parent (suc (number + m))
        (λ less. compared m k
        (λ before. grind (arith, nat_tests, grand, not_after, draft.within (suc (number + k)) (suc (number + m)) x y one two less (omega (arith, before))))
        (λ same. grind (arith, nat_tests, grand, not_after, one_entry (root ∷ rest) (suc (number + k)) (suc (number + m)) x y one two (omega (arith, same))))
        (λ more. absurd (omega (arith, more, le))))
        (λ same. grind (arith, nat_tests, grand, one_entry (root ∷ rest) x.parent (suc (number + m)) found.0 y found.1 two same))
        (λ more. grind (arith, nat_tests, grand, draft.within x.parent (suc (number + m)) found.0 y found.1 two (omega (arith, grand)) more))
