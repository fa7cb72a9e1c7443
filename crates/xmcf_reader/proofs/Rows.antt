-- Rows of a table, each with a name of its own.
use Rattle.std.proofs.Common.{◌≡◌, Bool, true, false, cond, List, [], ◌∷◌, ◌++◌, map, filter, Some, refl, sym, arith, subst}
use Rattle.std.specs.Prelude.{not, ◌&&◌}
use Rattle.std.specs.List.{find, AllByRecursion}
use Rattle.std.proofs.lemmas.Bool.Decides.{nat_tests}
use Rattle.xmcf_reader.specs.Words.{is_word, word_number}
use Rattle.xmcf_reader.specs.declared.fault.ReadFault.{ReadFault}
use Rattle.xmcf_reader.specs.declared.word.Word.{Word}

-- names that are the same have one number
pub same_number : (one other : Word) → is_word one other ≡ true → word_number one ≡ word_number other
same_number one other e = grind (arith, nat_tests)

-- names with one number are the same
pub is_same : (one other : Word) → word_number one ≡ word_number other → is_word one other ≡ true
is_same one other e = grind (arith, nat_tests)

-- each names itself
pub is_itself : (one : Word) → is_word one one ≡ true
is_itself one = is_same one one refl

-- what holds of each holds of each
pub all_of : {X : Type 0} (P : X → Type 0) (xs : List X) → ((x : X) → P x) → AllByRecursion P xs
all_of P [] h = tt
all_of P (x ∷ xs) h = (h x, all_of P xs h)

-- what follows of each follows
pub all_then : {X : Type 0} (P Q : X → Type 0) (xs : List X) → ((x : X) → P x → Q x) → AllByRecursion P xs → AllByRecursion Q xs
all_then P Q [] h all = tt
all_then P Q (x ∷ xs) h all = (h x all.0, all_then P Q xs h all.1)

-- what follows of each from two facts follows
pub all_both : {X : Type 0} (P Q R : X → Type 0) (xs : List X) → ((x : X) → P x → Q x → R x) → AllByRecursion P xs → AllByRecursion Q xs → AllByRecursion R xs
all_both P Q R [] h all also = tt
all_both P Q R (x ∷ xs) h all also = (h x all.0 also.0, all_both P Q R xs h all.1 also.1)

-- what holds of each and of one more
pub all_more : {X : Type 0} (P : X → Type 0) (xs : List X) (x : X) → AllByRecursion P xs → P x → AllByRecursion P (xs ++ x ∷ [])
all_more P [] x all last = (last, tt)
all_more P (y ∷ ys) x all last = (all.0, all_more P ys x all.1 last)

-- what holds of each holds of what is found
pub found_all : {X : Type 0} (P : X → Type 0) (test : X → Bool) (xs : List X) (x : X) → find test xs ≡ Some x → AllByRecursion P xs → P x
found_all P test [] x e all = cc
found_all {X} P test (y ∷ ys) x e all = at (test y) e (λ f. found_all P test ys x f all.1)
  where
    at : (here : Bool) → cond here (Some y) (find test ys) ≡ Some x → (find test ys ≡ Some x → P x) → P x
    at true f more = let same : y ≡ x = cc in subst P same all.0
    at false f more = more f

-- what is found passes
pub found_passes : {X : Type 0} (test : X → Bool) (xs : List X) (x : X) → find test xs ≡ Some x → test x ≡ true
found_passes test [] x e = cc
found_passes {X} test (y ∷ ys) x e = at (test y) refl e (found_passes test ys x)
  where
    at : (here : Bool) → test y ≡ here → cond here (Some y) (find test ys) ≡ Some x → (find test ys ≡ Some x → test x ≡ true) → test x ≡ true
    at true passes f more = let same : y ≡ x = cc in subst (λ (z : X). test z ≡ true) same passes
    at false passes f more = more f

-- where there is no fault of what passes, none passes
pub none_of : {X : Type 0} (test : X → Bool) (fault_of : X → ReadFault) (xs : List X) → map fault_of (filter test xs) ≡ [] → AllByRecursion (λ x. test x ≡ false) xs
none_of test fault_of [] e = tt
none_of {X} test fault_of (x ∷ xs) e = at (test x) refl e (none_of test fault_of xs)
  where
    at : (here : Bool) → test x ≡ here → map fault_of (cond here (x ∷ filter test xs) (filter test xs)) ≡ []
        → (map fault_of (filter test xs) ≡ [] → AllByRecursion (λ x. test x ≡ false) xs) → (test x ≡ false) × AllByRecursion (λ x. test x ≡ false) xs
    at true is f more = cc
    at false is f more = (is, more f)

-- no row has the name
abbrev pub differs : {X : Type 0} → (X → Word) → Word → List X → Bool
differs name word [] = true
differs name word (row ∷ rows) = not (is_word (name row) word) && differs name word rows

-- each row has a name of its own
abbrev pub distinct : {X : Type 0} → (X → Word) → List X → Bool
distinct name [] = true
distinct name (row ∷ rows) = differs name (name row) rows && distinct name rows

-- nothing is true and false
pub unlike : (b : Bool) → b ≡ true → b ≡ false → ⊥
unlike b e f = cc

both_left : (a b : Bool) → (a && b) ≡ true → a ≡ true
both_left true b e = refl
both_left false b e = cc

both_right : (a b : Bool) → (a && b) ≡ true → b ≡ true
both_right true b e = e
both_right false b e = cc

is_not : (a : Bool) → not a ≡ true → a ≡ false
is_not true e = cc
is_not false e = refl

-- where no row has the name, what is found has not
found_differs : {X : Type 0} (name : X → Word) (word : Word) (test : X → Bool) (rows : List X) (row : X) → differs name word rows ≡ true → find test rows ≡ Some row → is_word (name row) word ≡ false
found_differs name word test [] row d f = cc
found_differs {X} name word test (first ∷ rows) row d f =
    at (test first) f (is_not _ (both_left _ _ d)) (found_differs name word test rows row (both_right (not (is_word (name first) word)) _ d))
  where
    at : (here : Bool) → cond here (Some first) (find test rows) ≡ Some row → is_word (name first) word ≡ false → (find test rows ≡ Some row → is_word (name row) word ≡ false) → is_word (name row) word ≡ false
    at true f apart more = let same : first ≡ row = cc in subst (λ (other : X). is_word (name other) word ≡ false) same apart
    at false f apart more = more f

-- where no row has the name, each that has is whatever is wanted
none_has : {X : Type 0} (name : X → Word) (word : Word) (wanted : X) (rows : List X) → differs name word rows ≡ true → AllByRecursion (λ other. is_word (name other) word ≡ true → other ≡ wanted) rows
none_has name word wanted [] d = tt
none_has name word wanted (row ∷ rows) d =
    (λ e. (let apart : is_word (name row) word ≡ false = is_not _ (both_left _ _ d) in cc), none_has name word wanted rows (both_right (not (is_word (name row) word)) _ d))

-- a row with the name of the row that is found is that row
pub same_row : {X : Type 0} (name : X → Word) (test : X → Bool) (rows : List X) (row : X) → distinct name rows ≡ true → find test rows ≡ Some row
    → AllByRecursion (λ other. is_word (name other) (name row) ≡ true → other ≡ row) rows
same_row name test [] row d f = tt
same_row {X} name test (first ∷ rows) row d f = at (test first) f (both_left _ _ d) (same_row name test rows row (both_right (differs name (name first) rows) _ d))
  where
    at : (here : Bool) → cond here (Some first) (find test rows) ≡ Some row → differs name (name first) rows ≡ true
        → (find test rows ≡ Some row → AllByRecursion (λ other. is_word (name other) (name row) ≡ true → other ≡ row) rows)
        → (is_word (name first) (name row) ≡ true → first ≡ row) × AllByRecursion (λ other. is_word (name other) (name row) ≡ true → other ≡ row) rows
    at true f apart more =
        let same : first ≡ row = cc in
        (λ _. same, subst (λ (other : X). AllByRecursion (λ y. is_word (name y) (name other) ≡ true → y ≡ row) rows) same (none_has name (name first) row rows apart))
    at false f apart more = (
      λ e. (let other : is_word (name row) (name first) ≡ false = found_differs name (name first) test rows row apart f in
          let here : is_word (name row) (name first) ≡ true = is_same (name row) (name first) (sym (same_number (name first) (name row) e)) in absurd (unlike _ here other)),
      more f,
    )
