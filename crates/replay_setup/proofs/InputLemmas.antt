-- The input words of the partition that is replayed.
use Rattle.std.proofs.Common.{◌≡◌, ◌≢◌, ◌↔◌, ℕ, ◌%◌, Bool, true, false, nat_eq, List, [], length, replicate, slice_set, Ok, Err, refl, sym, ap, ◌∙◌, arith}
use Rattle.std.proofs.lemmas.Bool.Decides.{nat_tests}
use Rattle.system_state.specs.Inputs.{words_in}
use Rattle.builders.specs.Ready.{OddInput, inputs_given}

-- bytes whose number is not refused are whole words
whole_words : {T E : Type 0} (count : ℕ) (x : T) (e : E) → (Ok x ≡ Err e) ↔ (count % 4 ≢ 0) → nat_eq (count % 4) 0 ≡ true
whole_words count x e law = at (nat_eq (count % 4) 0) refl
  where
    at : (t : Bool) → nat_eq (count % 4) 0 ≡ t → nat_eq (count % 4) 0 ≡ true
    at true is = is
    at false is =
        let differs : count % 4 ≢ 0 = grind (arith, nat_tests) in
        let refused : Ok x ≡ Err e = law.1 differs in
        absurd (cc)

-- the partition has its words
pub given_words : {T E : Type 0} (parts p : ℕ) (bytes : List ℕ) (none new : List (List ℕ)) (x : T) (e : E) → none ≡ replicate parts [] → (Ok x ≡ Err e) ↔ (length bytes % 4 ≢ 0) → new ≡ slice_set none p (words_in bytes)
    → inputs_given parts p bytes ≡ Ok new
unfolding inputs_given
given_words parts p bytes none new x e empty law is =
    rw (whole_words (length bytes) x e law) (ap (λ inputs. Ok (slice_set inputs p (words_in bytes))) (sym empty) ∙ ap Ok (sym is))

-- its bytes are no whole words
pub given_odd : (parts p : ℕ) (bytes : List ℕ) (found : ℕ) → found ≡ length bytes → length bytes % 4 ≢ 0 → inputs_given parts p bytes ≡ Err (OddInput found)
unfolding inputs_given
given_odd parts p bytes found is odd =
    let test : nat_eq (length bytes % 4) 0 ≡ false = grind (arith, nat_tests, odd) in
    rw test (ap (λ n. Err (OddInput n)) (sym is))
