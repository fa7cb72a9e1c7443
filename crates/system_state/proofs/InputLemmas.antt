-- Words out of bytes, one after another.
use Rattle.std.proofs.Common.{◌≡◌, ℕ, zero, suc, ◌+◌, ◌*◌, ◌≤◌, List, [], ◌∷◌, ◌++◌, length, drop, take, refl, sym, ap, ◌∙◌, arith}
use Rattle.std.proofs.lemmas.List.{append_assoc, length-drop}
use Rattle.std.proofs.Math.Seq.{drop-nil}
use Rattle.std.specs.Int.{from_be_bytes, w32}
use Rattle.system_state.specs.Inputs.{words_in}

-- this many bytes on, and then some more
drop_further : (i j : ℕ) (bytes : List ℕ) → drop (i + j) bytes ≡ drop j (drop i bytes)
drop_further zero j bytes = let plain : 0 + j ≡ j = omega arith in ap (λ (n : ℕ). drop n bytes) plain
drop_further (suc i) j [] = drop-nil (suc i + j) ∙ sym (drop-nil j)
drop_further (suc i) j (byte ∷ bytes) = let one : suc i + j ≡ suc (i + j) = omega arith in ap (λ (n : ℕ). drop n (byte ∷ bytes)) one ∙ drop_further i j bytes

-- the first word of four bytes or more
first_word : (bytes : List ℕ) → 4 ≤ length bytes → words_in bytes ≡ from_be_bytes w32 (take 4 bytes) ∷ words_in (drop 4 bytes)
first_word [] long = absurd (omega (arith, long))
first_word (a ∷ []) long = absurd (omega (arith, long))
first_word (a ∷ b ∷ []) long = absurd (omega (arith, long))
first_word (a ∷ b ∷ c ∷ []) long = absurd (omega (arith, long))
first_word (a ∷ b ∷ c ∷ d ∷ rest) long = refl

-- one word more of what bytes spell
pub word_more : (words new : List ℕ) (place word : ℕ) (bytes : List ℕ) → 4 * place + 4 ≤ length bytes
    → words ++ words_in (drop (4 * place) bytes) ≡ words_in bytes → word ≡ from_be_bytes w32 (take 4 (drop (4 * place) bytes)) → new ≡ words ++ word ∷ []
    → new ++ words_in (drop (4 * (place + 1)) bytes) ≡ words_in bytes
word_more words new place word bytes long before is after =
    let rest = drop (4 * place) bytes in
    let more : 4 ≤ length rest = omega (arith, length-drop (4 * place) bytes, long) in
    let next : 4 * (place + 1) ≡ 4 * place + 4 = omega arith in
    let further : drop (4 * (place + 1)) bytes ≡ drop 4 rest = ap (λ (n : ℕ). drop n bytes) next ∙ drop_further (4 * place) 4 bytes in
    ap (λ (xs : List ℕ). xs ++ words_in (drop (4 * (place + 1)) bytes)) after
    ∙ append_assoc words (word ∷ []) (words_in (drop (4 * (place + 1)) bytes))
    ∙ ap (λ (xs : List ℕ). words ++ word ∷ words_in xs) further
    ∙ ap (λ (first : ℕ). words ++ first ∷ words_in (drop 4 rest)) is
    ∙ ap (λ (xs : List ℕ). words ++ xs) (sym (first_word rest more))
    ∙ before
