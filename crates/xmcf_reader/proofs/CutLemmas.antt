-- The cut of a text, from one token to the next.
use Rattle.std.proofs.Common.{◌≡◌, ℕ, zero, suc, ◌+◌, ◌≤◌, true, List, [], ◌∷◌, length, drop, refl, sym, ap, ◌∙◌, arith, subst, Some, None, get_or}
use Rattle.std.specs.Prelude.{nat_eq, slice_get}
use Rattle.std.specs.List.{prefix_len}
use Rattle.xmcf_reader.specs.Bytes.{is_letter, is_of_name}
use Rattle.xmcf_reader.specs.Faults.{Item, Rest, End, cut, stopped}
use Rattle.xmcf_reader.specs.Tokens.{Token, Found, Broken, front}
use Rattle.xmcf_reader.specs.declared.token.Stop.{Stop}

-- the bytes that belong to the token before are passed over
pub cut_passes : (at more : ℕ) (bytes : List ℕ) → more ≤ length bytes → cut at more bytes ≡ cut (at + more) 0 (drop more bytes)
unfolding cut
cut_passes at zero bytes h = ap (λ n. cut n 0 bytes) (omega arith)
cut_passes at (suc more) [] h = absurd (omega arith)
cut_passes at (suc more) (byte ∷ bytes) h = cut_passes (at + 1) more bytes (omega arith) ∙ ap (λ n. cut n 0 (drop more bytes)) (omega arith)

-- a token at the beginning comes next
pub cut_found : (at byte : ℕ) (bytes : List ℕ) (token : Token) (size : ℕ) → front (nat_eq at 0) (byte ∷ bytes) ≡ Found token size → 1 ≤ size → size ≤ length (byte ∷ bytes)
    → cut at 0 (byte ∷ bytes) ≡ Item token at (cut (at + size) 0 (drop size (byte ∷ bytes)))
unfolding cut
cut_found at byte bytes token zero e some most = absurd (omega arith)
cut_found at byte bytes token (suc size) e some most =
    rw e (ap (Item token at) (ap (λ n. cut (at + 1) n bytes) (omega arith) ∙ cut_passes (at + 1) size bytes (omega arith) ∙ ap (λ n. cut n 0 (drop size bytes)) (omega arith)))

-- a spelling that stops comes last
pub cut_stops : (at byte : ℕ) (bytes : List ℕ) (stop : Stop) → front (nat_eq at 0) (byte ∷ bytes) ≡ Broken stop → cut at 0 (byte ∷ bytes) ≡ Rest at byte (stopped at (length (byte ∷ bytes)) stop)
unfolding cut
cut_stops at byte bytes stop e = rw e (ap (λ n. Rest at byte (stopped at n stop)) (omega arith))

-- nothing is left at the end
pub cut_ends : (at : ℕ) → cut at 0 [] ≡ End at
unfolding cut
cut_ends at = refl

-- where a token stands at the beginning of what is left, it comes next
pub next_found : (at : ℕ) (text : List ℕ) (token : Token) (size : ℕ) → Found token size ≡ front (nat_eq at 0) text → 1 ≤ size → size ≤ length text → cut at 0 text ≡ Item token at (cut (at + size) 0 (drop size text))
next_found at [] token size e some most = absurd (omega arith)
next_found at (byte ∷ bytes) token size e some most = cut_found at byte bytes token size (sym e) some most

-- where none stands, the rest comes last
pub next_stops : (at byte : ℕ) (text : List ℕ) (stop : Stop) → Broken stop ≡ front (nat_eq at 0) text → Some byte ≡ slice_get text 0 → cut at 0 text ≡ Rest at byte (stopped at (length text) stop)
next_stops at byte [] stop e first = cc
next_stops at byte (other ∷ bytes) stop e first = let same : byte ≡ other = cc in subst (λ (b : ℕ). cut at 0 (other ∷ bytes) ≡ Rest at b (stopped at (length (other ∷ bytes)) stop)) (sym same) (cut_stops at other bytes stop (sym e))

-- where nothing is left, the end comes
pub next_ends : (at : ℕ) (text : List ℕ) → None ≡ slice_get text 0 → cut at 0 text ≡ End at
next_ends at [] e = cut_ends at
next_ends at (byte ∷ bytes) e = cc

-- a zero byte is no letter
no_letter : is_letter 0 ≡ true → ⊥
unfolding is_letter
no_letter e = cc

-- a name that begins with a letter has a byte
pub letter_counts : (bytes : List ℕ) → is_letter (get_or bytes 0 0) ≡ true → 1 ≤ prefix_len is_of_name bytes
unfolding is_of_name
letter_counts [] e = absurd (no_letter e)
letter_counts (byte ∷ bytes) e = rw e (omega arith)
