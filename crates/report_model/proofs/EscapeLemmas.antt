-- A console's text determines its bytes.
use Rattle.std.proofs.Common.{◌≡◌, ℕ, suc, ◌+◌, ◌*◌, ◌/◌, ◌%◌, ◌<◌, ◌==◌, ◌&&◌, nat_le, Bool, true, false, if◌then◌else◌, List, [], ◌∷◌, ◌++◌, codes, unwrap_or, refl, sym, ap, ◌∙◌, subst, arith}
use Rattle.std.proofs.lemmas.Bool.{eqb-true}
use Rattle.std.proofs.lemmas.Bool.Decides.{nat_tests}
use Rattle.std.proofs.lemmas.List.{append_assoc, append_cancel_left}
use Rattle.hex.specs.Hex.{encode_lower, encode_with, hex_digit_value}
use Rattle.hex.proofs.HexLemmas.{IsDigits-lower_digits}
use Rattle.xm_base.specs.Bytes.{AreBytes}
use Rattle.xm_report.specs.Report.{escape, escaped}

-- the byte that two digits spell
abbrev hexed : List ℕ → ℕ
hexed [] = 0
hexed (high ∷ []) = 0
hexed (high ∷ low ∷ rest) = unwrap_or (hex_digit_value high) 0 * 16 + unwrap_or (hex_digit_value low) 0

-- the byte that stands after a backslash
abbrev slashed : List ℕ → ℕ
slashed [] = 0
slashed (byte ∷ rest) = if byte == 110 then 10 else if byte == 92 then 92 else hexed rest

-- the first byte of a console's text
abbrev first_of : List ℕ → ℕ
first_of [] = 0
first_of (byte ∷ rest) = if byte == 92 then slashed rest else byte

-- it is read back
read_first : (byte : ℕ) (rest : List ℕ) → byte < 256 → first_of (escape byte ++ rest) ≡ byte
unfolding escape encode_with
read_first byte rest small = newline (byte == 10) refl
  where
    hex : first_of ((codes "\\x" ++ encode_lower (byte ∷ [])) ++ rest) ≡ byte
    hex =
        let high = IsDigits-lower_digits (byte / 16) (omega (arith, small)) in
        let low = IsDigits-lower_digits (byte % 16) (omega arith) in
        rw (high, low) (omega arith)

    printed : (t : Bool) → (byte == 92) ≡ false → first_of ((if t then byte ∷ [] else codes "\\x" ++ encode_lower (byte ∷ [])) ++ rest) ≡ byte
    printed true plain = rw plain refl
    printed false plain = hex

    slash : (t : Bool) → (byte == 92) ≡ t → first_of ((if t then codes "\\\\" else if nat_le 32 byte && nat_le byte 126 then byte ∷ [] else codes "\\x" ++ encode_lower (byte ∷ [])) ++ rest) ≡ byte
    slash true is = sym (eqb-true byte 92 is)
    slash false is = printed (nat_le 32 byte && nat_le byte 126) is

    newline : (t : Bool) → (byte == 10) ≡ t
        → first_of ((if t then codes "\\n" else if byte == 92 then codes "\\\\" else if nat_le 32 byte && nat_le byte 126 then byte ∷ [] else codes "\\x" ++ encode_lower (byte ∷ [])) ++ rest) ≡ byte
    newline true is = sym (eqb-true byte 10 is)
    newline false is = slash (byte == 92) refl

-- no byte is written as a newline
never_newline : (byte : ℕ) (rest after : List ℕ) → 10 ∷ after ≡ escape byte ++ rest → ⊥
unfolding escape
never_newline byte rest after same = newline (byte == 10) refl same
  where
    printed : (t : Bool) → (byte == 10) ≡ false → 10 ∷ after ≡ (if t then byte ∷ [] else codes "\\x" ++ encode_lower (byte ∷ [])) ++ rest → ⊥
    printed true is e = (let first : byte ≡ 10 = cc in absurd (grind (arith, nat_tests)))
    printed false is e = absurd (cc)

    slash : (t : Bool) → (byte == 10) ≡ false → 10 ∷ after ≡ (if t then codes "\\\\" else if nat_le 32 byte && nat_le byte 126 then byte ∷ [] else codes "\\x" ++ encode_lower (byte ∷ [])) ++ rest → ⊥
    slash true is e = absurd (cc)
    slash false is e = printed (nat_le 32 byte && nat_le byte 126) is e

    newline : (t : Bool) → (byte == 10) ≡ t
        → 10 ∷ after ≡ (if t then codes "\\n" else if byte == 92 then codes "\\\\" else if nat_le 32 byte && nat_le byte 126 then byte ∷ [] else codes "\\x" ++ encode_lower (byte ∷ [])) ++ rest → ⊥
    newline true is e = absurd (cc)
    newline false is e = slash (byte == 92) is e

-- a console's text before its newline determines its bytes
pub escaped_cut : (one other after later : List ℕ) → AreBytes one → AreBytes other → escaped one ++ (10 ∷ after) ≡ escaped other ++ (10 ∷ later) → (one ≡ other) × (after ≡ later)
escaped_cut [] [] after later bytes bytes_other same = (refl, cc)
escaped_cut [] (byte ∷ other) after later bytes bytes_other same =
    absurd (never_newline byte (escaped other ++ (10 ∷ later)) after (same ∙ append_assoc (escape byte) (escaped other) (10 ∷ later)))
escaped_cut (byte ∷ one) [] after later bytes bytes_other same =
    absurd (never_newline byte (escaped one ++ (10 ∷ after)) later (sym same ∙ append_assoc (escape byte) (escaped one) (10 ∷ after)))
escaped_cut (byte ∷ one) (next ∷ other) after later bytes bytes_other same =
    let split = sym (append_assoc (escape byte) (escaped one) (10 ∷ after)) ∙ same ∙ append_assoc (escape next) (escaped other) (10 ∷ later) in
    let first : byte ≡ next = sym (read_first byte (escaped one ++ (10 ∷ after)) (bytes 0)) ∙ ap first_of split ∙ read_first next (escaped other ++ (10 ∷ later)) (bytes_other 0) in
    let rest : escape byte ++ (escaped one ++ (10 ∷ after)) ≡ escape byte ++ (escaped other ++ (10 ∷ later)) = subst (λ (b : ℕ). escape byte ++ (escaped one ++ (10 ∷ after)) ≡ escape b ++ (escaped other ++ (10 ∷ later))) (sym first) split in
    let both = escaped_cut one other after later (λ k. bytes (suc k)) (λ k. bytes_other (suc k)) (append_cancel_left (escape byte) (escaped one ++ (10 ∷ after)) (escaped other ++ (10 ∷ later)) rest) in
    let others : one ≡ other = both.0 in
    (cc, both.1)
