-- Hexadecimal digits are text.
use Rattle.std.proofs.Common.{◌≡◌, ℕ, ◌<◌, true, ltb, List, refl, sym, subst}
use Rattle.std.specs.List.{list_all}
use Rattle.std.specs.Str.{IsAscii}
use Rattle.std.proofs.lemmas.Bool.Decides.{Decides-ltb}
use Rattle.std.proofs.lemmas.List.Elements.{All-weaker}
use Rattle.std.proofs.lemmas.List.Sums.{AllPass-from_list_all}
use Rattle.std.proofs.lemmas.Str.Ascii.{IsAscii-from_all}
use Rattle.hex.specs.Hex.{encode_lower, lower_digits}
use Rattle.hex.proofs.HexLemmas.{IsAscii-encode_with}

-- bytes that pass a test are below 128
ascii_from_test : (bytes : List ℕ) → list_all (λ b. ltb b 128) bytes ≡ true → IsAscii bytes
ascii_from_test bytes passes =
    IsAscii-from_all bytes
    (All-weaker (λ b. ltb b 128 ≡ true) (λ b. b < 128) (λ b e. (Decides-ltb b 128).0 e) bytes (AllPass-from_list_all (λ b. ltb b 128) bytes passes))

-- the digits of bytes are text
pub digits_ascii : (bytes digits : List ℕ) → digits ≡ encode_lower bytes → IsAscii digits
digits_ascii bytes digits is =
    subst (λ (x : List ℕ). IsAscii x) (sym is) (IsAscii-encode_with lower_digits bytes (ascii_from_test lower_digits refl))
