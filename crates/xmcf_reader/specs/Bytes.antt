-- The classes of bytes in an XM_CF text, and the places of bytes in it.
use Rattle.std.specs.Prelude.{ℕ, suc, ◌==◌, Bool, ◌&&◌, ◌||◌, nat_le, if◌then◌else◌, List, [], ◌∷◌, drop, Option, Some, None}
use Rattle.std.specs.List.{zip}
use Rattle.std.specs.Option.{option_map}

-- space, tab, CR and LF
unfoldable pub is_blank : ℕ → Bool
is_blank byte = byte == 32 || byte == 9 || byte == 13 || byte == 10

-- a letter of either case
unfoldable pub is_letter : ℕ → Bool
is_letter byte = (nat_le 65 byte && nat_le byte 90) || (nat_le 97 byte && nat_le byte 122)

-- a decimal digit
unfoldable pub is_digit : ℕ → Bool
is_digit byte = nat_le 48 byte && nat_le byte 57

-- a byte of a name's token: a letter, a digit or a colon
unfoldable pub is_of_name : ℕ → Bool
is_of_name byte = is_letter byte || is_digit byte || byte == 58

-- a quote of either kind
unfoldable pub is_quote : ℕ → Bool
is_quote byte = byte == 34 || byte == 39

-- a byte past ASCII
unfoldable pub is_past_ascii : ℕ → Bool
is_past_ascii byte = nat_le 128 byte

-- a byte at which a value ends or breaks: its quote, `<`, `&`, or one past ASCII
unfoldable pub ends_value : ℕ → ℕ → Bool
ends_value quote byte = byte == quote || byte == 60 || byte == 38 || is_past_ascii byte

-- a byte at which a declaration ends or breaks: `?`, `&`, or one past ASCII
unfoldable pub ends_declaration : ℕ → Bool
ends_declaration byte = byte == 63 || byte == 38 || is_past_ascii byte

-- the place of the first element that passes the test, where one does
abbrev pub first_where : {X : Type 0} → (X → Bool) → List X → Option ℕ
first_where test [] = None
first_where test (x ∷ xs) = if test x then Some 0 else option_map suc (first_where test xs)

-- each byte with the one after it
abbrev pub pairs : List ℕ → List (ℕ × ℕ)
pairs bytes = zip bytes (drop 1 bytes)

-- two dashes
abbrev pub are_dashes : ℕ × ℕ → Bool
are_dashes pair = pair.0 == 45 && pair.1 == 45
