-- The reading of fields: each is the next bytes of a cursor, or a fault at its beginning. How a fault is made is given with each.
use Rattle.std.specs.Prelude.{ℕ, Bool, nat_lt, if◌then◌else◌, List, Result, Ok, Err}
use Rattle.std.specs.Int.{Width, byte_len, from_be_bytes}
use Rattle.xm_base.specs.Cursor.{Place, left, next, past}
use Rattle.file_headers.specs.Steps.{◌>>=◌, unless}

-- the next bytes, this many, and the place after them; a field that passes the end is short, at its beginning
abbrev pub field_bytes : {F : Type 0} → (ℕ → F) → ℕ → Place → Result (List ℕ × Place) F
field_bytes short count place = if nat_lt (left place) count then Err (short place.at) else Ok (next count place, past count place)

-- the next field as a number, and the place after it
abbrev pub number_at : {F : Type 0} → (ℕ → F) → Width → Place → Result (ℕ × Place) F
number_at short width place = field_bytes short (byte_len width) place >>= λ bytes. Ok (from_be_bytes width bytes.0, bytes.1)

-- the next field as a number that passes a test; one that does not is a fault of the field, at its beginning
abbrev pub listed_at : {F : Type 0} → (ℕ → F) → (ℕ → F) → Width → (ℕ → Bool) → Place → Result (ℕ × Place) F
listed_at short field width test place = number_at short width place >>= λ number. unless (test number.0) (field place.at) number
