-- Words of 32 bits as whole numbers, with and without a sign, and what arithmetic makes of them.
use Rattle.std.specs.Prelude.{ℕ, ◌+◌, ◌-◌, ◌*◌, ◌/◌, ◌%◌, ◌^◌, ℤ, pos, negsuc, ◌+ℤ◌, ◌-ℤ◌, ◌*ℤ◌, Bool, not, ◌||◌, nat_lt, nat_le, min, ◌==◌, if◌then◌else◌, int_div}
use Rattle.std.specs.Int.{w32, w64, cast_signed, cast_unsigned, saturate_signed, int_shr}

-- the lowest this many bits of a whole number, in two's complement
abbrev pub residue : ℕ → ℤ → ℕ
residue width (pos n) = n % 2 ^ width
residue width (negsuc n) = 2 ^ width - 1 - n % 2 ^ width

-- a word as a signed number
abbrev pub signed_value : ℕ → ℤ
signed_value word = cast_signed w32 word

-- the number is a signed word's
abbrev pub is_signed_word : ℤ → Bool
is_signed_word (pos n) = nat_lt n (2 ^ 31)
is_signed_word (negsuc n) = nat_lt n (2 ^ 31)

-- a flag as a number
abbrev pub bit : Bool → ℕ
bit flag = if flag then 1 else 0

-- bit 31 of a word, its sign
unfoldable pub sign : ℕ → Bool
sign word = nat_le (2 ^ 31) word

-- the sum of two words and a carry
unfoldable pub sum : ℕ → ℕ → Bool → ℕ
sum a b carry = (a + b + bit carry) % 2 ^ 32

-- a carry leaves the word
unfoldable pub sum_carries : ℕ → ℕ → Bool → Bool
sum_carries a b carry = nat_le (2 ^ 32) (a + b + bit carry)

-- the sum of signed words and a carry
abbrev pub signed_sum : ℕ → ℕ → Bool → ℤ
signed_sum a b carry = signed_value a +ℤ signed_value b +ℤ pos (bit carry)

-- it does not fit a signed word
unfoldable pub sum_overflows : ℕ → ℕ → Bool → Bool
sum_overflows a b carry = not (is_signed_word (signed_sum a b carry))

-- the difference of two words, less a borrow
unfoldable pub difference : ℕ → ℕ → Bool → ℕ
difference a b borrow = (a + (2 ^ 33 - (b + bit borrow))) % 2 ^ 32

-- a borrow is taken from beyond the word
unfoldable pub difference_borrows : ℕ → ℕ → Bool → Bool
difference_borrows a b borrow = nat_lt a (b + bit borrow)

-- the difference of signed words, less a borrow
abbrev pub signed_difference : ℕ → ℕ → Bool → ℤ
signed_difference a b borrow = signed_value a -ℤ signed_value b -ℤ pos (bit borrow)

-- it does not fit a signed word
unfoldable pub difference_overflows : ℕ → ℕ → Bool → Bool
difference_overflows a b borrow = not (is_signed_word (signed_difference a b borrow))

-- the product of signed words, as a double word
unfoldable pub signed_product : ℕ → ℕ → ℕ
signed_product a b = residue 64 (signed_value a *ℤ signed_value b)

-- the quotient of a double word, as far as a word holds it
unfoldable pub quotient : ℕ → ℕ → ℕ
quotient dividend divisor = min (dividend / divisor) (2 ^ 32 - 1)

-- it does not fit a word
unfoldable pub quotient_overflows : ℕ → ℕ → Bool
quotient_overflows dividend divisor = nat_le (2 ^ 32) (dividend / divisor)

-- the quotient of a signed double word, rounded toward zero
abbrev pub exact_quotient : ℕ → ℕ → ℤ
exact_quotient dividend divisor = int_div (cast_signed w64 dividend) (signed_value divisor)

-- as far as a signed word holds it
unfoldable pub signed_quotient : ℕ → ℕ → ℕ
signed_quotient dividend divisor = cast_unsigned w32 (saturate_signed w32 (exact_quotient dividend divisor))

-- it does not fit one
unfoldable pub signed_quotient_overflows : ℕ → ℕ → Bool
signed_quotient_overflows dividend divisor = not (is_signed_word (exact_quotient dividend divisor))

-- one of the two low bits of a word is set: it bears a tag
unfoldable pub is_tagged : ℕ → ℕ → Bool
is_tagged a b = not (a % 4 == 0) || not (b % 4 == 0)

-- a word moved by this many places to the left, to the right, and to the right with copies of its sign
unfoldable pub shifted_left : ℕ → ℕ → ℕ
shifted_left a count = (a * 2 ^ (count % 32)) % 2 ^ 32

unfoldable pub shifted_right : ℕ → ℕ → ℕ
shifted_right a count = a / 2 ^ (count % 32)

unfoldable pub shifted_arithmetically : ℕ → ℕ → ℕ
shifted_arithmetically a count = cast_unsigned w32 (int_shr (signed_value a) (count % 32))
