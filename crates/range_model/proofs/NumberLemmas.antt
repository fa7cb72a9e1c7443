-- Numbers below a bound, and the bytes of a memory.
use Rattle.std.proofs.Common.{◌≡◌, ℕ, zero, suc, ◌<◌, ◌≤◌, ◌+◌, ◌*◌, List, [], ◌∷◌, ◌++◌, arith}
use Rattle.std.specs.Prelude.{◌-◌, ◌/◌, ◌%◌, ◌^◌, ℤ, pos, negsuc, min, bit_and, bit_or, bit_xor, replicate, slice_set, ◌≢◌}
use Rattle.std.proofs.Common.{⊎_elim}
use Rattle.std.proofs.Math.Nat.{div-le_self, min-le_right}
use Rattle.std.proofs.lemmas.Bool.{cases_eq}
use Rattle.std.proofs.lemmas.Nat.{and_le_l, mul-le, or_lt, xor_lt}
use Rattle.std.specs.FinMap.{empty, get-empty, insert}
use Rattle.std.specs.Ordering.{nat_cmp}
use Rattle.std.specs.Int.{Width, w32, w64, bit_not, byte_at as byte_of, bytes_high_first, cast_unsigned, from_be_bytes, int_shr, saturate_signed, to_be_bytes}
use Rattle.guest_bus.specs.Memory.{Memory, byte_at, bytes_at, with_bytes}
use Rattle.guest_bus.specs.lemmas.MemoryLemmas.{get-insert_other, get-insert_same}
use Rattle.guest_bus.specs.Words.{bytes_of, words_at}
use Rattle.range_model.specs.Numbers.{AreBelow, IsByteMemory}

-- in an empty list each is
pub none_below : (bound : ℕ) → 0 < bound → AreBelow bound []
none_below bound some i = some

pub more_below : (bound x : ℕ) (xs : List ℕ) → x < bound → AreBelow bound xs → AreBelow bound (x ∷ xs)
more_below bound x xs small each zero = small
more_below bound x xs small each (suc i) = each i

pub append_below : (bound : ℕ) (xs ys : List ℕ) → AreBelow bound xs → AreBelow bound ys → AreBelow bound (xs ++ ys)
append_below bound [] ys first second i = second i
append_below bound (x ∷ xs) ys first second zero = first zero
append_below bound (x ∷ xs) ys first second (suc i) = append_below bound xs ys (λ k. first (suc k)) second i

pub set_below : (bound : ℕ) (xs : List ℕ) (n x : ℕ) → x < bound → AreBelow bound xs → AreBelow bound (slice_set xs n x)
set_below bound [] n x small each i = each i
set_below bound (y ∷ ys) zero x small each zero = small
set_below bound (y ∷ ys) zero x small each (suc i) = each (suc i)
set_below bound (y ∷ ys) (suc n) x small each zero = each zero
set_below bound (y ∷ ys) (suc n) x small each (suc i) = set_below bound ys n x small (λ k. each (suc k)) i

pub copies_below : (bound count x : ℕ) → x < bound → AreBelow bound (replicate count x)
copies_below bound zero x small i = omega (arith, small)
copies_below bound (suc count) x small zero = small
copies_below bound (suc count) x small (suc i) = copies_below bound count x small i

pub head_below : (bound x : ℕ) (xs : List ℕ) → AreBelow bound (x ∷ xs) → x < bound
head_below bound x xs each = each zero

pub tail_below : (bound x : ℕ) (xs : List ℕ) → AreBelow bound (x ∷ xs) → AreBelow bound xs
tail_below bound x xs each i = each (suc i)

-- the bytes of a number are bytes
byte_small : (i n : ℕ) → byte_of i n < 256
byte_small zero n = omega arith
byte_small (suc i) n = remainder (n / 256 ^ suc i)
  where
    remainder : (m : ℕ) → m % 256 < 256
    remainder m = omega arith

high_first_bytes : (count n : ℕ) → AreBelow 256 (bytes_high_first count n)
high_first_bytes zero n i = omega arith
high_first_bytes (suc count) n zero = byte_small count n
high_first_bytes (suc count) n (suc i) = high_first_bytes count n i

pub number_bytes : (w : Width) (n : ℕ) → AreBelow 256 (to_be_bytes w n)
number_bytes w n = high_first_bytes _ n

pub bytes_of_bytes : (words : List ℕ) → AreBelow 256 (bytes_of words)
unfolding bytes_of
bytes_of_bytes [] = none_below 256 (omega arith)
bytes_of_bytes (word ∷ words) = append_below 256 (to_be_bytes w32 word) (bytes_of words) (number_bytes w32 word) (bytes_of_bytes words)

-- four bytes are a word, and eight a double word
word_below : (a b c d : ℕ) → a < 256 → b < 256 → c < 256 → d < 256 → from_be_bytes w32 (a ∷ b ∷ c ∷ d ∷ []) < 2 ^ 32
word_below a b c d one two three four = omega (arith, one, two, three, four)

double_below : (a b c d e f g h : ℕ) → a < 256 → b < 256 → c < 256 → d < 256 → e < 256 → f < 256 → g < 256 → h < 256 → from_be_bytes w64 (a ∷ b ∷ c ∷ d ∷ e ∷ f ∷ g ∷ h ∷ []) < 2 ^ 64
double_below a b c d e f g h one two three four five six seven eight = omega (arith, one, two, three, four, five, six, seven, eight)

-- what stands in a memory of bytes
pub memory_bytes : (memory : Memory) (address count : ℕ) → IsByteMemory memory → AreBelow 256 (bytes_at memory address count)
memory_bytes memory address zero bytes i = omega arith
memory_bytes memory address (suc count) bytes zero = bytes address
memory_bytes memory address (suc count) bytes (suc i) = memory_bytes memory (suc address) count bytes i

pub memory_word : (memory : Memory) (address : ℕ) → IsByteMemory memory → from_be_bytes w32 (bytes_at memory address 4) < 2 ^ 32
memory_word memory address bytes =
    word_below (byte_at memory address) (byte_at memory (suc address)) (byte_at memory (suc (suc address))) (byte_at memory (suc (suc (suc address))))
    (bytes _) (bytes _) (bytes _) (bytes _)

pub memory_double : (memory : Memory) (address : ℕ) → IsByteMemory memory → from_be_bytes w64 (bytes_at memory address 8) < 2 ^ 64
memory_double memory address bytes =
    double_below (byte_at memory address) (byte_at memory (suc address)) (byte_at memory (suc (suc address))) (byte_at memory (suc (suc (suc address))))
    (byte_at memory (suc (suc (suc (suc address))))) (byte_at memory (suc (suc (suc (suc (suc address))))))
    (byte_at memory (suc (suc (suc (suc (suc (suc address))))))) (byte_at memory (suc (suc (suc (suc (suc (suc (suc address))))))))
    (bytes _) (bytes _) (bytes _) (bytes _) (bytes _) (bytes _) (bytes _) (bytes _)

pub memory_words : (memory : Memory) (address count : ℕ) → IsByteMemory memory → AreBelow (2 ^ 32) (words_at memory address count)
unfolding words_at
memory_words memory address zero bytes i = omega arith
memory_words memory address (suc count) bytes zero = memory_word memory address bytes
memory_words memory address (suc count) bytes (suc i) = memory_words memory (address + 4) count bytes i

-- a byte that is put in keeps it one
insert_bytes : (memory : Memory) (address byte : ℕ) → byte < 256 → IsByteMemory memory → IsByteMemory (insert memory address byte)
insert_bytes memory address byte small bytes q = ⊎_elim here other (cases_eq q address)
  where
    here : q ≡ address → byte_at (insert memory address byte) q < 256
    here is = rw (get-insert_same memory address byte q is) small

    other : q ≢ address → byte_at (insert memory address byte) q < 256
    other differ = rw (get-insert_other memory address byte q differ) (bytes q)

pub written_bytes : (memory : Memory) (address : ℕ) (bytes : List ℕ) → AreBelow 256 bytes → IsByteMemory memory → IsByteMemory (with_bytes memory address bytes)
written_bytes memory address [] small has = has
written_bytes memory address (byte ∷ bytes) small has =
    written_bytes (insert memory address byte) (suc address) bytes (λ i. small (suc i)) (insert_bytes memory address byte (small zero) has)

-- nothing stands in an empty one
pub empty_bytes : IsByteMemory empty
empty_bytes address = rw (get-empty nat_cmp address) (omega arith)

-- logic on words
pub and_word : (a b : ℕ) → a < 2 ^ 32 → bit_and a b < 2 ^ 32
and_word a b small = let less = and_le_l a b in omega (arith, less, small)

pub or_word : (a b : ℕ) → a < 2 ^ 32 → b < 2 ^ 32 → bit_or a b < 2 ^ 32
or_word a b one two = or_lt 32 a b one two

pub xor_word : (a b : ℕ) → a < 2 ^ 32 → b < 2 ^ 32 → bit_xor a b < 2 ^ 32
xor_word a b one two = xor_lt 32 a b one two

pub not_word : (a : ℕ) → bit_not w32 a < 2 ^ 32
not_word a = omega arith

-- a product of words is a double word
pub product_double : (a b : ℕ) → a < 2 ^ 32 → b < 2 ^ 32 → a * b < 2 ^ 64
product_double a b one two =
    let less : a * b ≤ (2 ^ 32 - 1) * (2 ^ 32 - 1) = mul-le a b (2 ^ 32 - 1) (2 ^ 32 - 1) (omega (arith, one)) (omega (arith, two)) in omega (arith, less)

-- a part of a number is no more than it
pub part_below : (bound a b : ℕ) → a < bound → a / b < bound
part_below bound a b small = let less = div-le_self a b in omega (arith, less, small)

pub least_word : (a : ℕ) → min a (2 ^ 32 - 1) < 2 ^ 32
least_word a = let less = min-le_right a (2 ^ 32 - 1) in omega (arith, less)

-- a signed number that fits a word is one
pub saturated_word : (z : ℤ) → cast_unsigned w32 (saturate_signed w32 z) < 2 ^ 32
saturated_word (pos n) = let less = min-le_right n (2 ^ 31 - 1) in omega (arith, less)
saturated_word (negsuc n) = omega arith

negative_word : (n : ℕ) → cast_unsigned w32 (negsuc n) < 2 ^ 32
negative_word n = omega arith

pub shifted_word : (z : ℤ) (count : ℕ) → cast_unsigned w32 z < 2 ^ 32 → cast_unsigned w32 (int_shr z count) < 2 ^ 32
shifted_word (pos n) count small = part_below (2 ^ 32) n (2 ^ count) small
shifted_word (negsuc n) count small = negative_word (n / 2 ^ count)
