-- Words of a memory that lie one after the other, by their places, and as bytes.
use Rattle.std.specs.Prelude.{◌≡◌, ℕ, zero, suc, ◌+◌, ◌*◌, ◌%◌, ◌^◌, ◌≤◌, Bool, true, List, [], ◌∷◌, ◌++◌}
use Rattle.std.specs.Int.{w32, from_be_bytes, to_be_bytes}
use Rattle.guest_bus.specs.Memory.{Memory, all_from, bytes_at}
use Rattle.guest_bus.specs.declared.words.Words.{Words}

-- the address of the word at a place
unfoldable pub word_address : ℕ → ℕ → ℕ
word_address origin place = (origin + 4 * place) % 2 ^ 32

-- each is a whole word, and their places are in order
pub record AreWords (words : Words) : Type 0 where
  pub aligned : words.origin % 4 ≡ 0
  pub order : words.begin ≤ words.end
  pub few : words.end ≤ 2 ^ 32

-- words as bytes, the highest byte of each first
unfoldable pub bytes_of : List ℕ → List ℕ
bytes_of [] = []
bytes_of (word ∷ words) = to_be_bytes w32 word ++ bytes_of words

-- this many words from an address on
unfoldable pub words_at : Memory → ℕ → ℕ → List ℕ
words_at memory address zero = []
words_at memory address (suc count) = from_be_bytes w32 (bytes_at memory address 4) ∷ words_at memory (address + 4) count

-- each of this many bytes from an address on is allowed
unfoldable pub allows : (ℕ → Bool) → ℕ → ℕ → Bool
allows allowed address count = all_from allowed address count

-- sixteen words may stand at the address: it is a multiple of 8, and each of the 64 bytes is allowed, none of them past the last address
pub record MayStand (allowed : ℕ → Bool) (address : ℕ) : Type 0 where
  pub aligned : address % 8 ≡ 0
  pub inside : address + 64 ≤ 2 ^ 32
  pub bytes : allows allowed address 64 ≡ true
