-- Which words an access reaches, by how many words they stand after the first one.
use Rattle.std.proofs.Common.{◌≡◌, ◌⊎◌, ℕ, ◌+◌, ◌-◌, ◌*◌, ◌/◌, ◌%◌, ◌^◌, ◌<◌, ◌≤◌, inl, inr, ⊎_elim, arith}
use Rattle.std.proofs.lemmas.Bool.{cases_lt}
use Rattle.std.specs.Int.{byte_len}
use Rattle.guest_bus.specs.Access.{width_of}
use Rattle.guest_bus.specs.declared.bus.Size.{Size}
use Rattle.guest_bus.specs.declared.bus.Size.TheVariants.{One, Two, Four, Eight}

-- this many words after the first one stands the word of an address. The last word of all stands before the one at address 0
unfoldable pub word_after : ℕ → ℕ → ℕ
word_after first address = (address + (2 ^ 32 - first)) % 2 ^ 32 / 4

-- a word is one of this many from a place on. The first of all stands after the last
abbrev pub IsReached : ℕ → ℕ → ℕ → Type 0
IsReached place count k = ((place ≤ k) × (k < place + count)) ⊎ (k + 2 ^ 30 < place + count)

-- this many words an access of a size writes
abbrev pub words_written : Size → ℕ
words_written One = 1
words_written Two = 1
words_written Four = 1
words_written Eight = 2

-- a word is apart from bytes that are written, or one of the words that are reached
pub reached_or_apart : (first address count size k : ℕ) → first % 4 ≡ 0 → first ≤ 2 ^ 32 → address < 2 ^ 32 → address % 4 + size ≤ 4 * count
    → (first + 4 * k + 4 ≤ address) ⊎ ((address + size ≤ first + 4 * k) ⊎ IsReached (word_after first address) count k)
unfolding word_after
reached_or_apart first address count size k whole below small fits = ⊎_elim under (λ before. inl before) (cases_lt address (first + 4 * k + 4))
  where
    hit : address < first + 4 * k + 4 → first + 4 * k < address + size → IsReached ((address + (2 ^ 32 - first)) % 2 ^ 32 / 4) count k
    hit over to = ⊎_elim (λ lower. inr (omega (arith, lower, over, to, whole, below, small, fits))) (λ higher. inl (omega (arith, higher, over, whole, below, small), omega (arith, higher, over, to, whole, below, small, fits))) (cases_lt address first)

    under : address < first + 4 * k + 4 → (first + 4 * k + 4 ≤ address) ⊎ ((address + size ≤ first + 4 * k) ⊎ IsReached ((address + (2 ^ 32 - first)) % 2 ^ 32 / 4) count k)
    under over = inr (⊎_elim (λ to. inr (hit over to)) (λ following. inl following) (cases_lt (first + 4 * k) (address + size)))

-- an access that is aligned writes this many words
pub words_fit : (size : Size) (address : ℕ) → address % byte_len (width_of size) ≡ 0 → address % 4 + byte_len (width_of size) ≤ 4 * words_written size
words_fit One address aligned = omega arith
words_fit Two address aligned = omega (arith, aligned)
words_fit Four address aligned = omega (arith, aligned)
words_fit Eight address aligned = omega (arith, aligned)
