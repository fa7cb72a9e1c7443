-- Lemmas on accesses: what they answer and leave in a memory of bytes, and where they are refused.
use borrow.Rule.Slice.PartMut.{put_mid}
use Rattle.std.proofs.Common.{◌≡◌, ℕ, zero, suc, ◌+◌, ◌*◌, ◌≤◌, List, [], ◌∷◌, length, take, drop, Option, Some, None, Ok, Err, refl, ap, arith, length-append}
use Rattle.std.specs.Int.{w32, byte_len, bytes_high_first, from_be_bytes, to_be_bytes}
use Rattle.guest_bus.specs.Access.{access_fault, after_store, fetched, loaded, memory_unless_refused, store_fault, unless_refused, width_of}
use Rattle.guest_bus.specs.Memory.{Area, Memory, is_readable}
use Rattle.guest_bus.specs.lemmas.MemoryFacts.{memory_of_bytes}
use Rattle.guest_bus.specs.lemmas.MemoryLemmas.{bytes_at-memory_of, with_bytes-put_mid}
use Rattle.guest_bus.specs.Words.{bytes_of}
use Rattle.guest_bus.specs.declared.bus.BusFault.{BusFault}
use Rattle.guest_bus.specs.declared.bus.Size.{Size}

-- this many bytes of a number
pub length-bytes_high_first : (count value : ℕ) → length (bytes_high_first count value) ≡ count
length-bytes_high_first zero value = refl
length-bytes_high_first (suc count) value = ap suc (length-bytes_high_first count value)

-- four times as many bytes as words
pub length-bytes_of : (words : List ℕ) → length (bytes_of words) ≡ 4 * length words
unfolding bytes_of
length-bytes_of [] = refl
length-bytes_of (word ∷ words) =
    omega (arith, length-append (to_be_bytes w32 word) (bytes_of words), length-bytes_high_first 4 word, length-bytes_of words)

-- an access that nothing refuses answers its value
unless_refused-free : {X : Type 0} (fault : Option BusFault) (found value : X) → fault ≡ None → found ≡ value → unless_refused fault found ≡ Ok value
unless_refused-free fault found value none is = rw (none, is)

-- it leaves its new memory
memory_unless_refused-free : (fault : Option BusFault) (old new found : Memory) → fault ≡ None → new ≡ found → memory_unless_refused fault old new ≡ found
memory_unless_refused-free fault old new found none is = rw (none, is)

-- an access that nothing refuses, at its place in the bytes of a memory
module _ (areas : List Area) (start : ℕ) (bytes : List ℕ) (address at : ℕ) (lies : address ≡ start + at) where
  pub fetched_at : access_fault (is_readable areas) address 4 ≡ None → at + 4 ≤ length bytes → fetched areas (memory_of_bytes start bytes) address ≡ Ok (from_be_bytes w32 (take 4 (drop at bytes)))
  unfolding fetched
  fetched_at none fits = unless_refused-free _ _ _ none (ap (from_be_bytes w32) (bytes_at-memory_of start bytes at address 4 lies fits))

  pub loaded_at : (size : Size) → access_fault (is_readable areas) address (byte_len (width_of size)) ≡ None → at + byte_len (width_of size) ≤ length bytes → loaded areas (memory_of_bytes start bytes) address size ≡ Ok (from_be_bytes (width_of size) (take (byte_len (width_of size)) (drop at bytes)))
  unfolding loaded
  loaded_at size none fits = unless_refused-free _ _ _ none (ap (from_be_bytes (width_of size)) (bytes_at-memory_of start bytes at address (byte_len (width_of size)) lies fits))

  pub stored_at : (size : Size) (value : ℕ) → store_fault areas address size ≡ None → at + byte_len (width_of size) ≤ length bytes → after_store areas (memory_of_bytes start bytes) address size value ≡ memory_of_bytes start (put_mid at (byte_len (width_of size)) bytes (to_be_bytes (width_of size) value))
  unfolding after_store
  stored_at size value none fits =
      memory_unless_refused-free _ _ _ _ none (with_bytes-put_mid start (to_be_bytes (width_of size) value) bytes at address (byte_len (width_of size)) lies (length-bytes_high_first (byte_len (width_of size)) value) fits)

-- an access that is refused
module _ (areas : List Area) (memory : Memory) (address : ℕ) (fault : BusFault) where
  pub fetched_refused : access_fault (is_readable areas) address 4 ≡ Some fault → fetched areas memory address ≡ Err fault
  unfolding fetched
  fetched_refused refused = rw refused

  pub loaded_refused : (size : Size) → access_fault (is_readable areas) address (byte_len (width_of size)) ≡ Some fault → loaded areas memory address size ≡ Err fault
  unfolding loaded
  loaded_refused size refused = rw refused

  pub stored_refused : (size : Size) (value : ℕ) → store_fault areas address size ≡ Some fault → after_store areas memory address size value ≡ memory
  unfolding after_store
  stored_refused size value refused = rw refused
