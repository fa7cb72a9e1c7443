-- Loads and stores: where they are refused, and a store of what stands there.
use Rattle.std.specs.Prelude.{◌≡◌, ℕ, ◌+◌, ◌%◌, ◌<◌, ◌≤◌, ◌==◌, Bool, true, false, not, if◌then◌else◌, List, Option, Some, None, Result, Ok, Err, is_ok, is_err}
use Rattle.std.proofs.Common.{refl, sym, ◌∙◌, ap}
use Rattle.std.specs.Int.{byte_len, from_be_bytes, to_be_bytes, w64}
use Rattle.std.proofs.lemmas.Nat.{be_bytes_8}
use Rattle.guest_bus.specs.Access.{Stores, after_store, loaded, memory_unless_refused, store_fault, unless_refused, width_of}
use Rattle.guest_bus.specs.Memory.{Area, Memory, bytes_at, is_readable, is_writable, with_bytes}
use Rattle.guest_bus.specs.lemmas.MemoryLemmas.{all_from-each, length-bytes_at}
use Rattle.guest_bus.specs.Whole.{HoldsByte, IsMemoryOf}
use Rattle.guest_bus.specs.lemmas.WholeLemmas.{bytes_at-below, with_bytes-same}
use Rattle.guest_bus.specs.declared.bus.BusFault.{BusFault}
use Rattle.guest_bus.specs.declared.bus.BusFault.TheVariants.{Outside}
use Rattle.guest_bus.specs.declared.bus.Size.{Size}
use Rattle.guest_bus.specs.declared.bus.Size.TheVariants.{Eight}
use Rattle.guest_bus.specs.Words.{allows}

-- a value is answered only where all bytes are allowed
answered_free : (passes : Bool) (value found : ℕ) → unless_refused (if passes then None else Some Outside) value ≡ Ok found → (passes ≡ true) × (value ≡ found)
answered_free true value found is = (refl, cc)
answered_free false value found is = absurd (no_value is)
  where
    no_value : Err Outside ≡ Ok found → ⊥
    no_value e = cc

-- a fault only where one is not
refused_one : (passes : Bool) (value : ℕ) (fault : BusFault) → unless_refused (if passes then None else Some Outside) value ≡ Err fault → passes ≡ false
refused_one false value fault is = refl
refused_one true value fault is = absurd (no_fault is)
  where
    no_fault : Ok value ≡ Err fault → ⊥
    no_fault e = cc

-- a value is answered exactly where all are
answers_where : (passes : Bool) (value : ℕ) → passes ≡ not (is_err (unless_refused (if passes then None else Some Outside) value))
answers_where true value = refl
answers_where false value = refl

-- a store is made exactly where all are allowed
made_where : (passes : Bool) (result : Result (Unit {0}) BusFault) → Stores result (if passes then None else Some Outside) → is_ok result ≡ passes
made_where true (Ok made) stores = refl
made_where true (Err fault) stores = absurd stores
made_where false (Ok made) stores = absurd stores
made_where false (Err fault) stores = refl

module _ (areas : List Area) (address : ℕ) (size : Size) (aligned : (address % byte_len (width_of size) == 0) ≡ true) where
  -- what a load answers, where it answers a value
  pub loaded_value : (memory : Memory) (found : ℕ) → loaded areas memory address size ≡ Ok found → (allows (is_readable areas) address (byte_len (width_of size)) ≡ true) × (from_be_bytes (width_of size) (bytes_at memory address (byte_len (width_of size))) ≡ found)
  unfolding loaded allows
  loaded_value memory found is = answered_free _ _ found (rw aligned at is)

  -- a load that is refused is so for a byte that may not be read
  pub load_refused : (memory : Memory) (fault : BusFault) → loaded areas memory address size ≡ Err fault → allows (is_readable areas) address (byte_len (width_of size)) ≡ false
  unfolding loaded allows
  load_refused memory fault is = refused_one _ (from_be_bytes (width_of size) (bytes_at memory address (byte_len (width_of size)))) fault (rw aligned at is)

  -- a load is refused where a byte may not be read, and nowhere else
  pub loaded_where : (memory : Memory) (result : Result ℕ BusFault) → result ≡ loaded areas memory address size → allows (is_readable areas) address (byte_len (width_of size)) ≡ not (is_err result)
  unfolding loaded allows
  loaded_where memory result is =
      let found = rw aligned at is in
      answers_where _ (from_be_bytes (width_of size) (bytes_at memory address (byte_len (width_of size)))) ∙ ap (λ r. not (is_err r)) (sym found)

  -- a store is made where all bytes may be written, and nowhere else
  pub stored_where : (result : Result (Unit {0}) BusFault) → Stores result (store_fault areas address size) → is_ok result ≡ allows (is_writable areas) address (byte_len (width_of size))
  unfolding store_fault allows
  stored_where result stores = made_where _ result (rw aligned at stores)

  -- so none is refused where all may be written
  pub not_refused : (fault : BusFault) → allows (is_writable areas) address (byte_len (width_of size)) ≡ true → Stores {T = Unit {0}} (Err fault) (store_fault areas address size) → ⊥
  not_refused fault passes stores = let here = stored_where (Err fault) stores in cc

  -- what it leaves there
  pub stored_value : (memory : Memory) (value : ℕ) → allows (is_writable areas) address (byte_len (width_of size)) ≡ true → after_store areas memory address size value ≡ with_bytes memory address (to_be_bytes (width_of size) value)
  unfolding after_store store_fault allows
  stored_value memory value passes = rw (aligned, passes)

-- a store of what stands there changes nothing
module _ (areas : List Area) (memory : Memory) (whole : IsMemoryOf areas memory) (address : ℕ) where
  -- bytes that may be read stand there
  pub bytes_stand : (count : ℕ) → allows (is_readable areas) address count ≡ true → (q : ℕ) → address ≤ q → q < address + count → HoldsByte memory q
  unfolding allows
  bytes_stand count passes q over under = whole.held q (all_from-each (is_readable areas) address count q passes over under)

  written_again : (fault : Option BusFault) (count : ℕ) (bytes : List ℕ) → bytes ≡ bytes_at memory address count → allows (is_readable areas) address count ≡ true → memory_unless_refused fault memory (with_bytes memory address bytes) ≡ memory
  written_again None count bytes is passes = ap (with_bytes memory address) is ∙ with_bytes-same memory address count (bytes_stand count passes)
  written_again (Some fault) count bytes is passes = refl

  pub stored_again : (value : ℕ) → allows (is_readable areas) address 8 ≡ true → from_be_bytes w64 (bytes_at memory address 8) ≡ value → after_store areas memory address Eight value ≡ memory
  unfolding after_store
  stored_again value passes is =
      written_again (store_fault areas address Eight) 8 (to_be_bytes w64 value) (be_bytes_8 (bytes_at memory address 8) value (length-bytes_at memory address 8) (bytes_at-below memory address 8 (bytes_stand 8 passes)) (sym is)) passes
