-- What the one area of a vector allows, and its memory.
use Rattle.std.proofs.Common.{◌≡◌, ℕ, length, get_or, Fits, w8, ◌+◌, ◌<◌, ◌≤◌, List, Bool, true, false, zero, suc, refl, ◌∙◌, arith}
use Rattle.std.specs.Prelude.{◌&&◌, ◌||◌, Some, None, ◌%◌, ◌==◌, if◌then◌else◌}
use Rattle.std.specs.Int.{byte_len}
use Rattle.guest_bus.specs.Access.{access_fault, store_fault, width_of}
use Rattle.guest_bus.specs.Memory.{all_from, holds_address, is_readable, is_writable}
use Rattle.guest_bus.specs.lemmas.MemoryFacts.{memory_of_bytes}
use Rattle.guest_bus.specs.lemmas.MemoryLemmas.{all_readable, readable_within, writable-readable}
use Rattle.guest_bus.specs.Whole.{IsMemoryOf}
use Rattle.guest_bus.specs.lemmas.WholeLemmas.{memory_of-IsMemoryOf}
use Rattle.guest_bus.specs.declared.bus.BusFault.{BusFault}
use Rattle.guest_bus.specs.declared.bus.BusFault.TheVariants.{Outside, Unaligned}
use Rattle.guest_bus.specs.declared.bus.Size.{Size}
use Rattle.guest_bus.specs.declared.bus.Size.TheVariants.{One, Two, Four, Eight}
use Rattle.vector_suite.specs.lemmas.Area.{LiesAt, vector_areas}
use Rattle.vector_suite.specs.declared.memory.TheConstants.{AREA_BYTES, AREA_START}

-- a range in the area may be read
pub readable : (read_only : Bool) (address count : ℕ) → AREA_START ≤ address → address + count ≤ AREA_START + AREA_BYTES → all_from (is_readable (vector_areas read_only)) address count ≡ true
unfolding vector_areas
readable read_only address count after before = all_readable (record { start = AREA_START; size = AREA_BYTES; read_only = read_only }) address count after before

-- a range that may be read lies in it
pub within : (read_only : Bool) (address count : ℕ) → 0 < count → all_from (is_readable (vector_areas read_only)) address count ≡ true → (AREA_START ≤ address) × (address + count ≤ AREA_START + AREA_BYTES)
unfolding vector_areas
within read_only address count some allowed = readable_within (record { start = AREA_START; size = AREA_BYTES; read_only = read_only }) address count some allowed

-- the bytes are its memory
pub whole : (read_only : Bool) (bytes : List ℕ) → length bytes ≡ AREA_BYTES → ((i : ℕ) → Fits w8 (get_or bytes i 0)) → IsMemoryOf (vector_areas read_only) (memory_of_bytes AREA_START bytes)
unfolding vector_areas
whole read_only bytes sized small = memory_of-IsMemoryOf (record { start = AREA_START; size = AREA_BYTES; read_only = read_only }) bytes sized (λ i. (small i).fits)

-- what may be written may be read, where it is not read-only
pub writable : (address count : ℕ) → all_from (is_writable (vector_areas false)) address count ≡ all_from (is_readable (vector_areas false)) address count
unfolding vector_areas
writable address count = writable-readable (record { start = AREA_START; size = AREA_BYTES; read_only = false }) address count refl

-- a store is then refused as a load is
pub stores_as_loads : (address : ℕ) (size : Size) → store_fault (vector_areas false) address size ≡ access_fault (is_readable (vector_areas false)) address (byte_len (width_of size))
unfolding store_fault
stores_as_loads address size = rw (writable address (byte_len (width_of size)))

-- nothing may be written where it is read-only
none_writable : (held : Bool) → (held && false) || false ≡ false
none_writable true = refl
none_writable false = refl

-- so no byte
pub no_byte : (address : ℕ) → is_writable (vector_areas true) address ≡ false
unfolding vector_areas
no_byte address = none_writable (holds_address address (record { start = AREA_START; size = AREA_BYTES; read_only = true }))

-- an access that may not be made at its first byte
no_access : (allowed : ℕ → Bool) (address count : ℕ) → allowed address ≡ false → 0 < count → all_from allowed address count ≡ false
no_access allowed address zero none some = absurd (omega arith)
no_access allowed address (suc count) none some = rw none refl

-- an access of some bytes
some_bytes : (size : Size) → 0 < byte_len (width_of size)
some_bytes One = omega arith
some_bytes Two = omega arith
some_bytes Four = omega arith
some_bytes Eight = omega arith

-- a store that is refused only since the area may only be read
pub refused : (allowed : ℕ → Bool) (address count : ℕ) → all_from allowed address count ≡ false → (address % count == 0) ≡ true → access_fault allowed address count ≡ Some Outside
refused allowed address count none aligned = rw (aligned, none)

-- an access that nothing refuses is at a multiple of its size
aligned_free : (aligned passes : Bool) → (if aligned then (if passes then None else Some Outside) else Some Unaligned) ≡ None → aligned ≡ true
aligned_free true passes is = refl
aligned_free false passes is = absurd (no_fault is)
  where
    no_fault : Some Unaligned ≡ None → ⊥
    no_fault e = cc

pub not_written : (address at : ℕ) (size : Size) → LiesAt at address (byte_len (width_of size)) true → store_fault (vector_areas true) address size ≡ Some Outside
unfolding store_fault
not_written address at size lies =
    refused (is_writable (vector_areas true)) address (byte_len (width_of size)) (no_access (is_writable (vector_areas true)) address (byte_len (width_of size)) (no_byte address) (some_bytes size))
    (aligned_free _ (all_from (is_readable (vector_areas true)) address (byte_len (width_of size))) lies.free)

-- a store to a read-only area is refused where a load is
pub not_written_either : (address : ℕ) (size : Size) (fault : BusFault) → access_fault (is_readable (vector_areas true)) address (byte_len (width_of size)) ≡ Some fault → store_fault (vector_areas true) address size ≡ Some fault
unfolding store_fault
not_written_either address size fault is = at (address % byte_len (width_of size) == 0) (all_from (is_readable (vector_areas true)) address (byte_len (width_of size))) is
  where
    none : all_from (is_writable (vector_areas true)) address (byte_len (width_of size)) ≡ false
    none = no_access (is_writable (vector_areas true)) address (byte_len (width_of size)) (no_byte address) (some_bytes size)

    at : (aligned passes : Bool) → (if aligned then (if passes then None else Some Outside) else Some Unaligned) ≡ Some fault → (if aligned then (if all_from (is_writable (vector_areas true)) address (byte_len (width_of size)) then None else Some Outside) else Some Unaligned) ≡ Some fault
    at true true e = absurd (no_fault e)
      where
        no_fault : None ≡ Some fault → ⊥
        no_fault e = cc
    at true false e = rw none e
    at false passes e = e

-- so for an area that is known to be read-only, or not to be
pub refused_read_only : (read_only : Bool) (address at : ℕ) (size : Size) → read_only ≡ true → LiesAt at address (byte_len (width_of size)) read_only → store_fault (vector_areas read_only) address size ≡ Some Outside
refused_read_only true address at size is lies = not_written address at size lies
refused_read_only false address at size is lies = absurd (no is)
  where
    no : false ≡ true → ⊥
    no e = cc

pub free_writable : (read_only : Bool) (address at : ℕ) (size : Size) → read_only ≡ false → LiesAt at address (byte_len (width_of size)) read_only → store_fault (vector_areas read_only) address size ≡ None
free_writable false address at size is lies = stores_as_loads address size ∙ lies.free
free_writable true address at size is lies = absurd (no is)
  where
    no : true ≡ false → ⊥
    no e = cc

pub refused_either : (read_only : Bool) (address : ℕ) (size : Size) (fault : BusFault) → access_fault (is_readable (vector_areas read_only)) address (byte_len (width_of size)) ≡ Some fault → store_fault (vector_areas read_only) address size ≡ Some fault
refused_either true address size fault is = not_written_either address size fault is
refused_either false address size fault is = stores_as_loads address size ∙ is
