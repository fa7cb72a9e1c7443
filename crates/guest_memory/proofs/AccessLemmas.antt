-- Accesses to a memory that is kept by areas: where they are refused, what they answer, and what they leave.
use borrow.Rule.Slice.PartMut.{put_mid}
use Rattle.std.proofs.Common.{◌≡◌, ◌≢◌, ℕ, zero, suc, ◌+◌, ◌-◌, ◌%◌, ◌<◌, ◌≤◌, Bool, true, false, not, cond, ◌==◌, List, [], ◌∷◌, length, take, drop, Option, Some, None, Ok, Err, refl, sym, ap, ◌∙◌, arith}
use Rattle.std.specs.Prelude.{IsSomeAnd, slice_get}
use Rattle.std.specs.FinMap.{get}
use Rattle.std.specs.Int.{w32, byte_len, from_be_bytes, to_be_bytes}
use Rattle.std.proofs.lemmas.Bool.Decides.{nat_tests}
use Rattle.guest_bus.specs.Access.{Stores, access_fault, after_store, fetched, loaded, memory_unless_refused, store_fault, unless_refused, width_of}
use Rattle.guest_bus.specs.lemmas.AccessLemmas.{length-bytes_high_first}
use Rattle.guest_bus.specs.Memory.{Area, Memory, bytes_at, is_readable, is_writable, all_from, with_bytes}
use Rattle.guest_bus.specs.lemmas.MemoryLemmas.{all_from-each, all_from-true}
use Rattle.guest_bus.specs.declared.bus.BusFault.{BusFault}
use Rattle.guest_bus.specs.declared.bus.BusFault.TheVariants.{Outside, Unaligned}
use Rattle.guest_bus.specs.declared.bus.Size.{Size}
use Rattle.guest_bus.specs.declared.bus.Size.TheVariants.{One, Two, Four, Eight}
use Rattle.guest_memory.specs.lemmas.FlatTerms.{Accesses, StandsInArea, IsSpace, StandsInEntry}
use Rattle.guest_memory.specs.Flat.{Follow, area_in, listed, memory_in}
use Rattle.guest_memory.specs.Memories.{ArePlaced, IsPlaced, areas_size}
use Rattle.guest_memory.specs.declared.entry.Entry.{Entry}
use Rattle.guest_memory.specs.declared.entry.Place.{Place}
use Rattle.guest_memory.proofs.AreaLemmas.{covers_at, listed_at, placed_at, readable_at, writable_at, writable_readable}
use Rattle.guest_memory.proofs.FlatLemmas.{bytes_at-memory_in, ends_within, get-memory_in, memory_in-put}

-- what follows from the area that has an address follows from its place
pub by_entry : {P : Type 0} (entries : List Entry) (place : Place) (q n : ℕ) → StandsInArea q n place entries → ((entry : Entry) → slice_get entries place.area ≡ Some entry → StandsInEntry q n place entry → P) → P
by_entry {P} entries place q n stands follows = at (slice_get entries place.area) refl stands
  where
    at : (found : Option Entry) → slice_get entries place.area ≡ found → IsSomeAnd found (StandsInEntry q n place) → P
    at None is here = absurd here
    at (Some entry) is here = follows entry is here

-- an address stands in the area of a number
pub stands_there : (entries : List Entry) (k q : ℕ) (entry : Entry) (place : Place) → slice_get entries k ≡ Some entry → place.area ≡ k → StandsInEntry q 1 place entry → StandsInArea q 1 place entries
stands_there entries k q entry place is same stands = let e : slice_get entries place.area ≡ Some entry = ap (slice_get entries) same ∙ is in rw e stands

-- an area's place is how many bytes the areas before it have
pub follow_at : (place : ℕ) (entries : List Entry) (k : ℕ) (entry : Entry) → Follow place entries → slice_get entries k ≡ Some entry → entry.place ≡ place + areas_size (take k (listed entries))
follow_at place [] k entry follow is = absurd cc
follow_at place (x ∷ xs) zero entry follow is =
    let e : entry ≡ x = cc in
    let same : place ≡ place + 0 = omega arith in
    ap (λ (y : Entry). y.place) e ∙ follow.0 ∙ same
follow_at place (x ∷ xs) (suc k) entry follow is =
    let same : place + x.size + areas_size (take k (listed xs)) ≡ place + (x.size + areas_size (take k (listed xs))) = omega arith in
    follow_at (place + x.size) xs k entry follow.1 is ∙ same

-- the place of bytes in an area
lies_at : (entries : List Entry) (place : Place) (entry : Entry) (q n : ℕ) → Follow 0 entries → slice_get entries place.area ≡ Some entry → StandsInEntry q n place entry → place.byte + entry.start ≡ areas_size (take place.area (listed entries)) + q
lies_at entries place entry q n follow is here = let e = follow_at 0 entries place.area entry follow is in omega (arith, here.byte, e)

-- this many bytes that stand in one area
pub bytes_stand : (entries : List Entry) (bytes : List ℕ) (place : Place) (q n : ℕ) → IsSpace entries bytes → StandsInArea q n place entries → bytes_at (memory_in (listed entries) bytes) q n ≡ take n (drop place.byte bytes)
bytes_stand entries bytes place q n space stands = by_entry entries place q n stands (λ entry is here.
    bytes_at-memory_in (listed entries) place.area q n place.byte (area_in entry) bytes space.placed.apart (listed_at entries place.area entry is) space.whole here.from here.fits (lies_at entries place entry q n space.follow is here))

-- they end within all bytes
pub bytes_within : (entries : List Entry) (bytes : List ℕ) (place : Place) (q n : ℕ) → IsSpace entries bytes → StandsInArea q n place entries → place.byte + n ≤ length bytes
bytes_within entries bytes place q n space stands = by_entry entries place q n stands (λ entry is here.
    omega (arith, lies_at entries place entry q n space.follow is here, ends_within (listed entries) place.area (area_in entry) (listed_at entries place.area entry is), space.whole, here.fits))

-- what is written there
pub bytes_written : (entries : List Entry) (bytes new : List ℕ) (place : Place) (q n : ℕ) → IsSpace entries bytes → StandsInArea q n place entries → length new ≡ n
    → memory_in (listed entries) (put_mid place.byte n bytes new) ≡ with_bytes (memory_in (listed entries) bytes) q new
bytes_written entries bytes new place q n space stands counted = by_entry entries place q n stands (λ entry is here.
    memory_in-put (listed entries) place.area q n place.byte (area_in entry) bytes new space.placed.apart (listed_at entries place.area entry is) space.whole here.from here.fits (lies_at entries place entry q n space.follow is here) counted)

-- the byte at an address
pub byte_stands : (entries : List Entry) (bytes : List ℕ) (place : Place) (q byte : ℕ) → IsSpace entries bytes → StandsInArea q 1 place entries → slice_get bytes place.byte ≡ Some byte → Some byte ≡ get (memory_in (listed entries) bytes) q
byte_stands entries bytes place q byte space stands is_there = by_entry entries place q 1 stands (λ entry is here.
    let at : areas_size (take place.area (listed entries)) + (q - entry.start) ≡ place.byte = omega (arith, lies_at entries place entry q 1 space.follow is here, here.from) in
    sym is_there ∙ ap (slice_get bytes) (sym at)
    ∙ sym (get-memory_in (listed entries) place.area q (area_in entry) bytes space.placed.apart (listed_at entries place.area entry is) space.whole here.from (omega (arith, here.fits))))

-- an aligned access that begins in an area ends in it
pub aligned_fits : (area : Area) (address : ℕ) (size : Size) → IsPlaced area → address % byte_len (width_of size) ≡ 0 → area.start ≤ address → address + 1 ≤ area.start + area.size → address + byte_len (width_of size) ≤ area.start + area.size
aligned_fits area address One placed aligned from fits = fits
aligned_fits area address Two placed aligned from fits = omega (arith, placed.start, placed.size)
aligned_fits area address Four placed aligned from fits = omega (arith, placed.start, placed.size)
aligned_fits area address Eight placed aligned from fits = omega (arith, placed.start, placed.size)

-- a range in one area may be read
pub range_readable : (areas : List Area) (k q n : ℕ) (area : Area) → slice_get areas k ≡ Some area → area.start ≤ q → q + n ≤ area.start + area.size → all_from (is_readable areas) q n ≡ true
range_readable areas k q n area is from fits =
    all_from-true (is_readable areas) q n (λ p over under. readable_at areas k p area is (covers_at area p (omega arith) (omega arith)))

-- an access that is aligned and allowed
free_access : (allowed : ℕ → Bool) (address count : ℕ) → address % count ≡ 0 → all_from allowed address count ≡ true → access_fault allowed address count ≡ None
free_access allowed address count aligned all = let is : (address % count == 0) ≡ true = grind (arith, nat_tests) in rw (is, all)

-- one that is aligned, and not allowed at its first byte
pub outside_access : (allowed : ℕ → Bool) (address count : ℕ) → address % count ≡ 0 → 0 < count → allowed address ≡ false → access_fault allowed address count ≡ Some Outside
outside_access allowed address zero aligned some none = absurd (omega arith)
outside_access allowed address (suc count) aligned some none = let is : (address % suc count == 0) ≡ true = grind (arith, nat_tests) in rw (is, none)

-- one that is not aligned
pub unaligned_access : (allowed : ℕ → Bool) (address count : ℕ) → address % count ≢ 0 → access_fault allowed address count ≡ Some Unaligned
unaligned_access allowed address count aligned = let is : (address % count == 0) ≡ false = grind (arith, nat_tests) in rw is

-- an access has at least one byte
pub some_bytes : (size : Size) → 0 < byte_len (width_of size)
some_bytes One = omega arith
some_bytes Two = omega arith
some_bytes Four = omega arith
some_bytes Eight = omega arith

-- an aligned access begins at its first byte, and nothing refuses it
pub accesses_found : (entries : List Entry) (place : Place) (address : ℕ) (size : Size) → ArePlaced (listed entries) → StandsInArea address 1 place entries → address % byte_len (width_of size) ≡ 0
    → Accesses (is_readable (listed entries)) entries place address (byte_len (width_of size))
accesses_found entries place address size placed stands aligned = by_entry entries place address 1 stands (λ entry is here.
    let there = listed_at entries place.area entry is in
    let fits = aligned_fits (area_in entry) address size (placed_at (listed entries) place.area (area_in entry) placed.each there) aligned here.from here.fits in
    let all : StandsInEntry address (byte_len (width_of size)) place entry = record { from = here.from; fits = fits; byte = here.byte; room = here.room; read_only = here.read_only } in
    record {
      free = free_access (is_readable (listed entries)) address (byte_len (width_of size)) aligned (range_readable (listed entries) place.area address (byte_len (width_of size)) (area_in entry) there here.from fits);
      stands = rw is all;
    })

-- an access that nothing refuses answers its value
answers : {X : Type 0} (fault : Option BusFault) (found value : X) → fault ≡ None → found ≡ value → unless_refused fault found ≡ Ok value
answers fault found value none is = rw (none, is)

-- the word that a fetch answers
pub fetched_in : (entries : List Entry) (bytes : List ℕ) (place : Place) (address word : ℕ) → IsSpace entries bytes → Accesses (is_readable (listed entries)) entries place address 4
    → word ≡ from_be_bytes w32 (take 4 (drop place.byte bytes)) → Ok word ≡ fetched (listed entries) (memory_in (listed entries) bytes) address
unfolding fetched
fetched_in entries bytes place address word space access is =
    ap Ok is ∙ sym (answers _ _ _ access.free (ap (from_be_bytes w32) (bytes_stand entries bytes place address 4 space access.stands)))

-- the value that a load answers
pub loaded_in : (entries : List Entry) (bytes : List ℕ) (place : Place) (address value : ℕ) (size : Size) → IsSpace entries bytes → Accesses (is_readable (listed entries)) entries place address (byte_len (width_of size))
    → value ≡ from_be_bytes (width_of size) (take (byte_len (width_of size)) (drop place.byte bytes)) → Ok value ≡ loaded (listed entries) (memory_in (listed entries) bytes) address size
unfolding loaded
loaded_in entries bytes place address value size space access is =
    ap Ok is ∙ sym (answers _ _ _ access.free (ap (from_be_bytes (width_of size)) (bytes_stand entries bytes place address (byte_len (width_of size)) space access.stands)))

-- an access that nothing refuses is aligned
aligned_where_free : (allowed : ℕ → Bool) (address count : ℕ) → access_fault allowed address count ≡ None → address % count ≡ 0
aligned_where_free allowed address count free = at (address % count == 0) refl free
  where
    at : (b : Bool) → (address % count == 0) ≡ b → cond b (cond (all_from allowed address count) None (Some Outside)) (Some Unaligned) ≡ None → address % count ≡ 0
    at true is e = grind (arith, nat_tests)
    at false is e = absurd cc

-- a store to an area that may only be read is outside
pub store_refused : (entries : List Entry) (place : Place) (address : ℕ) (size : Size) → ArePlaced (listed entries) → Accesses (is_readable (listed entries)) entries place address (byte_len (width_of size)) → place.read_only ≡ true
    → access_fault (is_writable (listed entries)) address (byte_len (width_of size)) ≡ Some Outside
store_refused entries place address size placed access only = by_entry entries place address (byte_len (width_of size)) access.stands (λ entry is here.
    let there = listed_at entries place.area entry is in
    let has = covers_at (area_in entry) address here.from (omega (arith, here.fits, some_bytes size)) in
    let none = writable_at (listed entries) place.area address (area_in entry) placed.apart there has ∙ ap not (sym here.read_only ∙ only) in
    outside_access (is_writable (listed entries)) address (byte_len (width_of size)) (aligned_where_free (is_readable (listed entries)) address (byte_len (width_of size)) access.free) (some_bytes size) none)

-- to another area nothing refuses it
pub store_free : (entries : List Entry) (place : Place) (address : ℕ) (size : Size) → ArePlaced (listed entries) → Accesses (is_readable (listed entries)) entries place address (byte_len (width_of size)) → place.read_only ≡ false
    → Accesses (is_writable (listed entries)) entries place address (byte_len (width_of size))
store_free entries place address size placed access free = by_entry entries place address (byte_len (width_of size)) access.stands (λ entry is here.
    let there = listed_at entries place.area entry is in
    record {
      free = free_access (is_writable (listed entries)) address (byte_len (width_of size)) (aligned_where_free (is_readable (listed entries)) address (byte_len (width_of size)) access.free)
          (all_from-true (is_writable (listed entries)) address (byte_len (width_of size)) (λ q from under.
          writable_at (listed entries) place.area q (area_in entry) placed.apart there (covers_at (area_in entry) q (omega (arith, here.from)) (omega (arith, here.fits))) ∙ ap not (sym here.read_only ∙ free)));
      stands = access.stands;
    })

-- a range that may be written may be read
pub range_readable_where_writable : (areas : List Area) (address count : ℕ) → all_from (is_writable areas) address count ≡ true → all_from (is_readable areas) address count ≡ true
range_readable_where_writable areas address count all =
    all_from-true (is_readable areas) address count (λ q from under. at q (is_readable areas q) refl (all_from-each (is_writable areas) address count q all from under))
  where
    at : (q : ℕ) (b : Bool) → is_readable areas q ≡ b → is_writable areas q ≡ true → is_readable areas q ≡ true
    at q true is writable = is
    at q false is writable = let none = writable_readable areas q is in absurd cc

-- what refuses a load refuses a store
pub refused_too : (areas : List Area) (address count : ℕ) (fault : BusFault) → access_fault (is_readable areas) address count ≡ Some fault → access_fault (is_writable areas) address count ≡ Some fault
refused_too areas address count fault refused = at (address % count == 0) (all_from (is_readable areas) address count) (all_from (is_writable areas) address count) (range_readable_where_writable areas address count) refused
  where
    at : (b r w : Bool) → (w ≡ true → r ≡ true) → cond b (cond r None (Some Outside)) (Some Unaligned) ≡ Some fault → cond b (cond w None (Some Outside)) (Some Unaligned) ≡ Some fault
    at true true w so e = absurd cc
    at true false true so e = let not_both = so refl in absurd cc
    at true false false so e = e
    at false r w so e = e

-- what a store that nothing refuses leaves
pub stored_in : (areas : List Area) (memory new : Memory) (address value : ℕ) (size : Size) → access_fault (is_writable areas) address (byte_len (width_of size)) ≡ None
    → new ≡ with_bytes memory address (to_be_bytes (width_of size) value) → new ≡ after_store areas memory address size value
unfolding after_store store_fault
stored_in areas memory new address value size free is = is ∙ sym (left (access_fault (is_writable areas) address (byte_len (width_of size))) memory (with_bytes memory address (to_be_bytes (width_of size) value)) free)
  where
    left : (fault : Option BusFault) (old new : Memory) → fault ≡ None → memory_unless_refused fault old new ≡ new
    left fault old new none = rw none

-- such a store answers so
pub stores_free : (areas : List Area) (address : ℕ) (size : Size) → access_fault (is_writable areas) address (byte_len (width_of size)) ≡ None → Stores {T = Unit {0}} (Ok tt) (store_fault areas address size)
unfolding store_fault
stores_free areas address size free = rw free tt

-- a store that is refused answers why
pub stores_refused : (areas : List Area) (address : ℕ) (size : Size) (fault : BusFault) → access_fault (is_writable areas) address (byte_len (width_of size)) ≡ Some fault → Stores {T = Unit {0}} (Err fault) (store_fault areas address size)
unfolding store_fault
stores_refused areas address size fault refused = rw refused refl

-- and changes nothing
pub unstored : (areas : List Area) (memory : Memory) (address value : ℕ) (size : Size) (fault : BusFault) → access_fault (is_writable areas) address (byte_len (width_of size)) ≡ Some fault → memory ≡ after_store areas memory address size value
unfolding after_store store_fault
unstored areas memory address value size fault refused = rw refused

-- what a store to a place leaves
pub value_written : (entries : List Entry) (bytes new : List ℕ) (place : Place) (address value : ℕ) (size : Size) → IsSpace entries bytes → Accesses (is_writable (listed entries)) entries place address (byte_len (width_of size))
    → new ≡ put_mid place.byte (byte_len (width_of size)) bytes (to_be_bytes (width_of size) value) → memory_in (listed entries) new ≡ after_store (listed entries) (memory_in (listed entries) bytes) address size value
value_written entries bytes new place address value size space access put =
    stored_in (listed entries) (memory_in (listed entries) bytes) (memory_in (listed entries) new) address value size access.free
    (ap (memory_in (listed entries)) put
    ∙ bytes_written entries bytes (to_be_bytes (width_of size) value) place address (byte_len (width_of size)) space access.stands (length-bytes_high_first (byte_len (width_of size)) value))
