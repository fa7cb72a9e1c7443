-- Accesses to the areas that are looked at first.
use borrow.Rule.Slice.PartMut.{put_mid}
use Rattle.std.proofs.Common.{◌≡◌, ℕ, zero, suc, ◌+◌, ◌-◌, ◌%◌, ◌<◌, ◌≤◌, false, List, [], ◌∷◌, ◌++◌, length, take, drop, get_or, Option, Some, None, Ok, refl, sym, ap, ◌∙◌, inl, inr, subst, arith, length-drop, take-append-drop}
use Rattle.std.specs.Prelude.{slice_get}
use Rattle.std.specs.Int.{w32, byte_len, from_be_bytes, to_be_bytes}
use Rattle.std.proofs.lemmas.List.{drop-drop, length-map, length-take-le}
use Rattle.std.proofs.lemmas.Slice.{drop-put_mid, take-put_mid_below}
use Rattle.guest_bus.specs.Access.{fetched, loaded, store_fault, width_of}
use Rattle.guest_bus.specs.lemmas.AccessLemmas.{length-bytes_high_first}
use Rattle.guest_bus.specs.declared.bus.Size.{Size}
use Rattle.guest_bus.specs.declared.bus.Size.TheVariants.{Four}
use Rattle.guest_memory.specs.lemmas.FlatTerms.{StandsInArea, IsPartOf, StandsInEntry, memory_of_part, bytes_of_part}
use Rattle.guest_memory.specs.Flat.{Table, area_in, areas_of_tables, listed}
use Rattle.guest_memory.specs.Memories.{areas_size}
use Rattle.guest_memory.specs.Near.{AreNear, AreReady, IsNearOf, near_in, spot_of}
use Rattle.guest_memory.specs.lemmas.NearTerms.{AreSpots, AreWithin, FitsIn, IsSpotOf, IsNear, IsStored, area_there}
use Rattle.guest_memory.specs.declared.entry.Entry.{Entry}
use Rattle.guest_memory.specs.declared.entry.Place.{Place}
use Rattle.guest_memory.specs.declared.near.Found.{Found}
use Rattle.guest_memory.specs.declared.near.Near.{Near}
use Rattle.guest_memory.specs.declared.near.Spot.{Spot}
use Rattle.guest_memory.proofs.AccessLemmas.{accesses_found, aligned_fits, bytes_within, fetched_in, follow_at, loaded_in, store_free, value_written}
use Rattle.guest_memory.proofs.AreaLemmas.{listed_at, placed_at}
use Rattle.guest_memory.proofs.FlatLemmas.{drop-put_after, ends_within, take-put_in}
use Rattle.guest_memory.proofs.MemoriesLemmas.{part_at, part_of_part}

-- how many bytes a partition has among all
part_sized : (table : Table) (whole : List ℕ) → IsPartOf table whole → table.size ≡ areas_size (listed table.entries)
part_sized table whole part = omega (arith, length-take-le table.size (drop table.place whole) (omega (arith, length-drop table.place whole, part.within)), part.space.whole)

-- an area that is looked at first lies among all bytes
spot_within : (table : Table) (whole : List ℕ) (k : ℕ) → IsPartOf table whole → length whole < 4294967296 → FitsIn (spot_of table.place (slice_get table.entries k)) whole
spot_within table whole k part few = of (slice_get table.entries k) refl
  where
    sized : table.size ≡ areas_size (listed table.entries)
    sized = part_sized table whole part

    of : (found : Option Entry) → slice_get table.entries k ≡ found → FitsIn (spot_of table.place found) whole
    of None is = record { placed = record { start = refl; size = refl; ends = omega arith }; within = omega arith; few = omega arith }
    of (Some entry) is =
        let there = listed_at table.entries k entry is in
        let at = follow_at 0 table.entries k entry part.space.follow is in
        let ends = ends_within (listed table.entries) k (area_in entry) there in
        record {
          placed = let p = placed_at (listed table.entries) k (area_in entry) part.space.placed.each there in record { start = p.start; size = p.size; ends = p.ends };
          within = omega (arith, at, ends, sized, part.within);
          few = omega (arith, at, ends, sized, part.within, few);
        }

-- so do all three
pub near_within : (table : Table) (near : Near) (whole : List ℕ) → IsNearOf near table → IsPartOf table whole → length whole < 4294967296 → AreWithin near whole
near_within table near whole is part few =
    subst (λ (n : Near). AreWithin n whole) (sym is.1) (record { first = spot_within table whole 0 part few; second = spot_within table whole 1 part few; third = spot_within table whole is.0 part few })

-- what holds of areas whose bytes lie among all
pub spots_within : (near : Near) (whole : List ℕ) → AreWithin near whole → AreSpots near
spots_within near whole within = record {
  first = record { ends = within.first.placed.ends; few = within.first.few };
  second = record { ends = within.second.placed.ends; few = within.second.few };
  third = record { ends = within.third.placed.ends; few = within.third.few };
}

-- an aligned access that begins in an area that is looked at first ends among all bytes
spot_room : (spot : Spot) (whole : List ℕ) (found : Found) (address : ℕ) (size : Size) → FitsIn spot whole → IsSpotOf address found spot → address % byte_len (width_of size) ≡ 0 → found.byte + byte_len (width_of size) ≤ length whole
spot_room spot whole found address size fits here aligned =
    let ends = aligned_fits (area_there spot) address size fits.placed aligned here.from (omega (arith, here.under)) in
    omega (arith, ends, here.byte, fits.within)

-- so it does in one of the three
pub near_room : (near : Near) (whole : List ℕ) (found : Found) (address : ℕ) (size : Size) → AreWithin near whole → IsNear address found near → address % byte_len (width_of size) ≡ 0 → found.byte + byte_len (width_of size) ≤ length whole
near_room near whole found address size within (inl here) aligned = spot_room near.first whole found address size within.first here aligned
near_room near whole found address size within (inr (inl here)) aligned = spot_room near.second whole found address size within.second here aligned
near_room near whole found address size within (inr (inr here)) aligned = spot_room near.third whole found address size within.third here aligned

-- the byte that was found is one of the partition's
pub record Inside (table : Table) (address : ℕ) (found : Found) : Type 0 where
  place : Place
  byte : found.byte ≡ table.place + place.byte
  at : StandsInArea address 1 place table.entries
  only : place.read_only ≡ found.read_only

-- in an area that is looked at first
spot_inside : (table : Table) (address : ℕ) (found : Found) (k : ℕ) → IsSpotOf address found (spot_of table.place (slice_get table.entries k)) → Inside table address found
spot_inside table address found k here = of (slice_get table.entries k) refl here
  where
    of : (entry : Option Entry) → slice_get table.entries k ≡ entry → IsSpotOf address found (spot_of table.place entry) → Inside table address found
    of None is in_none = absurd (omega (arith, in_none.from, in_none.under))
    of (Some entry) is in_it =
        let place : Place = record { area = k; byte = entry.place + (address - entry.start); room = entry.start + entry.size - address; read_only = entry.read_only } in
        let stands : StandsInEntry address 1 place entry = record { from = in_it.from; fits = omega (arith, in_it.under); byte = omega (arith, in_it.from); room = omega (arith, in_it.under); read_only = refl } in
        record { place = place; byte = omega (arith, in_it.byte, in_it.from); at = rw is stands; only = sym in_it.only }

-- in one of the three
near_inside : (table : Table) (near : Near) (address : ℕ) (found : Found) → IsNearOf near table → IsNear address found near → Inside table address found
near_inside table near address found is here = at (subst (λ (n : Near). IsNear address found n) is.1 here)
  where
    at : IsNear address found (near_in table.entries table.place is.0) → Inside table address found
    at (inl first) = spot_inside table address found 0 first
    at (inr (inl second)) = spot_inside table address found 1 second
    at (inr (inr third)) = spot_inside table address found is.0 third

-- bytes of the partition are bytes among all
pub part_taken : (table : Table) (whole : List ℕ) (at byte n : ℕ) → byte ≡ table.place + at → at + n ≤ table.size → take n (drop at (bytes_of_part table whole)) ≡ take n (drop byte whole)
part_taken table whole at byte n is within =
    part_of_part table.size at n (drop table.place whole) within ∙ ap (take n) (drop-drop at table.place whole) ∙ ap (λ (k : ℕ). take n (drop k whole)) (sym is)

-- an access of this many bytes ends in the partition
pub access_within : (table : Table) (whole : List ℕ) (place : Place) (address count : ℕ) → IsPartOf table whole → StandsInArea address count place table.entries → place.byte + count ≤ table.size
access_within table whole place address count part stands =
    omega (arith, bytes_within table.entries (bytes_of_part table whole) place address count part.space stands, length-take-le table.size (drop table.place whole) (omega (arith, length-drop table.place whole, part.within)))

-- the word at an address
inside_fetched : (table : Table) (whole : List ℕ) (found : Found) (address word : ℕ) → IsPartOf table whole → Inside table address found → address % 4 ≡ 0
    → word ≡ from_be_bytes w32 (take 4 (drop found.byte whole)) → Ok word ≡ fetched (listed table.entries) (memory_of_part table whole) address
inside_fetched table whole found address word part inside aligned value =
    let access = accesses_found table.entries inside.place address Four part.space.placed inside.at aligned in
    fetched_in table.entries (bytes_of_part table whole) inside.place address word part.space access
    (value ∙ ap (from_be_bytes w32) (sym (part_taken table whole inside.place.byte found.byte 4 inside.byte (access_within table whole inside.place address 4 part access.stands))))

-- the word that a fetch answers
pub near_fetched : (table : Table) (near : Near) (whole : List ℕ) (found : Found) (address word : ℕ) → IsNearOf near table → IsPartOf table whole → IsNear address found near → address % 4 ≡ 0
    → word ≡ from_be_bytes w32 (take 4 (drop found.byte whole)) → Ok word ≡ fetched (listed table.entries) (memory_of_part table whole) address
near_fetched table near whole found address word is part here aligned value =
    inside_fetched table whole found address word part (near_inside table near address found is here) aligned value

-- the value that a load answers
pub near_loaded : (table : Table) (near : Near) (whole : List ℕ) (found : Found) (address value : ℕ) (size : Size) → IsNearOf near table → IsPartOf table whole → IsNear address found near → address % byte_len (width_of size) ≡ 0
    → value ≡ from_be_bytes (width_of size) (take (byte_len (width_of size)) (drop found.byte whole)) → Ok value ≡ loaded (listed table.entries) (memory_of_part table whole) address size
near_loaded table near whole found address value size is part here aligned as_it_is =
    let inside = near_inside table near address found is here in
    let access = accesses_found table.entries inside.place address size part.space.placed inside.at aligned in
    loaded_in table.entries (bytes_of_part table whole) inside.place address value size part.space access
    (as_it_is ∙ ap (from_be_bytes (width_of size)) (sym (part_taken table whole inside.place.byte found.byte (byte_len (width_of size)) inside.byte (access_within table whole inside.place address (byte_len (width_of size)) part access.stands))))

-- a write among the bytes of a partition is one in its part
pub part_put : (table : Table) (whole new : List ℕ) (at byte n : ℕ) → IsPartOf table whole → length new ≡ n → byte ≡ table.place + at → at + n ≤ table.size → bytes_of_part table (put_mid byte n whole new) ≡ put_mid at n (bytes_of_part table whole) new
part_put table whole new at byte n part counted is within =
    ap (λ (k : ℕ). take table.size (drop table.place (put_mid k n whole new))) is
    ∙ ap (take table.size) (drop-put_after table.place at n whole new (omega (arith, part.within)))
    ∙ take-put_in table.size at n (drop table.place whole) new counted within (omega (arith, length-drop table.place whole, part.within))

-- and nothing around the part changes
pub around_put : (p m a n : ℕ) (xs new : List ℕ) → p ≤ a → a + n ≤ p + m → p + m ≤ length xs → length new ≡ n → put_mid a n xs new ≡ put_mid p m xs (take m (drop p (put_mid a n xs new)))
around_put p m a n xs new from fits within counted =
    sym (ap (λ (front : List ℕ). front ++ (take m (drop p (put_mid a n xs new)) ++ drop m (drop p xs))) (sym (take-put_mid_below a n xs new p from (omega arith)))
    ∙ ap (λ (rest : List ℕ). take p (put_mid a n xs new) ++ (take m (drop p (put_mid a n xs new)) ++ rest))
    (drop-drop m p xs ∙ sym (drop-put_mid a n xs new (p + m) (omega arith) (omega arith) counted) ∙ sym (drop-drop m p (put_mid a n xs new)))
    ∙ ap (λ (rest : List ℕ). take p (put_mid a n xs new) ++ rest) (take-append-drop m (drop p (put_mid a n xs new)))
    ∙ take-append-drop p (put_mid a n xs new))

-- what a store leaves
pub near_stored : (table : Table) (near : Near) (whole new : List ℕ) (found : Found) (address value : ℕ) (size : Size) → IsNearOf near table → IsPartOf table whole → IsNear address found near → address % byte_len (width_of size) ≡ 0 → found.read_only ≡ false
    → new ≡ put_mid found.byte (byte_len (width_of size)) whole (to_be_bytes (width_of size) value) → IsStored table whole new address value size
unfolding store_fault
near_stored table near whole new found address value size is part here aligned free put =
    let inside = near_inside table near address found is here in
    let read = accesses_found table.entries inside.place address size part.space.placed inside.at aligned in
    let access = store_free table.entries inside.place address size part.space.placed read (inside.only ∙ free) in
    let n = byte_len (width_of size) in
    let bytes = to_be_bytes (width_of size) value in
    let counted : length bytes ≡ n = length-bytes_high_first n value in
    let within = access_within table whole inside.place address n part access.stands in
    record {
      free = access.free;
      memory = value_written table.entries (bytes_of_part table whole) (bytes_of_part table new) inside.place address value size part.space access
          (ap (bytes_of_part table) put ∙ part_put table whole bytes inside.place.byte found.byte n part counted inside.byte within);
      others = put
          ∙ around_put table.place table.size found.byte n whole bytes (omega (arith, inside.byte)) (omega (arith, inside.byte, within)) part.within counted
          ∙ ap (λ (l : List ℕ). put_mid table.place table.size whole (bytes_of_part table l)) (sym put);
    }

-- a table that stands at a place of a list
pub record There (tables : List Table) (p : ℕ) : Type 0 where
  pub table : Table
  pub is : table ≡ get_or tables p table

-- there is one
pub there : (tables : List Table) (p : ℕ) → p < length tables → There tables p
there [] p below = absurd (omega (arith, below))
there (x ∷ xs) zero below = record { table = x; is = refl }
there (x ∷ xs) (suc p) below = let later = there xs p (omega (arith, below)) in record { table = later.table; is = later.is }

-- and no other
one_there : (tables : List Table) (p : ℕ) (a b : Table) → p < length tables → a ≡ get_or tables p a → b ≡ get_or tables p b → a ≡ b
one_there [] p a b below here other = absurd (omega (arith, below))
one_there (x ∷ xs) zero a b below here other = here ∙ sym other
one_there (x ∷ xs) (suc p) a b below here other = one_there xs p a b (omega (arith, below)) here other

-- the areas of a partition that is selected
pub near_selected : (tables : List Table) (p : ℕ) (table : Table) (near : Near) → p < length tables → table ≡ get_or tables p table → IsNearOf near table → AreNear near tables p
near_selected tables p table near below here is = λ other other_is. subst (λ (t : Table). IsNearOf near t) (one_there tables p table other below here other_is) is

-- as many tables as partitions
pub parts_counted : (tables : List Table) (p : ℕ) → p < length (areas_of_tables tables) → p < length tables
parts_counted tables p below = omega (arith, below, length-map tables (λ (t : Table). listed t.entries))

-- where a partition is selected, its areas that are looked at first lie among all bytes
pub ready_within : (tables : List Table) (bytes : List ℕ) (p : ℕ) (near : Near) → AreReady tables bytes p near → AreWithin near bytes
ready_within tables bytes p near ready =
    let own = there tables p (parts_counted tables p ready.kept.memories.selected) in
    let part = part_at tables bytes p p own.table ready.kept ready.kept.memories.selected own.is in
    near_within own.table near bytes (ready.near own.table own.is) part.is ready.kept.few
