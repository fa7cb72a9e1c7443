-- Sixteen words in one of the areas that are looked at first.
use borrow.Rule.Slice.PartMut.{put_mid}
use Rattle.std.proofs.Common.{◌≡◌, ℕ, zero, suc, ◌+◌, ◌-◌, ◌*◌, ◌/◌, ◌%◌, ◌^◌, ◌<◌, ◌≤◌, true, false, not, Bool, List, [], ◌∷◌, ◌++◌, length, take, drop, get_or, Option, Some, None, refl, sym, ap, ◌∙◌, inl, inr, subst, arith, append_assoc}
use Rattle.std.specs.Bool.{OnTrue}
use Rattle.std.specs.Prelude.{IfSome, slice_get, slice_index}
use Rattle.std.specs.Int.{w32, w64, from_be_bytes, to_be_bytes}
use Rattle.std.proofs.lemmas.List.{get_or-drop, get_or-take, take_more}
use Rattle.std.proofs.lemmas.Slice.{take-put_mid}
use Rattle.guest_bus.specs.lemmas.AccessLemmas.{length-bytes_high_first, length-bytes_of}
use Rattle.guest_bus.specs.Memory.{Area, Memory, bytes_at, is_readable, is_writable, with_bytes}
use Rattle.guest_bus.specs.lemmas.MemoryLemmas.{all_from-true}
use Rattle.guest_bus.specs.Words.{MayStand, allows, bytes_of, words_at}
use Rattle.guest_memory.specs.Flat.{AllBytes, AreFlat, Table, area_in, areas_of_tables, listed, memories_in, memory_in}
use Rattle.guest_memory.specs.lemmas.FlatTerms.{StandsInArea, IsPartOf, StandsInEntry, memory_of_part, bytes_of_part}
use Rattle.guest_memory.specs.Memories.{areas_at, map_at, others_of}
use Rattle.guest_memory.specs.lemmas.NearTerms.{AreRead, AreWithin, AreWritten, FitsIn, HasPart, IsNearPart}
use Rattle.guest_memory.specs.Near.{IsNearOf, near_in, spot_of}
use Rattle.guest_memory.specs.declared.entry.Entry.{Entry}
use Rattle.guest_memory.specs.declared.entry.Place.{Place}
use Rattle.guest_memory.specs.declared.near.Found.{Found}
use Rattle.guest_memory.specs.declared.near.Near.{Near}
use Rattle.guest_memory.specs.declared.near.Spot.{Spot}
use Rattle.guest_memory.proofs.AccessLemmas.{by_entry, bytes_stand, bytes_written, range_readable}
use Rattle.guest_memory.proofs.AreaLemmas.{covers_at, listed_at, placed_at, writable_at}
use Rattle.guest_memory.proofs.MemoriesLemmas.{IsPart, map_at-with_map, memories_changed, others-with_map, part_at}
use Rattle.guest_memory.proofs.NearLemmas.{access_within, around_put, part_put, part_taken}

-- one word more
bytes_of-append : (words : List ℕ) (word : ℕ) → bytes_of (words ++ word ∷ []) ≡ bytes_of words ++ to_be_bytes w32 word
unfolding bytes_of
bytes_of-append [] word = refl
bytes_of-append (first ∷ words) word = ap (λ (rest : List ℕ). to_be_bytes w32 first ++ rest) (bytes_of-append words word) ∙ sym (append_assoc (to_be_bytes w32 first) (bytes_of words) (to_be_bytes w32 word))

pub word_put : (words bytes new : List ℕ) (i word : ℕ) → i < length words → slice_index words i ≡ word → 4 * i ≤ length bytes → take (4 * i) bytes ≡ bytes_of (take i words) → new ≡ put_mid (4 * i) 4 bytes (to_be_bytes w32 word)
    → take (4 * (i + 1)) new ≡ bytes_of (take (i + 1) words)
word_put words bytes new i word below is fits front put =
    ap (take (4 * (i + 1))) put
    ∙ take-put_mid (4 * i) 4 bytes (to_be_bytes w32 word) (4 * (i + 1)) (omega (arith, length-bytes_high_first 4 word)) fits
    ∙ ap (λ (xs : List ℕ). xs ++ to_be_bytes w32 word) front
    ∙ sym (bytes_of-append (take i words) word)
    ∙ sym (ap bytes_of (take_more words i 0 below ∙ ap (λ (w : ℕ). take i words ++ w ∷ []) is))

-- a byte of a part, by its place among all
part_byte : (bytes : List ℕ) (at count i place : ℕ) → i < count → place ≡ at + i → slice_index (take count (drop at bytes)) i ≡ slice_index bytes place
part_byte bytes at count i place below is = get_or-take count (drop at bytes) i 0 below ∙ get_or-drop at bytes i 0 ∙ ap (slice_index bytes) (sym is)

-- the words of a double word
module _ (bytes : List ℕ) (at : ℕ) (small : AllBytes bytes) where
  eight : (i : ℕ) → i < 8 → slice_index (take 8 (drop at bytes)) i ≡ slice_index bytes (at + i)
  eight i below = part_byte bytes at 8 i (at + i) below refl

  four : (i : ℕ) → i < 4 → slice_index (take 4 (drop at bytes)) i ≡ slice_index bytes (at + i)
  four i below = part_byte bytes at 4 i (at + i) below refl

  four_on : (i : ℕ) → i < 4 → slice_index (take 4 (drop (at + 4) bytes)) i ≡ slice_index bytes (at + (4 + i))
  four_on i below = part_byte bytes (at + 4) 4 i (at + (4 + i)) below (omega arith)

  high : (a b c d e f g h : ℕ) → e < 256 → f < 256 → g < 256 → h < 256 → from_be_bytes w64 (a ∷ b ∷ c ∷ d ∷ e ∷ f ∷ g ∷ h ∷ []) / 2 ^ 32 ≡ from_be_bytes w32 (a ∷ b ∷ c ∷ d ∷ [])
  high a b c d e f g h below_e below_f below_g below_h = omega arith

  low : (a b c d e f g h : ℕ) → e < 256 → f < 256 → g < 256 → h < 256 → from_be_bytes w64 (a ∷ b ∷ c ∷ d ∷ e ∷ f ∷ g ∷ h ∷ []) % 2 ^ 32 ≡ from_be_bytes w32 (e ∷ f ∷ g ∷ h ∷ [])
  low a b c d e f g h below_e below_f below_g below_h = omega arith

  pub first_word : from_be_bytes w64 (take 8 (drop at bytes)) / 2 ^ 32 ≡ from_be_bytes w32 (take 4 (drop at bytes))
  first_word =
      rw (eight 0 (omega arith), eight 1 (omega arith), eight 2 (omega arith), eight 3 (omega arith), eight 4 (omega arith), eight 5 (omega arith), eight 6 (omega arith), eight 7 (omega arith), four 0 (omega arith), four 1 (omega arith), four 2 (omega arith), four 3 (omega arith))
      (high (slice_index bytes (at + 0)) (slice_index bytes (at + 1)) (slice_index bytes (at + 2)) (slice_index bytes (at + 3)) (slice_index bytes (at + 4)) (slice_index bytes (at + 5)) (slice_index bytes (at + 6)) (slice_index bytes (at + 7)) (small (at + 4)) (small (at + 5)) (small (at + 6)) (small (at + 7)))

  pub second_word : from_be_bytes w64 (take 8 (drop at bytes)) % 2 ^ 32 ≡ from_be_bytes w32 (take 4 (drop (at + 4) bytes))
  second_word =
      rw (eight 0 (omega arith), eight 1 (omega arith), eight 2 (omega arith), eight 3 (omega arith), eight 4 (omega arith), eight 5 (omega arith), eight 6 (omega arith), eight 7 (omega arith), four_on 0 (omega arith), four_on 1 (omega arith), four_on 2 (omega arith), four_on 3 (omega arith))
      (low (slice_index bytes (at + 0)) (slice_index bytes (at + 1)) (slice_index bytes (at + 2)) (slice_index bytes (at + 3)) (slice_index bytes (at + 4)) (slice_index bytes (at + 5)) (slice_index bytes (at + 6)) (slice_index bytes (at + 7)) (small (at + 4)) (small (at + 5)) (small (at + 6)) (small (at + 7)))

-- words by their bytes, one by one
pub words_listed : (memory : Memory) (words : List ℕ) (address count : ℕ) → length words ≡ count
    → ((k : ℕ) → k < count → slice_index words k ≡ from_be_bytes w32 (bytes_at memory (address + 4 * k) 4)) → words ≡ words_at memory address count
unfolding words_at
words_listed memory [] address zero counted each = refl
words_listed memory [] address (suc count) counted each = absurd (omega (arith, counted))
words_listed memory (word ∷ words) address zero counted each = absurd (omega (arith, counted))
words_listed memory (word ∷ words) address (suc count) counted each =
    let here : address + 4 * 0 ≡ address = omega arith in
    let first : word ≡ from_be_bytes w32 (bytes_at memory address 4) = each 0 (omega arith) ∙ ap (λ (a : ℕ). from_be_bytes w32 (bytes_at memory a 4)) here in
    ap (λ (w : ℕ). w ∷ words) first
    ∙ ap (λ (rest : List ℕ). from_be_bytes w32 (bytes_at memory address 4) ∷ rest) (words_listed memory words (address + 4) count (omega (arith, counted)) later)
  where
    later : (k : ℕ) → k < count → slice_index words k ≡ from_be_bytes w32 (bytes_at memory (address + 4 + 4 * k) 4)
    later k below =
        let on : address + 4 * suc k ≡ address + 4 + 4 * k = omega arith in
        each (suc k) (omega arith) ∙ ap (λ (a : ℕ). from_be_bytes w32 (bytes_at memory a 4)) on

-- where they end among all bytes
spot_part : (spot : Spot) (whole : List ℕ) (found : Found) (address : ℕ) → FitsIn spot whole → HasPart address found spot → found.byte + 64 ≤ length whole
spot_part spot whole found address fits part = omega (arith, part.within, part.here.byte, fits.within)

pub near_part : (near : Near) (whole : List ℕ) (found : Found) (address : ℕ) → AreWithin near whole → IsNearPart address found near → found.byte + 64 ≤ length whole
near_part near whole found address within (inl part) = spot_part near.first whole found address within.first part
near_part near whole found address within (inr (inl part)) = spot_part near.second whole found address within.second part
near_part near whole found address within (inr (inr part)) = spot_part near.third whole found address within.third part

-- they are the partition's
record Inside (table : Table) (address : ℕ) (found : Found) : Type 0 where
  place : Place
  byte : found.byte ≡ table.place + place.byte
  at : StandsInArea address 64 place table.entries
  only : place.read_only ≡ found.read_only

spot_inside : (table : Table) (address : ℕ) (found : Found) (k : ℕ) → HasPart address found (spot_of table.place (slice_get table.entries k)) → Inside table address found
spot_inside table address found k part = of (slice_get table.entries k) refl part
  where
    of : (entry : Option Entry) → slice_get table.entries k ≡ entry → HasPart address found (spot_of table.place entry) → Inside table address found
    of None is in_none = absurd (omega (arith, in_none.within))
    of (Some entry) is in_it =
        let place : Place = record { area = k; byte = entry.place + (address - entry.start); room = entry.start + entry.size - address; read_only = entry.read_only } in
        let stands : StandsInEntry address 64 place entry = record { from = in_it.here.from; fits = in_it.within; byte = omega (arith, in_it.here.from); room = omega (arith, in_it.within); read_only = refl } in
        record { place = place; byte = omega (arith, in_it.here.byte, in_it.here.from); at = rw is stands; only = sym in_it.here.only }

near_inside : (table : Table) (near : Near) (address : ℕ) (found : Found) → IsNearOf near table → IsNearPart address found near → Inside table address found
near_inside table near address found is part = at (subst (λ (n : Near). IsNearPart address found n) is.1 part)
  where
    at : IsNearPart address found (near_in table.entries table.place is.0) → Inside table address found
    at (inl first) = spot_inside table address found 0 first
    at (inr (inl second)) = spot_inside table address found 1 second
    at (inr (inr third)) = spot_inside table address found is.0 third

-- they may be read
may_be_read : (table : Table) (whole : List ℕ) (address : ℕ) (place : Place) → IsPartOf table whole → StandsInArea address 64 place table.entries → address % 8 ≡ 0 → MayStand (is_readable (listed table.entries)) address
unfolding allows
may_be_read table whole address place part at aligned = by_entry table.entries place address 64 at (λ entry is here.
    let there = listed_at table.entries place.area entry is in
    let placed = placed_at (listed table.entries) place.area (area_in entry) part.space.placed.each there in
    record {
      aligned = aligned;
      inside = omega (arith, here.fits, placed.ends);
      bytes = range_readable (listed table.entries) place.area address 64 (area_in entry) there here.from here.fits;
    })

-- they may be written, where their area may be
may_be_written : (table : Table) (whole : List ℕ) (address : ℕ) (place : Place) → IsPartOf table whole → StandsInArea address 64 place table.entries → address % 8 ≡ 0 → place.read_only ≡ false → MayStand (is_writable (listed table.entries)) address
unfolding allows
may_be_written table whole address place part at aligned free = by_entry table.entries place address 64 at (λ entry is here.
    let there = listed_at table.entries place.area entry is in
    let placed = placed_at (listed table.entries) place.area (area_in entry) part.space.placed.each there in
    record {
      aligned = aligned;
      inside = omega (arith, here.fits, placed.ends);
      bytes = all_from-true (is_writable (listed table.entries)) address 64 (λ q from under.
          writable_at (listed table.entries) place.area q (area_in entry) part.space.placed.apart there (covers_at (area_in entry) q (omega (arith, here.from)) (omega (arith, here.fits))) ∙ ap not (sym here.read_only ∙ free));
    })

-- what a write of them leaves
pub near_written : (table : Table) (near : Near) (whole new words : List ℕ) (found : Found) (address : ℕ) → IsNearOf near table → IsPartOf table whole → IsNearPart address found near → address % 8 ≡ 0 → found.read_only ≡ false
    → length words ≡ 16 → new ≡ put_mid found.byte 64 whole (bytes_of words) → AreWritten table whole new address words
near_written table near whole new words found address is part near_it aligned free sixteen put =
    let inside = near_inside table near address found is near_it in
    let counted : length (bytes_of words) ≡ 64 = omega (arith, length-bytes_of words, sixteen) in
    let within = access_within table whole inside.place address 64 part inside.at in
    record {
      free = may_be_written table whole address inside.place part inside.at aligned (inside.only ∙ free);
      memory = ap (memory_in (listed table.entries)) (ap (bytes_of_part table) put ∙ part_put table whole (bytes_of words) inside.place.byte found.byte 64 part counted inside.byte within)
          ∙ bytes_written table.entries (bytes_of_part table whole) (bytes_of words) inside.place address 64 part.space inside.at counted;
      others = put
          ∙ around_put table.place table.size found.byte 64 whole (bytes_of words) (omega (arith, inside.byte)) (omega (arith, inside.byte, within)) part.within counted
          ∙ ap (λ (l : List ℕ). put_mid table.place table.size whole (bytes_of_part table l)) (sym put);
    }

-- what is read of them
pub near_read : (table : Table) (near : Near) (whole words : List ℕ) (found : Found) (address : ℕ) → IsNearOf near table → IsPartOf table whole → IsNearPart address found near → address % 8 ≡ 0
    → length words ≡ 16 → ((k : ℕ) → k < 16 → slice_index words k ≡ from_be_bytes w32 (take 4 (drop (found.byte + 4 * k) whole))) → AreRead table whole address words
near_read table near whole words found address is part near_it aligned sixteen each = record {
  free = may_be_read table whole address inside.place part inside.at aligned;
  read = words_listed (memory_of_part table whole) words address 16 sixteen word;
}
  where
    inside : Inside table address found
    inside = near_inside table near address found is near_it

    within : inside.place.byte + 64 ≤ table.size
    within = access_within table whole inside.place address 64 part inside.at

    word : (k : ℕ) → k < 16 → slice_index words k ≡ from_be_bytes w32 (bytes_at (memory_of_part table whole) (address + 4 * k) 4)
    word k below =
        let place : Place = record { area = inside.place.area; byte = inside.place.byte + 4 * k; room = inside.place.room - 4 * k; read_only = inside.place.read_only } in
        let at : StandsInArea (address + 4 * k) 4 place table.entries = by_entry table.entries inside.place address 64 inside.at (λ entry is here.
        rw is (record { from = omega (arith, here.from); fits = omega (arith, here.fits); byte = omega (arith, here.byte); room = omega (arith, here.room, here.fits); read_only = here.read_only })) in
        each k below
        ∙ ap (from_be_bytes w32) (sym (part_taken table whole (inside.place.byte + 4 * k) (found.byte + 4 * k) 4 (omega (arith, inside.byte)) (omega (arith, within)))
        ∙ sym (bytes_stand table.entries (bytes_of_part table whole) place (address + 4 * k) 4 part.space at))

-- what follows where a test holds
pub on_true : (b : Bool) (P Q : Type 0) → (P → Q) → OnTrue b P → OnTrue b Q
on_true true P Q follows holds = follows holds
on_true false P Q follows holds = tt

-- what a write of them to the selected partition leaves, where it was done
pub record PutOn (was : Bool) (tables : List Table) (bytes new : List ℕ) (p address : ℕ) (words : List ℕ) : Type 0 where
  pub free : OnTrue was (MayStand (is_writable (areas_at p (memories_in tables bytes p))) address)
  pub done : OnTrue was (map_at p (memories_in tables new p) ≡ with_bytes (map_at p (memories_in tables bytes p)) address (bytes_of words))
  pub not_done : was ≡ false → map_at p (memories_in tables new p) ≡ map_at p (memories_in tables bytes p)
  pub others : others_of (memories_in tables new p) ≡ others_of (memories_in tables bytes p)

pub put_on : (done : Bool) (tables : List Table) (bytes new : List ℕ) (p address : ℕ) (words : List ℕ) (table : Table) → AreFlat tables bytes p → p < length (areas_of_tables tables) → table ≡ get_or tables p table → length new ≡ length bytes
    → OnTrue done (AreWritten table bytes new address words) → (done ≡ false → new ≡ bytes) → PutOn done tables bytes new p address words
put_on true tables bytes new p address words table kept below is same written not_written =
    let part = part_at tables bytes p p table kept below is in
    let changed = memories_changed tables bytes new p p table (memory_of_part table new) kept below is written.others same refl in
    record {
      free = subst (λ (areas : List Area). MayStand (is_writable areas) address) (sym part.areas) written.free;
      done = ap (map_at p) changed ∙ map_at-with_map (memories_in tables bytes p) p (memory_of_part table new) kept.memories below
          ∙ written.memory ∙ ap (λ (m : Memory). with_bytes m address (bytes_of words)) (sym part.map);
      not_done = λ no. absurd cc;
      others = ap others_of changed ∙ others-with_map (memories_in tables bytes p) (memory_of_part table new);
    }
put_on false tables bytes new p address words table kept below is same written not_written =
    let unchanged : new ≡ bytes = not_written refl in
    record {
      free = tt;
      done = tt;
      not_done = λ no. ap (λ (b : List ℕ). map_at p (memories_in tables b p)) unchanged;
      others = ap (λ (b : List ℕ). others_of (memories_in tables b p)) unchanged;
    }

-- what is read of them in the selected partition
pub record ReadOn (found : Option (List ℕ)) (tables : List Table) (bytes : List ℕ) (p address : ℕ) : Type 0 where
  pub free : IfSome found (λ words. MayStand (is_readable (areas_at p (memories_in tables bytes p))) address)
  pub words : IfSome found (λ words. words ≡ words_at (map_at p (memories_in tables bytes p)) address 16)

pub read_on : (found : Option (List ℕ)) (tables : List Table) (bytes : List ℕ) (p address : ℕ) (table : Table) → IsPart tables bytes p p table → IfSome found (λ words. AreRead table bytes address words) → ReadOn found tables bytes p address
read_on None tables bytes p address table part read = record { free = tt; words = tt }
read_on (Some words) tables bytes p address table part read = record {
  free = subst (λ (areas : List Area). MayStand (is_readable areas) address) (sym part.areas) read.free;
  words = read.read ∙ ap (λ (m : Memory). words_at m address 16) (sym part.map);
}
