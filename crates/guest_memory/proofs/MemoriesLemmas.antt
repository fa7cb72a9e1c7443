-- The memories of partitions whose bytes lie one after the other.
use borrow.Rule.Slice.PartMut.{put_mid}
use Rattle.std.proofs.Common.{◌≡◌, ℕ, zero, suc, ◌+◌, ◌-◌, ◌<◌, ◌≤◌, List, [], ◌∷◌, ◌++◌, length, set, get_or, take, drop, Some, refl, sym, ap, ◌∙◌, subst, arith, length-drop}
use Rattle.std.specs.Prelude.{All, AllPairs, Err, Ok, OnErr, OnOk, Result, remove, slice_get}
use Rattle.std.specs.FinMap.{empty, get}
use Rattle.std.proofs.lemmas.List.{drop-drop, drop-take, get_or-map, get_or-set_other, get_or-set_same, length-map, length-take-le, take-take, take_at, drop_at}
use Rattle.std.proofs.lemmas.Slice.{take-put_mid_below}
use Rattle.xm_conf.specs.Limits.{most_parts}
use Rattle.guest_bus.specs.Memory.{Area, Memory, bytes_at}
use Rattle.guest_bus.specs.Whole.{IsMemoryOf}
use Rattle.guest_memory.specs.Flat.{AllBytes, AreFlat, AreTables, Follow, IsMemoryTable, Table, areas_of_tables, listed, maps_in, memories_in, memory_in}
use Rattle.guest_memory.specs.lemmas.FlatTerms.{IsPartOf, IsSpace, SameAround, memory_of_part, bytes_of_part}
use Rattle.guest_memory.specs.Memories.{AreasApart, AreMemories, ArePlaced, HasAreas, HasBytes, Memories, SameElsewhere, areas_at, map_at, others_of, place_at, areas_size, whole_size, with_map}
use Rattle.guest_memory.specs.declared.entry.Entry.{Entry}
use Rattle.guest_memory.proofs.FlatLemmas.{bytes-drop, bytes-take, bytes_at-memory_in, drop-put_after, ends_within, get-memory_in, slice_get-drop, slice_get-take, whole_in}

-- as many maps as partitions
pub length-maps_in : (areas : List (List Area)) (bytes : List ℕ) → length (maps_in areas bytes) ≡ length areas
length-maps_in [] bytes = refl
length-maps_in (first ∷ others) bytes = ap suc (length-maps_in others (drop (areas_size first) bytes))

-- a partition ends within all bytes
pub part_within : (areas : List (List Area)) (p : ℕ) → p < length areas → whole_size (take p areas) + areas_size (get_or areas p []) ≤ whole_size areas
part_within [] p below = absurd (omega (arith, below))
part_within (first ∷ others) zero below = omega arith
part_within (first ∷ others) (suc p) below = omega (arith, part_within others p (omega (arith, below)))

-- the bytes of a partition
abbrev pub part_of : List (List Area) → ℕ → List ℕ → List ℕ
part_of areas p bytes = take (areas_size (get_or areas p [])) (drop (whole_size (take p areas)) bytes)

-- they are as many as its areas have
pub part_sized : (areas : List (List Area)) (p : ℕ) (bytes : List ℕ) → p < length areas → length bytes ≡ whole_size areas → length (part_of areas p bytes) ≡ areas_size (get_or areas p [])
part_sized areas p bytes below sized =
    length-take-le (areas_size (get_or areas p [])) (drop (whole_size (take p areas)) bytes) (omega (arith, length-drop (whole_size (take p areas)) bytes, part_within areas p below, sized))

-- the memory of a partition
pub maps_at : (areas : List (List Area)) (bytes : List ℕ) (p : ℕ) → p < length areas → get_or (maps_in areas bytes) p empty ≡ memory_in (get_or areas p []) (part_of areas p bytes)
maps_at [] bytes p below = absurd (omega (arith, below))
maps_at (first ∷ others) bytes zero below = refl
maps_at (first ∷ others) bytes (suc p) below =
    maps_at others (drop (areas_size first) bytes) p (omega (arith, below))
    ∙ ap (λ (part : List ℕ). memory_in (get_or others p []) (take (areas_size (get_or others p [])) part)) (drop-drop (whole_size (take p others)) (areas_size first) bytes)

-- the memories where the bytes of one partition were changed
pub maps-set : (areas : List (List Area)) (bytes new : List ℕ) (p : ℕ) → p < length areas → length bytes ≡ whole_size areas → length new ≡ areas_size (get_or areas p [])
    → maps_in areas (put_mid (whole_size (take p areas)) (areas_size (get_or areas p [])) bytes new) ≡ set (maps_in areas bytes) p (memory_in (get_or areas p []) new)
maps-set [] bytes new p below sized counted = absurd (omega (arith, below))
maps-set (first ∷ others) bytes new zero below sized counted =
    ap (λ (part : List ℕ). memory_in first part ∷ maps_in others (drop (areas_size first) (new ++ drop (areas_size first) bytes))) (take_at new (drop (areas_size first) bytes) (areas_size first) counted)
    ∙ ap (λ (rest : List ℕ). memory_in first new ∷ maps_in others rest) (drop_at new (drop (areas_size first) bytes) (areas_size first) counted)
maps-set (first ∷ others) bytes new (suc p) below sized counted =
    let within = part_within others p (omega (arith, below)) in
    let rest : length (drop (areas_size first) bytes) ≡ whole_size others = omega (arith, length-drop (areas_size first) bytes, sized) in
    ap (λ (part : List ℕ). memory_in first part ∷ maps_in others (drop (areas_size first) (put_mid (areas_size first + whole_size (take p others)) (areas_size (get_or others p [])) bytes new)))
    (take-put_mid_below (areas_size first + whole_size (take p others)) (areas_size (get_or others p [])) bytes new (areas_size first) (omega arith) (omega (arith, sized, within)))
    ∙ ap (λ (part : List ℕ). memory_in first (take (areas_size first) bytes) ∷ maps_in others part)
    (drop-put_after (areas_size first) (whole_size (take p others)) (areas_size (get_or others p [])) bytes new (omega (arith, sized)))
    ∙ ap (λ (maps : List Memory). memory_in first (take (areas_size first) bytes) ∷ maps) (maps-set others (drop (areas_size first) bytes) new p (omega (arith, below)) rest counted)

-- bytes that lie so are memories
pub memories_whole : (areas : List (List Area)) (bytes : List ℕ) (selected : ℕ) → selected < length areas → length areas ≤ most_parts → All ArePlaced areas → length bytes ≡ whole_size areas → AllBytes bytes
    → AreMemories (record { areas = areas; maps = maps_in areas bytes; selected = selected })
memories_whole areas bytes selected below few placed sized small = record {
  counted = length-maps_in areas bytes;
  selected = below;
  few = few;
  placed = placed;
  whole = λ p within. subst (λ (m : Memory). IsMemoryOf (get_or areas p []) m) (sym (maps_at areas bytes p within))
      (whole_in (get_or areas p []) (part_of areas p bytes) (part_sized areas p bytes within sized) (bytes-take (areas_size (get_or areas p [])) (drop (whole_size (take p areas)) bytes) (bytes-drop (whole_size (take p areas)) bytes small)));
}

-- other bytes, as many as before, are kept so
pub kept_on : (tables : List Table) (bytes new : List ℕ) (selected : ℕ) → AreFlat tables bytes selected → length new ≡ length bytes → AllBytes new → AreFlat tables new selected
kept_on tables bytes new selected are same small = record {
  memories = memories_whole (areas_of_tables tables) new selected are.memories.selected are.memories.few are.memories.placed (same ∙ are.whole) small;
  rows = are.rows;
  whole = same ∙ are.whole;
  few = omega (arith, same, are.few);
  small = small;
}

-- so are those of which another is selected
pub kept_selected : (tables : List Table) (bytes : List ℕ) (selected p : ℕ) → AreFlat tables bytes selected → p < length (areas_of_tables tables) → AreFlat tables bytes p
kept_selected tables bytes selected p are below = record {
  memories = memories_whole (areas_of_tables tables) bytes p below are.memories.few are.memories.placed are.whole are.small;
  rows = are.rows;
  whole = are.whole;
  few = are.few;
  small = are.small;
}

-- the table of a partition
pub table_at : (place : ℕ) (tables : List Table) (p : ℕ) (table : Table) → AreTables place tables → p < length tables → table ≡ get_or tables p table → IsMemoryTable (place + whole_size (take p (areas_of_tables tables))) table
table_at place [] p table all below is = absurd (omega (arith, below))
table_at place (x ∷ xs) zero table all below is =
    let e : place ≡ place + 0 = omega arith in
    subst (λ (t : Table). IsMemoryTable (place + 0) t) (sym is) (subst (λ (k : ℕ). IsMemoryTable k x) e all.0)
table_at place (x ∷ xs) (suc p) table all below is =
    let sized : x.size ≡ areas_size (listed x.entries) = all.0.sized in
    let e : place + x.size + whole_size (take p (areas_of_tables xs)) ≡ place + (areas_size (listed x.entries) + whole_size (take p (areas_of_tables xs))) = omega (arith, sized) in
    subst (λ (k : ℕ). IsMemoryTable k table) e (table_at (place + x.size) xs p table all.1 (omega (arith, below)) is)

-- what is known of a partition whose bytes lie among those of all
pub record IsPart (tables : List Table) (bytes : List ℕ) (selected p : ℕ) (table : Table) : Type 0 where
  pub areas : areas_at p (memories_in tables bytes selected) ≡ listed table.entries
  pub place : table.place ≡ whole_size (take p (areas_of_tables tables))
  pub size : table.size ≡ areas_size (listed table.entries)
  pub is : IsPartOf table bytes
  pub map : map_at p (memories_in tables bytes selected) ≡ memory_of_part table bytes

-- a partition that is kept is so
pub part_at : (tables : List Table) (bytes : List ℕ) (selected p : ℕ) (table : Table) → AreFlat tables bytes selected → p < length (areas_of_tables tables) → table ≡ get_or tables p table → IsPart tables bytes selected p table
part_at tables bytes selected p table are below is = record {
  areas = areas;
  place = place;
  size = row.sized;
  is = record {
    within = omega (arith, place, size, part_within (areas_of_tables tables) p below, are.whole);
    space = record {
      placed = subst (λ (a : List Area). ArePlaced a) areas (are.memories.placed p [] below);
      follow = row.follow;
      whole = ap length (sym part) ∙ part_sized (areas_of_tables tables) p bytes below are.whole ∙ ap areas_size areas;
    };
  };
  map = maps_at (areas_of_tables tables) bytes p below ∙ ap (λ (a : List Area). memory_in a (part_of (areas_of_tables tables) p bytes)) areas ∙ ap (memory_in (listed table.entries)) part;
}
  where
    inside : p < length tables
    inside = omega (arith, below, length-map tables (λ (t : Table). listed t.entries))

    row : IsMemoryTable (whole_size (take p (areas_of_tables tables))) table
    row = let e : 0 + whole_size (take p (areas_of_tables tables)) ≡ whole_size (take p (areas_of_tables tables)) = omega arith in subst (λ (k : ℕ). IsMemoryTable k table) e (table_at 0 tables p table are.rows inside is)

    areas : get_or (areas_of_tables tables) p [] ≡ listed table.entries
    areas = get_or-map (λ (t : Table). listed t.entries) tables p table [] inside ∙ ap (λ (t : Table). listed t.entries) (sym is)

    place : table.place ≡ whole_size (take p (areas_of_tables tables))
    place = row.placed

    size : table.size ≡ areas_size (get_or (areas_of_tables tables) p [])
    size = row.sized ∙ ap areas_size (sym areas)

    part : part_of (areas_of_tables tables) p bytes ≡ take table.size (drop table.place bytes)
    part = ap (λ (n : ℕ). take n (drop (whole_size (take p (areas_of_tables tables))) bytes)) (sym size) ∙ ap (λ (n : ℕ). take table.size (drop n bytes)) (sym place)

-- the bytes of a partition, as its areas and its memory are seen
pub part_shown : (tables : List Table) (bytes : List ℕ) (selected p : ℕ) (table : Table) (shown : List ℕ) → IsPart tables bytes selected p table → shown ≡ bytes_of_part table bytes
    → (length shown ≡ areas_size (areas_at p (memories_in tables bytes selected))) × (map_at p (memories_in tables bytes selected) ≡ memory_in (areas_at p (memories_in tables bytes selected)) shown)
part_shown tables bytes selected p table shown part is =
    (ap length is ∙ part.is.space.whole ∙ ap areas_size (sym part.areas), part.map ∙ ap (memory_in (listed table.entries)) (sym is) ∙ ap (λ (a : List Area). memory_in a shown) (sym part.areas))

-- the memories where the bytes of one partition were changed, by its table
pub memories-put : (tables : List Table) (bytes new : List ℕ) (selected p : ℕ) (table : Table) → AreFlat tables bytes selected → p < length (areas_of_tables tables) → table ≡ get_or tables p table → length new ≡ table.size
    → memories_in tables (put_mid table.place table.size bytes new) selected ≡ with_map p (memory_in (listed table.entries) new) (memories_in tables bytes selected)
memories-put tables bytes new selected p table are below is counted =
    λ i. record { areas = areas_of_tables tables; maps = maps i; selected = selected }
  where
    part : IsPart tables bytes selected p table
    part = part_at tables bytes selected p table are below is

    size : table.size ≡ areas_size (get_or (areas_of_tables tables) p [])
    size = part.size ∙ ap areas_size (sym part.areas)

    maps : maps_in (areas_of_tables tables) (put_mid table.place table.size bytes new) ≡ set (maps_in (areas_of_tables tables) bytes) p (memory_in (listed table.entries) new)
    maps =
        ap (λ (n : ℕ). maps_in (areas_of_tables tables) (put_mid n table.size bytes new)) part.place
        ∙ ap (λ (n : ℕ). maps_in (areas_of_tables tables) (put_mid (whole_size (take p (areas_of_tables tables))) n bytes new)) size
        ∙ maps-set (areas_of_tables tables) bytes new p below are.whole (counted ∙ size)
        ∙ ap (λ (a : List Area). set (maps_in (areas_of_tables tables) bytes) p (memory_in a new)) part.areas

-- the memories where the bytes of one partition were changed, and none around them
pub memories_changed : (tables : List Table) (bytes new : List ℕ) (selected p : ℕ) (table : Table) (memory : Memory) → AreFlat tables bytes selected → p < length (areas_of_tables tables) → table ≡ get_or tables p table → SameAround table bytes new → length new ≡ length bytes
    → memory_of_part table new ≡ memory → memories_in tables new selected ≡ with_map p memory (memories_in tables bytes selected)
memories_changed tables bytes new selected p table memory are below is around same changed =
    ap (λ (b : List ℕ). memories_in tables b selected) around
    ∙ memories-put tables bytes (bytes_of_part table new) selected p table are below is counted
    ∙ ap (λ (m : Memory). with_map p m (memories_in tables bytes selected)) changed
  where
    counted : length (bytes_of_part table new) ≡ table.size
    counted = let part = part_at tables bytes selected p table are below is in length-take-le table.size (drop table.place new) (omega (arith, length-drop table.place new, same, part.is.within))

-- no other partition has other bytes
pub same_elsewhere : (memories : Memories) (p : ℕ) (memory : Memory) → SameElsewhere p memories (with_map p memory memories)
same_elsewhere memories p memory = λ other differs. get_or-set_other memories.maps p other memory empty differs

-- the bytes of the one that was changed
pub map_at-with_map : (memories : Memories) (p : ℕ) (memory : Memory) → AreMemories memories → p < length memories.areas → map_at p (with_map p memory memories) ≡ memory
map_at-with_map memories p memory are below = get_or-set_same memories.maps p memory empty (omega (arith, are.counted))

-- without the element that was changed a list is as before
remove-set : {X : Type 0} (xs : List X) (i : ℕ) (x : X) → remove (set xs i x) i ≡ remove xs i
remove-set [] i x = refl
remove-set (y ∷ xs) zero x = refl
remove-set {X} (y ∷ xs) (suc i) x = ap (λ (rest : List X). y ∷ rest) (remove-set xs i x)

-- the bytes of all others
pub others-with_map : (memories : Memories) (memory : Memory) → others_of (with_map memories.selected memory memories) ≡ others_of memories
others-with_map memories memory =
    ap (λ (maps : List Memory). record { number = memories.selected; areas = remove memories.areas memories.selected; memories = maps })
    (remove-set memories.maps memories.selected memory)

-- there is a partition with an area
pub some_part : (areas : List (List Area)) (p k : ℕ) (area : Area) → slice_get (get_or areas p []) k ≡ Some area → p < length areas
some_part [] p k area is = absurd cc
some_part (first ∷ others) zero k area is = omega arith
some_part (first ∷ others) (suc p) k area is = omega (arith, some_part others p k area is)

-- a part of a prefix is a part of the whole
pub part_of_part : (m i n : ℕ) (xs : List ℕ) → i + n ≤ m → take n (drop i (take m xs)) ≡ take n (drop i xs)
part_of_part m i n xs within =
    let e : m ≡ i + (m - i) = omega arith in
    ap (λ (k : ℕ). take n (drop i (take k xs))) e ∙ ap (take n) (drop-take i (m - i) xs) ∙ take-take n (m - i) (drop i xs) (omega arith)

-- the bytes of an area of a partition
area_at : (own : List Area) (place : ℕ) (bytes : List ℕ) (k : ℕ) (area : Area) → AllPairs AreasApart own → slice_get own k ≡ Some area → length (take (areas_size own) (drop place bytes)) ≡ areas_size own
    → bytes_at (memory_in own (take (areas_size own) (drop place bytes))) area.start area.size ≡ take area.size (drop (place + areas_size (take k own)) bytes)
area_at own place bytes k area apart is sized =
    bytes_at-memory_in own k area.start area.size (areas_size (take k own)) area (take (areas_size own) (drop place bytes)) apart is sized (omega arith) (omega arith) (omega arith)
    ∙ part_of_part (areas_size own) (areas_size (take k own)) area.size (drop place bytes) (ends_within own k area is)
    ∙ ap (take area.size) (drop-drop (areas_size (take k own)) place bytes)

-- the byte at an address of it
byte_at : (own : List Area) (place : ℕ) (bytes : List ℕ) (k address : ℕ) (area : Area) → AllPairs AreasApart own → slice_get own k ≡ Some area → length (take (areas_size own) (drop place bytes)) ≡ areas_size own → area.start ≤ address → address < area.start + area.size
    → get (memory_in own (take (areas_size own) (drop place bytes))) address ≡ slice_get bytes (place + areas_size (take k own) + (address - area.start))
byte_at own place bytes k address area apart is sized from under =
    let ends = ends_within own k area is in
    let sum : place + (areas_size (take k own) + (address - area.start)) ≡ place + areas_size (take k own) + (address - area.start) = omega arith in
    get-memory_in own k address area (take (areas_size own) (drop place bytes)) apart is sized from under
    ∙ slice_get-take (areas_size own) (areas_size (take k own) + (address - area.start)) (drop place bytes) (omega (arith, ends))
    ∙ slice_get-drop place (areas_size (take k own) + (address - area.start)) bytes ∙ ap (slice_get bytes) sum

-- the bytes of all partitions have those of each area at its place
pub whole_areas : (tables : List Table) (bytes : List ℕ) (selected : ℕ) → AreFlat tables bytes selected → HasAreas (memories_in tables bytes selected) bytes
whole_areas tables bytes selected are = λ p k area is.
    let below = some_part (areas_of_tables tables) p k area is in
    ap (λ (m : Memory). bytes_at m area.start area.size) (maps_at (areas_of_tables tables) bytes p below)
    ∙ area_at (get_or (areas_of_tables tables) p []) (whole_size (take p (areas_of_tables tables))) bytes k area (are.memories.placed p [] below).apart is (part_sized (areas_of_tables tables) p bytes below are.whole)

-- and the byte at each address of an area
pub whole_bytes : (tables : List Table) (bytes : List ℕ) (selected : ℕ) → AreFlat tables bytes selected → HasBytes (memories_in tables bytes selected) bytes
whole_bytes tables bytes selected are = λ p k area address is from under.
    let below = some_part (areas_of_tables tables) p k area is in
    ap (λ (m : Memory). get m address) (maps_at (areas_of_tables tables) bytes p below)
    ∙ byte_at (get_or (areas_of_tables tables) p []) (whole_size (take p (areas_of_tables tables))) bytes k address area (are.memories.placed p [] below).apart is (part_sized (areas_of_tables tables) p bytes below are.whole) from under

-- a prefix of areas has no more bytes than all
pub size_front : (n : ℕ) (areas : List Area) → areas_size (take n areas) ≤ areas_size areas
size_front zero areas = omega arith
size_front (suc n) [] = omega arith
size_front (suc n) (x ∷ xs) = omega (arith, size_front n xs)

-- the place of an area among all bytes, by its table, and that it lies among them
pub place_of_area : (tables : List Table) (bytes : List ℕ) (selected p k : ℕ) (table : Table) → AreFlat tables bytes selected → p < length (areas_of_tables tables) → table ≡ get_or tables p table
    → (table.place + areas_size (take k (listed table.entries)) ≡ place_at p k (memories_in tables bytes selected)) × (table.place + areas_size (take k (listed table.entries)) ≤ length bytes)
place_of_area tables bytes selected p k table are below is = (same, omega (arith, part.is.within, part.size, size_front k (listed table.entries)))
  where
    part : IsPart tables bytes selected p table
    part = part_at tables bytes selected p table are below is

    same : table.place + areas_size (take k (listed table.entries)) ≡ whole_size (take p (areas_of_tables tables)) + areas_size (take k (get_or (areas_of_tables tables) p []))
    same = let e : areas_size (take k (get_or (areas_of_tables tables) p [])) ≡ areas_size (take k (listed table.entries)) = ap (λ (a : List Area). areas_size (take k a)) part.areas in omega (arith, e, part.place)

-- an area more follows the others
pub follow_on : (place : ℕ) (entries : List Entry) (entry : Entry) → Follow place entries → entry.place ≡ place + areas_size (listed entries) → Follow place (entries ++ entry ∷ [])
follow_on place [] entry follow is = let e : place + 0 ≡ place = omega arith in (is ∙ e, tt)
follow_on place (x ∷ xs) entry follow is =
    let e : place + (x.size + areas_size (listed xs)) ≡ place + x.size + areas_size (listed xs) = omega arith in
    (follow.0, follow_on (place + x.size) xs entry follow.1 (is ∙ e))

-- a partition more
pub tables_on : (place : ℕ) (tables : List Table) (table : Table) → AreTables place tables → IsMemoryTable (place + whole_size (areas_of_tables tables)) table → AreTables place (tables ++ table ∷ [])
tables_on place [] table all is = let e : place + 0 ≡ place = omega arith in (subst (λ (k : ℕ). IsMemoryTable k table) e is, tt)
tables_on place (x ∷ xs) table all is =
    let sized : x.size ≡ areas_size (listed x.entries) = all.0.sized in
    let e : place + (areas_size (listed x.entries) + whole_size (areas_of_tables xs)) ≡ place + x.size + whole_size (areas_of_tables xs) = omega (arith, sized) in
    (all.0, tables_on (place + x.size) xs table all.1 (subst (λ (k : ℕ). IsMemoryTable k table) e is))

-- the areas and the bytes of a partition are a space
pub space_is : (memories : Memories) (p : ℕ) (entries : List Entry) (part : List ℕ) → listed entries ≡ areas_at p memories → ArePlaced (listed entries) → Follow 0 entries → length part ≡ areas_size (areas_at p memories) → IsSpace entries part
space_is memories p entries part areas placed follow sized = record { placed = placed; follow = follow; whole = sized ∙ ap areas_size (sym areas) }

-- what is read of a partition, as a fact on its areas and its bytes
pub as_seen : (P : List Area → Memory → Type 0) (memories : Memories) (p : ℕ) (entries : List Entry) (part : List ℕ) → listed entries ≡ areas_at p memories → map_at p memories ≡ memory_in (areas_at p memories) part
    → P (listed entries) (memory_in (listed entries) part) → P (areas_at p memories) (map_at p memories)
as_seen P memories p entries part areas bytes is =
    subst (λ (m : Memory). P (areas_at p memories) m) (sym bytes) (subst (λ (a : List Area). P a (memory_in a part)) areas is)

-- the same of the selected partition
pub as_selected : (P : List Area → Memory → Type 0) (memories : Memories) (p : ℕ) (entries : List Entry) (part : List ℕ) → p ≡ memories.selected → listed entries ≡ areas_at p memories → map_at p memories ≡ memory_in (areas_at p memories) part
    → P (listed entries) (memory_in (listed entries) part) → P (areas_at memories.selected memories) (map_at memories.selected memories)
as_selected P memories p entries part here areas bytes is =
    subst (λ (q : ℕ). P (areas_at q memories) (map_at q memories)) here (as_seen P memories p entries part areas bytes is)

-- what follows from a success
pub on_ok : {E : Type 0} (A B : Type 0) (r : Result (Unit {0}) E) → (A → B) → OnOk r A → OnOk r B
on_ok A B (Ok x) so a = so a
on_ok A B (Err e) so a = tt

-- what follows from a refusal
pub on_err : {E : Type 0} (A B : Type 0) (r : Result (Unit {0}) E) → (A → B) → OnErr r A → OnErr r B
on_err A B (Ok x) so a = tt
on_err A B (Err e) so a = so a
