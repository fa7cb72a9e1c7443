-- Tables of places as they are made, an area and a partition at a time.
use Rattle.std.proofs.Common.{◌≡◌, ℕ, zero, suc, ◌+◌, ◌<◌, ◌≤◌, List, [], ◌∷◌, ◌++◌, length, map, get_or, take, sym, ap, ◌∙◌, subst, arith}
use Rattle.std.proofs.lemmas.List.{map-append, take_more}
use Rattle.xm_conf.specs.Configuration.{Part}
use Rattle.xm_conf.specs.declared.part.Area as configured
use Rattle.guest_memory.specs.Flat.{AreTables, Follow, IsMemoryTable, Table, area_in, areas_of_tables, listed}
use Rattle.guest_memory.specs.Loading.{area_of, memory_areas}
use Rattle.guest_memory.specs.Memories.{areas_size, whole_size}
use Rattle.guest_memory.specs.declared.entry.Entry.{Entry}
use Rattle.guest_memory.proofs.MemoriesLemmas.{follow_on, tables_on}

-- the areas up to one and it have no more bytes than all
pub area_more : (areas : List configured.Area) (i : ℕ) (other : configured.Area) → i < length areas → areas_size (map area_of (take i areas)) + (get_or areas i other).size ≤ areas_size (map area_of areas)
area_more [] i other below = absurd (omega (arith, below))
area_more (x ∷ xs) zero other below = omega arith
area_more (x ∷ xs) (suc i) other below = omega (arith, area_more xs i other (omega (arith, below)))

-- the same of partitions
pub part_more : (parts : List Part) (i : ℕ) (part : Part) → i < length parts → part ≡ get_or parts i part → whole_size (map memory_areas (take i parts)) + areas_size (memory_areas part) ≤ whole_size (map memory_areas parts)
part_more [] i part below is = absurd (omega (arith, below))
part_more (x ∷ xs) zero part below is = let e : areas_size (memory_areas part) ≡ areas_size (memory_areas x) = ap (λ (p : Part). areas_size (memory_areas p)) is in omega (arith, e)
part_more (x ∷ xs) (suc i) part below is = omega (arith, part_more xs i part (omega (arith, below)) is)

-- how many bytes areas have with one more
pub size_push : (entries : List Entry) (entry : Entry) → areas_size (listed (entries ++ entry ∷ [])) ≡ areas_size (listed entries) + entry.size
size_push [] entry = omega arith
size_push (x ∷ xs) entry = omega (arith, size_push xs entry)

-- how many bytes partitions have with one more
pub whole_push : (tables : List Table) (table : Table) → whole_size (areas_of_tables (tables ++ table ∷ [])) ≡ whole_size (areas_of_tables tables) + areas_size (listed table.entries)
whole_push [] table = omega arith
whole_push (x ∷ xs) table = omega (arith, whole_push xs table)

-- an area more, at the end of the others
pub follow_more : (entries : List Entry) (entry : Entry) (place : ℕ) → Follow 0 entries → place ≡ areas_size (listed entries) → entry.place ≡ place → Follow 0 (entries ++ entry ∷ [])
follow_more entries entry place follow sized is =
    let e : areas_size (listed entries) ≡ 0 + areas_size (listed entries) = omega arith in
    follow_on 0 entries entry follow (is ∙ sized ∙ e)

-- a partition more, at the end of the others
pub tables_more : (tables : List Table) (table : Table) (place : ℕ) → AreTables 0 tables → place ≡ whole_size (areas_of_tables tables) → IsMemoryTable place table → AreTables 0 (tables ++ table ∷ [])
tables_more tables table place all sized is =
    let e : place ≡ 0 + whole_size (areas_of_tables tables) = omega (arith, sized) in
    tables_on 0 tables table all (subst (λ (k : ℕ). IsMemoryTable k table) e is)

-- the areas with one more
pub areas_push : (entries : List Entry) (entry : Entry) (areas : List configured.Area) (i : ℕ) (other : configured.Area) → i < length areas → listed entries ≡ map area_of (take i areas) → area_in entry ≡ area_of (get_or areas i other)
    → listed (entries ++ entry ∷ []) ≡ map area_of (take (i + 1) areas)
areas_push entries entry areas i other below same is =
    map-append area_in entries (entry ∷ []) ∙ (λ j. same j ++ is j ∷ []) ∙ sym (map-append area_of (take i areas) (get_or areas i other ∷ [])) ∙ ap (map area_of) (sym (take_more areas i other below))

-- the areas of partitions with one more
pub parts_push : (tables : List Table) (table : Table) (parts : List Part) (i : ℕ) (part : Part) → i < length parts → part ≡ get_or parts i part → areas_of_tables tables ≡ map memory_areas (take i parts) → listed table.entries ≡ memory_areas part
    → areas_of_tables (tables ++ table ∷ []) ≡ map memory_areas (take (i + 1) parts)
parts_push tables table parts i part below here same is =
    map-append (λ (t : Table). listed t.entries) tables (table ∷ []) ∙ (λ j. same j ++ (is ∙ ap memory_areas here) j ∷ [])
    ∙ sym (map-append memory_areas (take i parts) (get_or parts i part ∷ [])) ∙ ap (map memory_areas) (sym (take_more parts i part below))
