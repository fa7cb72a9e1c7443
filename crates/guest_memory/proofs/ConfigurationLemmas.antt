-- The areas of a configuration that meets the rules are whole pages below 2^32, and those of one partition are apart.
use Rattle.std.proofs.Common.{◌≡◌, ℕ, suc, ◌+◌, ◌<◌, ◌≤◌, ◌^◌, List, [], ◌∷◌, ◌++◌, map, get_or, refl, sym, arith}
use Rattle.std.specs.List.{sum_by}
use Rattle.std.specs.Prelude.{All, AllPairs, Any}
use Rattle.std.proofs.lemmas.List.Elements.{All-cons, All-nil}
use Rattle.std.proofs.lemmas.List.Kept.{AllPairs-cons}
use Rattle.std.proofs.lemmas.List.Sums.{sum_by-cons}
use Rattle.xm_conf.specs.Along.{each_from}
use Rattle.xm_conf.specs.Configuration.{Conf, Part}
use Rattle.xm_conf.specs.Description.{described}
use Rattle.xm_conf.specs.Fits.{Fits, IsRegion, IsSized, LiesIn}
use Rattle.xm_conf.specs.Fits as rules
use Rattle.xm_conf.specs.Rules.{addresses, area_stretch, most_memory, page, part_size, part_stretches, stretch, stretches, whole_stretch, hypervisor}
use Rattle.xm_conf.specs.declared.item.Item.{Item}
use Rattle.xm_conf.specs.declared.part.Area as configured
use Rattle.xm_conf.specs.declared.raw.Region.{Region}
use Rattle.guest_memory.specs.Loading.{area_of, memory_areas}
use Rattle.guest_memory.specs.Memories.{AreasApart, ArePlaced, IsPlaced, areas_size, whole_size}

-- pairs of all but the first
pairs_tail : {X : Type 0} (R : X → X → Type 0) (x : X) (xs : List X) → AllPairs R (x ∷ xs) → AllPairs R xs
pairs_tail R x xs pairs = λ i j d before below. pairs (suc i) (suc j) d (omega (arith, before)) (omega (arith, below))

-- the first with each later one
pairs_head : {X : Type 0} (R : X → X → Type 0) (x : X) (xs : List X) → AllPairs R (x ∷ xs) → All (R x) xs
pairs_head R x xs pairs = λ k d below. pairs 0 (suc k) d (omega arith) (omega (arith, below))

-- pairs of a list's end
pairs_after : {X : Type 0} (R : X → X → Type 0) (xs ys : List X) → AllPairs R (xs ++ ys) → AllPairs R ys
pairs_after R [] ys pairs = pairs
pairs_after R (x ∷ xs) ys pairs = pairs_after R xs ys (pairs_tail R x (xs ++ ys) pairs)

-- what holds of a list holds of its prefix
all_front : {X : Type 0} (P : X → Type 0) (xs ys : List X) → All P (xs ++ ys) → All P xs
all_front P [] ys all = All-nil P
all_front P (x ∷ xs) ys all = All-cons P x xs (all 0 x (omega arith)) (all_front P xs ys (λ k d below. all (suc k) d (omega (arith, below))))

-- pairs of a list's prefix
pairs_front : {X : Type 0} (R : X → X → Type 0) (xs ys : List X) → AllPairs R (xs ++ ys) → AllPairs R xs
pairs_front R [] ys pairs = λ i j d before below. absurd (omega (arith, below))
pairs_front R (x ∷ xs) ys pairs = AllPairs-cons R x xs (all_front (R x) xs ys (pairs_head R x (xs ++ ys) pairs)) (pairs_front R xs ys (pairs_tail R x (xs ++ ys) pairs))

-- two stretches of memory that are distinguished by their items are apart
abbrev pub Distinguishes : (Item × Region) → (Item × Region) → Type 0
Distinguishes a b = rules.Apart a.1 b.1

-- an area that is apart from later stretches is apart from their areas
apart_later : (p n : ℕ) (item : Item) (a : configured.Area) (areas : List configured.Area) → All (Distinguishes (item, stretch a)) (each_from (area_stretch p) n areas) → All (AreasApart (area_of a)) (map area_of areas)
apart_later p n item a [] all = All-nil (AreasApart (area_of a))
apart_later p n item a (b ∷ areas) all =
    All-cons (AreasApart (area_of a)) (area_of b) (map area_of areas) (all 0 (item, stretch b) (omega arith))
    (apart_later p (n + 1) item a areas (λ k d below. all (suc k) d (omega (arith, below))))

-- the areas of one partition are apart
part_apart : (p n : ℕ) (item : Item) (areas : List configured.Area) → AllPairs Distinguishes (each_from (area_stretch p) n areas) → AllPairs AreasApart (map area_of areas)
part_apart p n item [] pairs = λ i j d before below. absurd (omega (arith, below))
part_apart p n item (a ∷ areas) pairs =
    AllPairs-cons AreasApart (area_of a) (map area_of areas)
    (apart_later p (n + 1) item a areas (λ k d below. pairs 0 (suc k) d (omega arith) (omega (arith, below))))
    (part_apart p (n + 1) item areas (λ i j d before below. pairs (suc i) (suc j) d (omega (arith, before)) (omega (arith, below))))

-- an area that is whole pages in a region is placed
area_placed : (regions : List Region) (area : configured.Area) → All IsRegion regions → IsSized area.start area.size → Any (LiesIn area) regions → IsPlaced (area_of area)
unfolding page addresses
area_placed regions area each sized some =
    let region : IsRegion (get_or regions some.0 some.1) = each some.0 some.1 some.2 in
    let inside : LiesIn area some.1 = some.4 in
    let same : some.1 ≡ get_or regions some.0 some.1 = sym some.3 in
    let below : some.1.start + some.1.size ≤ 2 ^ 32 = rw same region.below in
    record { start = sized.start_paged; size = sized.size_paged; ends = omega (arith, inside.end, below) }

-- so are all areas of a partition
areas_placed : (regions : List Region) (areas : List configured.Area) → All IsRegion regions → All (λ area. IsSized area.start area.size) areas → All (λ area. Any (LiesIn area) regions) areas → All IsPlaced (map area_of areas)
areas_placed regions [] each sized inside = All-nil IsPlaced
areas_placed regions (area ∷ areas) each sized inside =
    All-cons IsPlaced (area_of area) (map area_of areas) (area_placed regions area each (sized 0 area (omega arith)) (inside 0 area (omega arith)))
    (areas_placed regions areas each (λ k d below. sized (suc k) d (omega (arith, below))) (λ k d below. inside (suc k) d (omega (arith, below))))

-- and the areas of all partitions
parts_placed : (regions : List Region) (n : ℕ) (item : Item) (parts : List Part) → All IsRegion regions → All (λ part. All (λ area. IsSized area.start area.size) part.areas) parts
    → All (λ part. All (λ area. Any (LiesIn area) regions) part.areas) parts → AllPairs Distinguishes (each_from part_stretches n parts) → All ArePlaced (map memory_areas parts)
unfolding memory_areas part_stretches
parts_placed regions n item [] each sized inside pairs = All-nil ArePlaced
parts_placed regions n item (part ∷ parts) each sized inside pairs =
    All-cons ArePlaced (map area_of part.areas) (map memory_areas parts)
    (record {
      each = areas_placed regions part.areas each (sized 0 part (omega arith)) (inside 0 part (omega arith));
      apart = part_apart n 0 item part.areas (pairs_front Distinguishes (part_stretches n part) (each_from part_stretches (n + 1) parts) pairs);
    })
    (parts_placed regions (n + 1) item parts each (λ k d below. sized (suc k) d (omega (arith, below))) (λ k d below. inside (suc k) d (omega (arith, below)))
    (pairs_after Distinguishes (part_stretches n part) (each_from part_stretches (n + 1) parts) pairs))

-- the areas of a configuration that meets the rules
pub fits_placed : (conf : Conf) (item : Item) → Fits (described conf) → All ArePlaced (map memory_areas conf.parts)
unfolding described stretches
fits_placed conf item fits =
    parts_placed conf.regions 0 item conf.parts fits.regions_sized fits.areas_sized fits.areas_inside
    (pairs_after Distinguishes (whole_stretch (hypervisor conf.hv_size conf.regions)) (each_from part_stretches 0 conf.parts) fits.areas_apart)

-- the bytes of areas, by the rules
areas_sized : (areas : List configured.Area) → areas_size (map area_of areas) ≡ sum_by (λ area. area.size) areas
areas_sized [] = refl
areas_sized (area ∷ areas) = omega (arith, areas_sized areas, sum_by-cons (λ (a : configured.Area). a.size) area areas)

-- the bytes of all partitions, by the rules
parts_sized : (parts : List Part) → whole_size (map memory_areas parts) ≡ sum_by part_size parts
unfolding memory_areas part_size
parts_sized [] = refl
parts_sized (part ∷ parts) = omega (arith, areas_sized part.areas, parts_sized parts, sum_by-cons part_size part parts)

-- they are fewer than a place can count
pub fits_few : (conf : Conf) → Fits (described conf) → whole_size (map memory_areas conf.parts) < 4294967296
unfolding described most_memory
fits_few conf fits = omega (arith, parts_sized conf.parts, fits.memory)
