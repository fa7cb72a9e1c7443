-- The pages of a memory are those of its bytes.
use Rattle.std.proofs.Common.{◌≡◌, ℕ, zero, suc, ◌+◌, ◌-◌, ◌*◌, ◌/◌, ◌<◌, ◌≤◌, Bool, true, false, List, [], ◌∷◌, ◌++◌, length, map, take, drop, get_or, Some, refl, sym, ap, ◌∙◌, append_assoc, arith, add-one, length-append}
use Rattle.std.specs.Prelude.{if◌then◌else◌, slice_get}
use Rattle.std.specs.List.{flat_map}
use Rattle.std.specs.Str.{bytes_eq}
use Rattle.std.proofs.lemmas.Grind.{flat_map-append}
use Rattle.std.proofs.lemmas.List.{append-nil, get_or-map, length-map}
use Rattle.std.proofs.lemmas.Option.{get_or_from_slice_get, slice_get-map}
use Rattle.std.specs.FinMap.{empty}
use Rattle.guest_bus.specs.Memory.{Area, Memory, byte_at, bytes_at}
use Rattle.guest_bus.specs.lemmas.MemoryLemmas.{length-bytes_at}
use Rattle.guest_memory.specs.Loading.{area_of, memory_areas}
use Rattle.guest_memory.specs.Memories.{Memories, areas_at, areas_size, map_at, place_at, whole_size}
use Rattle.machine_model.specs.Machine.{Machine, booted_part}
use Rattle.machine_model.specs.Partition.{areas_of}
use Rattle.machine_model.specs.View.{System, no_part, part_of, view_of}
use Rattle.saved_machines.specs.Saved.{SavedPage}
use Rattle.saved_machines.specs.SavedFormat.{loaded_page}
use Rattle.saved_machines.specs.Saving.{changed_in, changed_pages, page_bytes}
use Rattle.system_state.specs.State.{memory_of}
use Rattle.xm_conf.specs.Configuration.{Conf, Part}
use Rattle.xm_conf.specs.declared.part.Area as configured
use Rattle.machine_saves.specs.lemmas.SaveTerms.{IsAreaOf, area_text, changed_bytes, changed_from, changed_page, page_of, page_text, pages_text}

-- the first of some bytes
bytes_front : (m : Memory) (a n size : ℕ) → n ≤ size → take n (bytes_at m a size) ≡ bytes_at m a n
bytes_front m a zero zero le = refl
bytes_front m a zero (suc size) le = refl
bytes_front m a (suc n) zero le = absurd (omega (arith, le))
bytes_front m a (suc n) (suc size) le = ap (λ (rest : List ℕ). byte_at m a ∷ rest) (bytes_front m (suc a) n size (omega (arith, le)))

-- some of them
pub bytes_part : (m : Memory) (a offset n size : ℕ) → offset + n ≤ size → take n (drop offset (bytes_at m a size)) ≡ bytes_at m (a + offset) n
bytes_part m a zero n size le = bytes_front m a n size (omega (arith, le)) ∙ ap (λ (b : ℕ). bytes_at m b n) (omega arith)
bytes_part m a (suc offset) n zero le = absurd (omega (arith, le))
bytes_part m a (suc offset) n (suc size) le = bytes_part m (suc a) offset n size (omega (arith, le)) ∙ ap (λ (b : ℕ). bytes_at m b n) (omega arith)

-- a page among pages
abbrev with_page : ℕ → List ℕ → List ℕ → List SavedPage → List SavedPage
with_page address now loaded rest = if bytes_eq now loaded then rest else record { address = address; bytes = now } ∷ rest

-- none or one page before others
before_rest : (test : Bool) (page : SavedPage) (rest : List SavedPage) → (if test then [] else page ∷ []) ++ rest ≡ (if test then rest else page ∷ rest)
before_rest true page rest = refl
before_rest false page rest = refl

module _ (m loaded : Memory) (start size : ℕ) where
  changed_same : (number count : ℕ) → 256 * (number + count) ≤ size → changed_from (bytes_at loaded start size) (bytes_at m start size) start number count ≡ changed_pages loaded m (start + 256 * number) count
  unfolding changed_from changed_page changed_pages page_of page_bytes loaded_page
  changed_same number zero within = refl
  changed_same number (suc count) within =
      let here : page_of (bytes_at m start size) number ≡ page_bytes m (start + 256 * number) = bytes_part m start (256 * number) 256 size (omega (arith, within)) in
      let there : page_of (bytes_at loaded start size) number ≡ loaded_page loaded (start + 256 * number) = bytes_part loaded start (256 * number) 256 size (omega (arith, within)) in
      let later : changed_from (bytes_at loaded start size) (bytes_at m start size) start (suc number) count ≡ changed_pages loaded m (start + 256 * number + 256) count =
      changed_same (suc number) count (omega (arith, within)) ∙ ap (λ (a : ℕ). changed_pages loaded m a count) (omega arith) in
      before_rest (bytes_eq (page_of (bytes_at m start size) number) (page_of (bytes_at loaded start size) number)) (record { address = start + 256 * number; bytes = page_of (bytes_at m start size) number })
      (changed_from (bytes_at loaded start size) (bytes_at m start size) start (suc number) count)
      ∙ (λ i. with_page (start + 256 * number) (here i) (there i) (later i))

  -- the pages of an area
  area_same : changed_bytes (bytes_at loaded start size) (bytes_at m start size) start ≡ changed_pages loaded m start (size / 256)
  unfolding changed_bytes
  area_same =
      ap (λ (n : ℕ). changed_from (bytes_at loaded start size) (bytes_at m start size) start 0 (n / 256)) (length-bytes_at m start size)
      ∙ changed_same 0 (size / 256) (omega arith) ∙ ap (λ (a : ℕ). changed_pages loaded m a (size / 256)) (omega arith)

-- their text
pub area_texts : (m loaded : Memory) (area : Area) (now before : List ℕ) → now ≡ bytes_at m area.start area.size → before ≡ bytes_at loaded area.start area.size
    → pages_text (changed_bytes before now area.start) ≡ area_text loaded m area
area_texts m loaded area now before now_is before_is =
    (λ i. pages_text (changed_bytes (before_is i) (now_is i) area.start)) ∙ ap pages_text (area_same m loaded area.start area.size)

-- the page of a number is the first of those from it on
changed_step : (loaded now : List ℕ) (start number pages : ℕ) → number < pages
    → changed_from loaded now start number (pages - number) ≡ changed_page loaded now start number ++ changed_from loaded now start (number + 1) (pages - (number + 1))
unfolding changed_from
changed_step loaded now start number pages below =
    let more : pages - number ≡ suc (pages - (number + 1)) = omega (arith, below) in
    ap (λ (k : ℕ). changed_from loaded now start number k) more
    ∙ ap (λ (n : ℕ). changed_page loaded now start number ++ changed_from loaded now start n (pages - (number + 1))) (sym (add-one number))

-- no page is left
changed_end : (loaded now : List ℕ) (start number pages : ℕ) → pages ≤ number → changed_from loaded now start number (pages - number) ≡ []
unfolding changed_from
changed_end loaded now start number pages past =
    let none : pages - number ≡ 0 = omega (arith, past) in ap (λ (k : ℕ). changed_from loaded now start number k) none

-- one page more is counted
pub counted_more : (loaded now : List ℕ) (start number pages count one total : ℕ) → number < pages → one ≡ length (changed_page loaded now start number)
    → count + length (changed_from loaded now start number (pages - number)) ≡ total → count + one + length (changed_from loaded now start (number + 1) (pages - (number + 1))) ≡ total
counted_more loaded now start number pages count one total below is before =
    let all = ap length (changed_step loaded now start number pages below) in
    let both = length-append (changed_page loaded now start number) (changed_from loaded now start (number + 1) (pages - (number + 1))) in
    omega (arith, all, both, is, before)

-- all are counted
pub counted_all : (loaded now : List ℕ) (start number pages count total : ℕ) → pages ≤ number → count + length (changed_from loaded now start number (pages - number)) ≡ total → count ≡ total
counted_all loaded now start number pages count total past before =
    let none = ap length (changed_end loaded now start number pages past) in omega (arith, none, before)

-- one page more is put
pub page_put : (all mid new loaded now : List ℕ) (start number pages : ℕ) → number < pages → mid ++ flat_map page_text (changed_from loaded now start number (pages - number)) ≡ all
    → new ≡ mid ++ flat_map page_text (changed_page loaded now start number) → new ++ flat_map page_text (changed_from loaded now start (number + 1) (pages - (number + 1))) ≡ all
page_put all mid new loaded now start number pages below before put =
    let one = changed_page loaded now start number in
    let rest = changed_from loaded now start (number + 1) (pages - (number + 1)) in
    ap (λ (xs : List ℕ). xs ++ flat_map page_text rest) put ∙ append_assoc mid (flat_map page_text one) (flat_map page_text rest)
    ∙ ap (λ (xs : List ℕ). mid ++ xs) (sym (flat_map-append page_text one rest)) ∙ ap (λ (pages : List SavedPage). mid ++ flat_map page_text pages) (sym (changed_step loaded now start number pages below)) ∙ before

-- all are put
pub pages_put : (all mid loaded now : List ℕ) (start number pages : ℕ) → pages ≤ number → mid ++ flat_map page_text (changed_from loaded now start number (pages - number)) ≡ all → mid ≡ all
pages_put all mid loaded now start number pages past before =
    sym (append-nil mid) ∙ ap (λ (pages : List SavedPage). mid ++ flat_map page_text pages) (sym (changed_end loaded now start number pages past)) ∙ before

-- the bytes of an area are among those of its partition
area_within : (areas : List Area) (k : ℕ) (area : Area) → slice_get areas k ≡ Some area → areas_size (take k areas) + area.size ≤ areas_size areas
area_within [] zero area there = absurd cc
area_within [] (suc k) area there = absurd cc
area_within (one ∷ areas) zero area there =
    let size : one.size ≡ area.size = ap (λ (a : Area). a.size) (get_or_from_slice_get (one ∷ areas) 0 area area there) in omega (arith, size)
area_within (one ∷ areas) (suc k) area there = omega (arith, area_within areas k area there)

-- the bytes of a partition are among all
part_within : (all : List (List Area)) (p : ℕ) → p < length all → whole_size (take p all) + areas_size (get_or all p []) ≤ whole_size all
part_within [] p below = absurd (omega (arith, below))
part_within (areas ∷ all) zero below = omega arith
part_within (areas ∷ all) (suc p) below = omega (arith, part_within all p (omega (arith, below)))

pub area_fits : (memories : Memories) (p k : ℕ) (area : Area) → IsAreaOf memories p k area → place_at p k memories + area.size ≤ whole_size memories.areas
area_fits memories p k area is = omega (arith, area_within (areas_at p memories) k area is.there, part_within memories.areas p is.partition)

-- memories that have the areas of a configuration have each of a partition
pub area_there : (conf : Conf) (memories : Memories) (p k : ℕ) (areas : List configured.Area) (area : configured.Area) → memories.areas ≡ map memory_areas conf.parts → p < length conf.parts → areas ≡ (part_of conf p).areas
    → slice_get areas k ≡ Some area → IsAreaOf memories p k (area_of area)
unfolding part_of memory_areas
area_there conf memories p k areas area all below are there =
    let here : areas_at p memories ≡ map area_of areas =
    ap (λ (all : List (List Area)). get_or all p []) all ∙ get_or-map memory_areas conf.parts p no_part [] below ∙ ap (map area_of) (sym are) in
    record {
      partition = omega (arith, below, ap length all, length-map conf.parts memory_areas);
      there = ap (λ (a : List Area). slice_get a k) here ∙ rw (slice_get-map area_of areas k, there) refl;
    }

-- the areas of a partition are those of its configuration
pub areas_are : (system : System) (p : ℕ) (areas : List configured.Area) → areas ≡ (part_of system.conf p).areas → areas_of (view_of system p) ≡ map area_of areas
unfolding areas_of memory_areas view_of
areas_are system p areas is = ap (map area_of) (sym is)

-- one of them
pub area_found : (system : System) (p k : ℕ) (areas : List configured.Area) (area : configured.Area) → areas ≡ (part_of system.conf p).areas → slice_get areas k ≡ Some area
    → slice_get (areas_of (view_of system p)) k ≡ Some (area_of area)
area_found system p k areas area is there = ap (λ (all : List Area). slice_get all k) (areas_are system p areas is) ∙ rw (slice_get-map area_of areas k, there) refl

-- the bytes of a partition are those of its memory
pub map_there : (g : Machine) (memories : Memories) (p : ℕ) → p < length g.parts → memories.maps ≡ map (λ part. part.memory) g.parts → map_at p memories ≡ memory_of p g
map_there g memories p below maps =
    ap (λ (all : List Memory). get_or all p empty) maps ∙ get_or-map (λ part. part.memory) g.parts p (booted_part g.system p) empty below
