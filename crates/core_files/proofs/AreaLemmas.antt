-- The areas of a partition: they can be read, and stand one after another.
use Rattle.std.proofs.Common.{◌≡◌, ℕ, zero, suc, ◌+◌, ◌<◌, ◌≤◌, Bool, true, false, ◌||◌, List, [], ◌∷◌, ◌++◌, length, map, take, get_or, refl, sym, ap, ◌∙◌, arith}
use Rattle.std.specs.List.{flat_map, list_any, sum_by}
use Rattle.std.proofs.lemmas.Bool.Decides.{nat_tests}
use Rattle.std.proofs.lemmas.List.{get_or-map, length-map}
use Rattle.std.proofs.lemmas.List.Sums.{sum_by_more, sum_by_more_le}
use Rattle.guest_bus.specs.Memory.{Area, Memory, all_from, holds_address, is_readable}
use Rattle.guest_memory.specs.Loading.{area_of, memory_areas as part_areas}
use Rattle.machine_model.specs.CoreFile.{area_bytes}
use Rattle.machine_model.specs.Machine.{Machine}
use Rattle.machine_model.specs.Partition.{areas_of}
use Rattle.machine_model.specs.View.{System, part_of, view_of}
use Rattle.system_state.specs.State.{areas_in}
use Rattle.xm_conf.specs.declared.part.Area as configured
use Rattle.core_files.specs.Length.{area_length}
use Rattle.core_files.proofs.WritingLemmas.{element_written}

-- what one element passes
any_at : {X : Type 0} (test : X → Bool) (xs : List X) (i : ℕ) (d : X) → i < length xs → test (get_or xs i d) ≡ true → list_any test xs ≡ true
any_at test [] i d below passes = absurd (omega (arith, below))
any_at test (x ∷ xs) zero d below passes = rw passes refl
any_at test (x ∷ xs) (suc i) d below passes = at (test x) (any_at test xs i d (omega (arith, below)) passes)
  where
    at : (first : Bool) → list_any test xs ≡ true → (first || list_any test xs) ≡ true
    at true later = refl
    at false later = later

-- addresses inside of one of the areas
inside : (areas : List Area) (i : ℕ) (d : Area) → i < length areas → (address count : ℕ) → (get_or areas i d).start ≤ address → address + count ≤ (get_or areas i d).start + (get_or areas i d).size
    → all_from (is_readable areas) address count ≡ true
inside areas i d below address zero from to = refl
inside areas i d below address (suc count) from to =
    let covered : holds_address address (get_or areas i d) ≡ true = grind (arith, nat_tests, from, to) in
    let here : is_readable areas address ≡ true = any_at (holds_address address) areas i d below covered in
    rw here (inside areas i d below (suc address) count (omega (arith, from)) (omega (arith, to)))

module _ (areas : List configured.Area) (i : ℕ) (d : configured.Area) (below : i < length areas) where
  -- an area of the configuration is one of the memory
  mapped : get_or (map area_of areas) i (area_of d) ≡ area_of (get_or areas i d)
  mapped = get_or-map area_of areas i d (area_of d) below

  -- and there are as many
  mapped_below : i < length (map area_of areas)
  mapped_below = omega (arith, below, length-map areas area_of)

  -- it can be read
  pub area_readable : all_from (is_readable (map area_of areas)) (get_or areas i d).start (get_or areas i d).size ≡ true
  area_readable =
      let start : (get_or (map area_of areas) i (area_of d)).start ≡ (get_or areas i d).start = ap (λ (a : Area). a.start) mapped in
      let size : (get_or (map area_of areas) i (area_of d)).size ≡ (get_or areas i d).size = ap (λ (a : Area). a.size) mapped in
      inside (map area_of areas) i (area_of d) mapped_below (get_or areas i d).start (get_or areas i d).size (omega (arith, start)) (omega (arith, start, size))

  -- the length of one area more
  pub area_more : sum_by area_length (take (i + 1) (map area_of areas)) ≡ sum_by area_length (take i (map area_of areas)) + (8 + (get_or areas i d).size)
  area_more =
      sum_by_more area_length (map area_of areas) i (area_of d) mapped_below
      ∙ ap (λ (a : Area). sum_by area_length (take i (map area_of areas)) + area_length a) mapped

  -- which is within that of all
  pub area_fits : sum_by area_length (take i (map area_of areas)) + (8 + (get_or areas i d).size) ≤ sum_by area_length (map area_of areas)
  area_fits =
      let size : (get_or (map area_of areas) i (area_of d)).size ≡ (get_or areas i d).size = ap (λ (a : Area). a.size) mapped in
      omega (arith, sum_by_more_le area_length (map area_of areas) i (area_of d) mapped_below, size)

  -- one area more is written
  pub area_written : (memory : Memory) (start mid new : List ℕ) → mid ≡ start ++ flat_map (area_bytes memory) (take i (map area_of areas)) → new ≡ mid ++ area_bytes memory (area_of (get_or areas i d))
      → new ≡ start ++ flat_map (area_bytes memory) (take (i + 1) (map area_of areas))
  area_written memory start mid new first second =
      element_written (area_bytes memory) start mid new (map area_of areas) i (area_of d) mapped_below first
      (second ∙ ap (λ (a : Area). mid ++ area_bytes memory a) (sym mapped))

-- the areas of a partition are those of its configuration
pub areas_are : (system : System) (p : ℕ) (areas : List configured.Area) → areas ≡ (part_of system.conf p).areas → areas_of (view_of system p) ≡ map area_of areas
unfolding areas_of part_areas view_of
areas_are system p areas is = ap (map area_of) (sym is)

-- so are those of its memory
pub areas_in_are : (g : Machine) (p : ℕ) (areas : List configured.Area) → areas ≡ (part_of g.system.conf p).areas → areas_in p g ≡ map area_of areas
unfolding part_areas
areas_in_are g p areas is = ap (map area_of) (sym is)
