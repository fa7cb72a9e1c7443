-- The memories of the system's partitions, as they are kept.
use Rattle.std.proofs.Common.{◌≡◌, ℕ, ◌<◌, true, List, [], length, map, get_or, None, Result, Ok, Err, sym, ap, ◌∙◌, arith}
use Rattle.std.proofs.lemmas.List.{get_or-map, length-map}
use Rattle.std.specs.FinMap.{empty}
use Rattle.guest_bus.specs.Memory.{Area, Memory, all_from, is_readable}
use Rattle.guest_memory.specs.Loading.{memory_areas}
use Rattle.guest_memory.specs.Memories.{Memories, answer_by, areas_at, first_refused, map_at}
use Rattle.guest_memory.specs.lemmas.RefusedLemmas.{none_refused}
use Rattle.guest_memory.specs.declared.outside.Outside.{Outside}
use Rattle.machine_model.specs.Machine.{Machine, booted_part}
use Rattle.machine_model.specs.View.{no_part, part_of}
use Rattle.system_state.specs.State.{areas_in, memory_of}

module _ (g : Machine) (memories : Memories) (p : ℕ) (below : p < length g.parts) (counted : length g.parts ≡ length g.system.conf.parts) where
  -- a partition has areas
  pub below_areas : memories.areas ≡ map memory_areas g.system.conf.parts → p < length memories.areas
  below_areas areas = omega (arith, below, counted, ap length areas, length-map g.system.conf.parts memory_areas)

  -- which are those of its entry
  pub areas_there : memories.areas ≡ map memory_areas g.system.conf.parts → areas_at p memories ≡ areas_in p g
  unfolding part_of
  areas_there areas =
      ap (λ (all : List (List Area)). get_or all p []) areas
      ∙ get_or-map memory_areas g.system.conf.parts p no_part [] (omega (arith, below, counted))

  -- and its bytes are those of its memory
  pub map_there : memories.maps ≡ map (λ part. part.memory) g.parts → map_at p memories ≡ memory_of p g
  map_there maps =
      ap (λ (all : List Memory). get_or all p empty) maps
      ∙ get_or-map (λ part. part.memory) g.parts p (booted_part g.system p) empty below

  -- a range that may be read is not refused
  pub not_refused : (result : Result (Unit {0}) Outside) (fault : Outside) (at count : ℕ) → memories.areas ≡ map memory_areas g.system.conf.parts → all_from (is_readable (areas_in p g)) at count ≡ true
      → result ≡ answer_by (first_refused (is_readable (areas_at p memories)) at count) → result ≡ Err fault → ⊥
  not_refused result fault at count areas readable answer refused =
      let none : first_refused (is_readable (areas_at p memories)) at count ≡ None =
      ap (λ (a : List Area). first_refused (is_readable a) at count) (areas_there areas) ∙ none_refused (is_readable (areas_in p g)) at count readable in
      let both : answer_by (first_refused (is_readable (areas_at p memories)) at count) ≡ Ok tt = ap answer_by none in
      let wrong : Ok tt ≡ Err fault = sym both ∙ sym answer ∙ refused in
      absurd (cc)
