-- Numbers that are looked at one after another are in range, and so all are.
use Rattle.std.proofs.Common.{◌≡◌, ◌≢◌, ℕ, zero, suc, ◌+◌, ◌-◌, ◌^◌, ◌<◌, ◌≤◌, false, true, List, [], ◌∷◌, length, map, get_or, Option, None, Some, refl, sym, ap, subst, ◌∙◌, arith, below_more}
use Rattle.std.specs.Prelude.{All, Err, IfOk, IfSome, IsSomeAnd, Ok, Result, nat_lt, slice_get, unwrap_or}
use Rattle.std.proofs.lemmas.Bool.Decides.{nat_tests}
use Rattle.std.proofs.lemmas.List.{get_or-map, length-map}
use Rattle.std.proofs.lemmas.Option.{get_or_from_slice_get, slice_get-get_or, slice_get_within}
use Rattle.std.specs.FinMap.{empty}
use Rattle.guest_bus.specs.Memory.{Area, Memory}
use Rattle.guest_bus.specs.Whole.{IsMemoryOf}
use Rattle.guest_memory.specs.Loading.{memory_areas}
use Rattle.guest_memory.specs.Memories.{AreMemories, Memories, areas_at, map_at}
use Rattle.machine_model.specs.Machine.{Machine}
use Rattle.machine_model.specs.Partition.{PartitionState}
use Rattle.machine_model.specs.View.{no_part, part_of}
use Rattle.saved_machines.specs.Savable.{IsSavedContent, IsSavedMachine, IsSavedState}
use Rattle.saved_machines.specs.Saving.{loaded_of}
use Rattle.xm_conf.specs.declared.channel.ChanKind.{ChanKind}
use Rattle.xm_conf.specs.declared.channel.ChanKind.TheVariants as chan_kind
use Rattle.xm_ports.specs.Channels.{ChannelTable, Content, IsTable, Queuing, Sampling, Shape, Suits, SuitsKind, content_at}
use Rattle.xm_traces.specs.Ring.{IsKept, Kept, entry_at, first_kept}
use Rattle.machine_saves.specs.Loaded.{AreLoaded}
use Rattle.machine_saves.specs.lemmas.SaveTerms.{EachBelow, HaveMemories, HaveStates}

-- what holds anyway holds where a call went well
pub if_ok : {T E : Type 0} (result : Result T E) (P : Type 0) → P → IfOk result (λ value. P)
if_ok (Ok value) P holds = holds
if_ok (Err fault) P holds = tt

-- one element more
pub each_more : {X : Type 0} (P : X → Type 0) (xs : List X) (n : ℕ) (y : X) → slice_get xs n ≡ Some y → P y → EachBelow P n xs → EachBelow P (n + 1) xs
each_more P xs n y there is before =
    λ k x below at.
    below_more (λ k. (x : _) → slice_get xs k ≡ Some x → P x) n (λ k lt x at. before k x lt at)
    (λ x at. subst P (let both : Some y ≡ Some x = sym there ∙ at in cc) is) k below x at

-- all elements
pub all_of_each : {X : Type 0} (P : X → Type 0) (xs : List X) (n : ℕ) → length xs ≤ n → EachBelow P n xs → All P xs
all_of_each P xs n past each = λ k d below. each k (get_or xs k d) (omega (arith, below, past)) (slice_get-get_or xs k d below)

-- a place that has no element is past the end
pub none_past : {X : Type 0} (xs : List X) (i : ℕ) → slice_get xs i ≡ None → length xs ≤ i
none_past [] i none = omega arith
none_past (x ∷ xs) zero none = absurd cc
none_past (x ∷ xs) (suc i) none = omega (arith, none_past xs i none)

-- an entry that a log keeps is found by its number
pub entry_there : {T : Type 0} (kept : Kept T) (place : ℕ) → IsKept kept → place < length kept.entries → entry_at (first_kept kept + place) kept ≡ slice_get kept.entries place
unfolding entry_at
entry_there kept place is below =
    let many : length kept.entries ≤ kept.next = omega (arith, is.count) in
    let not_old : nat_lt (first_kept kept + place) (first_kept kept) ≡ false = grind (arith, nat_tests) in
    let not_new : nat_lt (first_kept kept + place) kept.next ≡ true = grind (arith, nat_tests, many, below) in
    let at : first_kept kept + place - first_kept kept ≡ place = omega arith in
    rw (not_old, not_new, at) refl

-- what a queue holds has no time
pub queue_in_range : (table : ChannelTable) (c most : ℕ) → IsTable table → IsSomeAnd (slice_get table.shapes c) (λ shape. shape.kind ≡ chan_kind.Queuing most) → IsSavedContent (content_at c table)
queue_in_range table c most is there = at (slice_get table.shapes c) (slice_get table.contents c) (is.contents c) there
  where
    at : (shape : Option Shape) (content : Option Content) → IfSome shape (λ shape. IfSome content (Suits shape)) → IsSomeAnd shape (λ shape. shape.kind ≡ chan_kind.Queuing most)
        → IsSavedContent (unwrap_or content (Queuing []))
    at None content suits there = absurd there
    at (Some shape) None suits there = tt
    at (Some shape) (Some (Queuing messages)) suits there = tt
    at (Some shape) (Some (Sampling sample)) suits there = absurd (subst (λ (kind : ChanKind). SuitsKind kind shape.length (Sampling sample)) there suits.held)

-- the areas of a partition that there is, of memories that have those of the configuration
areas_there : (g : Machine) (memories : Memories) (p : ℕ) → p < length g.system.conf.parts → memories.areas ≡ map memory_areas g.system.conf.parts → areas_at p memories ≡ memory_areas (part_of g.system.conf p)
unfolding part_of
areas_there g memories p below areas = ap (λ (all : List (List Area)). get_or all p []) areas ∙ get_or-map memory_areas g.system.conf.parts p no_part [] below

-- so a memory of them is a memory of these areas
memory_whole : (g : Machine) (memories : Memories) (p : ℕ) (memory : Memory) → p < length g.system.conf.parts → memories.areas ≡ map memory_areas g.system.conf.parts → AreMemories memories → map_at p memories ≡ memory
    → IsMemoryOf (memory_areas (part_of g.system.conf p)) memory
memory_whole g memories p memory below areas are there =
    let counted : length memories.areas ≡ length g.system.conf.parts = ap length areas ∙ length-map g.system.conf.parts memory_areas in
    subst (λ (those : List Area). IsMemoryOf those memory) (areas_there g memories p below areas)
    (subst (λ (held : Memory). IsMemoryOf (areas_at p memories) held) there (are.whole p (omega (arith, below, counted))))

-- each partition has its memory, and so it was loaded
pub memories_in_range : (g : Machine) (now before : Memories) → length g.parts ≡ length g.system.conf.parts → now.areas ≡ map memory_areas g.system.conf.parts → now.maps ≡ map (λ part. part.memory) g.parts → AreMemories now
    → AreLoaded g.system before → AreMemories before → HaveMemories g
memories_in_range g now before counted areas maps are loaded were p ps there =
    let inside = slice_get_within g.parts p ps there in
    let below : p < length g.system.conf.parts = omega (arith, inside, counted) in
    let held = ap (λ (all : List Memory). get_or all p empty) maps ∙ get_or-map (λ (part : PartitionState). part.memory) g.parts p ps empty inside
    ∙ ap (λ (part : PartitionState). part.memory) (get_or_from_slice_get g.parts p ps ps there) in
    record { now = memory_whole g now p ps.memory below areas are held; loaded = memory_whole g before p (loaded_of g.system p) below loaded.areas were (loaded.maps p below) }

-- the whole machine
pub machine_in_range : (g : Machine) → g.resets < 2 ^ 32 → EachBelow IsSavedContent (length g.system.conf.chans) g.channels → HaveStates (length g.parts) g → HaveMemories g → IsSavedMachine g
machine_in_range g resets contents states memories = record {
  resets = resets;
  contents = contents;
  parts = λ p ps there. subst IsSavedState (get_or_from_slice_get g.parts p ps _ there) (states p (slice_get_within g.parts p ps there));
  memories = memories;
}
