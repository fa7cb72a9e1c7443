use Rattle.std.proofs.Common.{◌≡◌, ℕ, ◌*◌, ◌<◌, ◌≤◌, List, map, length, replicate, All, ap, ◌∙◌, arith, refl, subst, sym}
use Rattle.std.proofs.lemmas.List.{length-map}
use Rattle.std.proofs.lemmas.Option.{slice_get_read}
use Rattle.guest_bus.specs.Memory.{Area}
use Rattle.guest_memory.specs.Loading.{memory_areas}
use Rattle.guest_memory.specs.Memories.{ArePlaced, Memories}
use Rattle.predecoded_memory.specs.Shares.{AreParts, share_for, widest}
use Rattle.predecoded_memory.proofs.FirstLemmas.{first_kept}
use Rattle.predecoded_memory.proofs.ShareLemmas.{shares_fit}
use Rattle.predecoded_memory.proofs.predecoded.PredecodedRam.new.Goals as goal

pub rows_of-requires-clause-placed : goal.rows_of-requires-clause-placed
rows_of-requires-clause-placed c =
    let areas : c.in_ok-ram.ram.areas ≡ map memory_areas c.parts_of-described.result.now = ap (λ (m : Memories). m.areas) c.in_ok-ram.ensures.value ∙ ap (map memory_areas) (sym c.parts_of-described.ensures) in
    subst (λ (all : List (List Area)). All ArePlaced all) areas c.selected-zeros.ensures.memories.placed

pub rows_of-requires-clause-share : goal.rows_of-requires-clause-share
rows_of-requires-clause-share c = rw c.share_for-share.ensures (shares_fit (length c.parts_of-described.result.now) c.widest.result)

pub overflow_mul-described : goal.overflow_mul-described
overflow_mul-described c =
    let few : length c.parts_of-described.result.now * c.share_for-share.result ≤ 1048576 = rw c.share_for-share.ensures (shares_fit (length c.parts_of-described.result.now) c.widest.result) in
    omega (arith, few)

pub invariant_of-result : goal.invariant_of-result
invariant_of-result c =
    let areas : c.in_ok-ram.ram.areas ≡ map memory_areas c.parts_of-described.result.now = ap (λ (m : Memories). m.areas) c.in_ok-ram.ensures.value ∙ ap (map memory_areas) (sym c.parts_of-described.ensures) in
    let counted : length c.in_ok-ram.ram.areas ≡ length c.parts_of-described.result.now = ap length areas ∙ length-map c.parts_of-described.result.now memory_areas in
    let wide : c.widest.result ≡ widest 0 c.in_ok-ram.ram.areas = c.widest.ensures ∙ ap (widest 0) (sym areas) in
    let selected = ap (λ (m : Memories). m.selected) c.in_ok-ram.ensures.value in
    let known = subst (λ (all : List (List Area)). AreParts c.share_for-share.result all c.in_ok-parts.parts.items) (sym areas) c.in_ok-parts.ensures in
    let some : 0 < length c.in_ok-parts.parts.items = omega (arith, c.selected-zeros.ensures.memories.selected, selected, known.counted) in
    first_kept c.in_ok-ram.ram c.in_ok-rows.rows.items c.in_ok-lengths.lengths.items c.in_ok-parts.parts.items c.share_for-share.result c.index-own.result.now c.selected-zeros.ensures.memories selected c.in_ok-rows.ensures.empty (c.in_ok-rows.ensures.counted ∙ ap (λ (n : ℕ). n * c.share_for-share.result) (sym counted))
    (c.in_ok-lengths.ensures ∙ ap (λ (n : ℕ). replicate n 255) (sym c.in_ok-rows.ensures.counted))
    (c.share_for-share.ensures ∙ ap (share_for (length c.parts_of-described.result.now)) wide ∙ ap (λ (n : ℕ). share_for n (widest 0 c.in_ok-ram.ram.areas)) (sym counted)) known (slice_get_read c.in_ok-parts.parts.items (length c.in_ok-parts.parts.items) 0 c.index-own.result.now refl some c.index-own.ensures)
