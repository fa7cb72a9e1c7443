use Rattle.std.proofs.Common.{◌≡◌, ◌≤◌, ◌+◌, ◌∙◌, ℕ, ap, arith, drop, length, sym, take}
use Rattle.guest_bus.specs.Memory.{bytes_at}
use Rattle.guest_bus.specs.lemmas.MemoryLemmas.{length-bytes_at}
use Rattle.guest_memory.specs.Loading.{area_of}
use Rattle.guest_memory.specs.Memories.{map_at, place_at, whole_size}
use Rattle.machine_saves.proofs.PageLemmas.{area_fits}
use Rattle.machine_saves.proofs.pages.area_bytes.Goals as goal

pub part-requires : goal.part-requires
part-requires c =
    omega (arith, c.place.ensures.value, c.size_of.ensures, c.whole.ensures.size, area_fits c.args.ram.now c.args.p c.args.number (area_of c.args.area.now) c.requires)

pub returns-clause-value : goal.returns-clause-value
returns-clause-value c =
    c.part.ensures ∙ (λ i. take (c.size_of.ensures i) (drop (c.place.ensures.value i) c.whole.result.now))
    ∙ sym (c.whole.ensures.areas c.args.p c.args.number (area_of c.args.area.now) c.requires.there)

pub returns-clause-size : goal.returns-clause-size
returns-clause-size c =
    ap length (returns-clause-value c) ∙ length-bytes_at (map_at c.args.p c.args.ram.now) c.args.area.now.start c.args.area.now.size

pub returns-clause-small : goal.returns-clause-small
returns-clause-small c = omega (arith, returns-clause-size c, c.size_of.type_inv, c.size_of.ensures)
