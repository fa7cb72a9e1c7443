use Rattle.std.proofs.Common.{◌≡◌, List}
use Rattle.guest_bus.specs.Access.{fetched}
use Rattle.guest_bus.specs.Memory.{Area, Memory}
use Rattle.guest_memory.proofs.MemoriesLemmas.{as_selected, space_is}
use Rattle.guest_memory.proofs.ram.Ram.search_and_fetch.Goals as goal

pub fetch-requires : goal.fetch-requires
fetch-requires c = space_is c.args.self.now c.selected-p.result c.entries.result.now c.part.result.now c.entries.ensures.areas c.entries.ensures.placed c.entries.ensures.follow c.part.ensures.size

pub returns : goal.returns
returns c = record {
  value = as_selected (λ (a : List Area) (m : Memory). c.fetch.result ≡ fetched a m c.args.address)
      c.args.self.now c.selected-p.result c.entries.result.now c.part.result.now c.selected-p.ensures.value c.entries.ensures.areas c.part.ensures.map c.fetch.ensures.value;
}
