use Rattle.std.proofs.Common.{◌≡◌, List}
use Rattle.guest_bus.specs.Access.{loaded}
use Rattle.guest_bus.specs.Memory.{Area, Memory}
use Rattle.guest_memory.proofs.MemoriesLemmas.{as_selected, space_is}
use Rattle.guest_memory.proofs.ram.Ram.search_and_load.Goals as goal

pub load-requires : goal.load-requires
load-requires c = space_is c.args.self.now c.selected-p.result c.entries.result.now c.part.result.now c.entries.ensures.areas c.entries.ensures.placed c.entries.ensures.follow c.part.ensures.size

pub returns : goal.returns
returns c = record {
  value = as_selected (λ (a : List Area) (m : Memory). c.load.result ≡ loaded a m c.args.address c.args.size)
      c.args.self.now c.selected-p.result c.entries.result.now c.part.result.now c.selected-p.ensures.value c.entries.ensures.areas c.part.ensures.map c.load.ensures.value;
}
