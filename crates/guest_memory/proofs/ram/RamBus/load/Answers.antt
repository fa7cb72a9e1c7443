use Rattle.std.proofs.Common.{ap}
use Rattle.guest_memory.specs.Memories.{Memories, areas_at, map_at, others_of}
use Rattle.guest_memory.proofs.ram.RamBus.load.Goals as goal

pub returns : goal.returns
returns c = record {
  value = c.loaded.ensures.value;
  memory = ap (λ (m : Memories). map_at m.selected m) c.loaded.ensures.unchanged;
  areas = ap (λ (m : Memories). areas_at m.selected m) c.loaded.ensures.unchanged;
  others = ap others_of c.loaded.ensures.unchanged;
  whole = rw c.loaded.ensures.unchanged (c.loaded.ensures.memories.whole c.args.self.now.selected c.loaded.ensures.memories.selected);
}
