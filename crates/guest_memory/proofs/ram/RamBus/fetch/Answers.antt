use Rattle.std.proofs.Common.{refl}
use Rattle.guest_memory.proofs.ram.RamBus.fetch.Goals as goal

pub returns : goal.returns
returns c = record {
  value = c.fetched.ensures.value;
  memory = refl;
  areas = refl;
  others = refl;
  whole = c.fetched.ensures.memories.whole c.args.self.now.selected c.fetched.ensures.memories.selected;
}
