use Rattle.guest_memory.proofs.MemoriesLemmas.{whole_areas, whole_bytes}
use Rattle.guest_memory.proofs.ram.Ram.whole.Goals as goal

pub returns : goal.returns
returns c = record {
  size = rw (← c.self.view_is, c.deref.ensures.value) c.self.invariant.kept.whole;
  bytes = rw (← c.self.view_is, c.deref.ensures.value) (whole_bytes c.self.inside.tables.items c.self.inside.bytes.items c.self.inside.selected c.self.invariant.kept);
  areas = rw (← c.self.view_is, c.deref.ensures.value) (whole_areas c.self.inside.tables.items c.self.inside.bytes.items c.self.inside.selected c.self.invariant.kept);
}
