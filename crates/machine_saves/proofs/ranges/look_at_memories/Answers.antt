use Rattle.machine_saves.proofs.RangeLemmas.{memories_in_range}
use Rattle.machine_saves.proofs.ranges.look_at_memories.Goals as goal

pub returns : goal.returns
returns c =
    memories_in_range c.args.sys.now.machine c.ram-now.result.now c.args.loaded.now c.count-count.ensures.parts c.ram-now.ensures.areas c.ram-now.ensures.maps c.selected-now.ensures.memories c.requires c.selected-before.ensures.memories
