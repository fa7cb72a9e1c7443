use Rattle.machine_saves.proofs.RangeLemmas.{machine_in_range}
use Rattle.machine_saves.proofs.ranges.look_at_machine.Goals as goal

pub returns : goal.returns
returns c = machine_in_range c.args.sys.now.machine (rw c.resets.ensures.value at c.look_at_word.ensures) c.look_at_contents.ensures c.look_at_parts.ensures c.look_at_memories.ensures
