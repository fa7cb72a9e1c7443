-- The lines so far, and those of the slots that follow.
use Rattle.std.proofs.Common.{◌≡◌, ◌++◌, drop}
use Rattle.xm_conf.specs.Along.{each_from}
use Rattle.builders.specs.Planning.{slot_line}
use Rattle.builders.proofs.planning.put_slots.Given as goal

abbrev pub invariant-loop-id : goal.invariant-loop-id
invariant-loop-id l = l.lines.items ++ each_from slot_line l.id (drop l.id l.slots) ≡ l.fn.lines.items ++ each_from slot_line 0 l.slots
