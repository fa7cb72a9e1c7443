-- The lines so far, and those of the partitions that follow.
use Rattle.std.proofs.Common.{◌≡◌, ◌++◌, drop}
use Rattle.xm_conf.specs.Along.{each_from}
use Rattle.builders.specs.Planning.{part_line}
use Rattle.builders.proofs.planning.put_parts.Given as goal

abbrev pub invariant-loop-id : goal.invariant-loop-id
invariant-loop-id l = l.lines.items ++ each_from (part_line l.plan) l.id (drop l.id l.parts) ≡ each_from (part_line l.plan) 0 l.parts
