-- The lines so far, and those of the partitions that follow.
use Rattle.std.proofs.Common.{◌≡◌, ◌++◌, drop}
use Rattle.xm_conf.specs.Along.{each_from}
use Rattle.builders.specs.Grouping.{group_line_in}
use Rattle.builders.proofs.grouping.put_groups.Given as goal

abbrev pub invariant-loop-p : goal.invariant-loop-p
invariant-loop-p l = l.lines.items ++ each_from (group_line_in l.conf) l.p (drop l.p l.parts) ≡ each_from (group_line_in l.conf) 0 l.parts
