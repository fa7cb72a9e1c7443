-- The lines so far, and those of the partitions that follow.
use Rattle.std.proofs.Common.{◌≡◌, ◌++◌, drop}
use Rattle.xm_conf.specs.Along.{each_from}
use Rattle.builders.specs.Steering.{steering_lines}
use Rattle.builders.proofs.steering.put_parts.Given as goal

abbrev pub invariant-loop-p : goal.invariant-loop-p
invariant-loop-p l = l.lines.items ++ each_from steering_lines l.p (drop l.p l.parts) ≡ l.fn.lines.items ++ each_from steering_lines 0 l.parts
