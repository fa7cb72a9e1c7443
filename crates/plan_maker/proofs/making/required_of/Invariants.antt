-- The requirements so far, and those of the partitions that follow.
use Rattle.std.proofs.Common.{◌≡◌, ◌++◌, ◌≤◌, drop, length, vec_capacity, vec_len}
use Rattle.xm_conf.specs.Along.{each_from}
use Rattle.plan_maker.specs.Needed.{required_by}
use Rattle.plan_maker.proofs.making.required_of.Given as goal

abbrev pub invariant-loop-number : goal.invariant-loop-number
invariant-loop-number l =
    (l.found.items ++ each_from required_by l.number (drop l.number l.parts) ≡ each_from required_by 0 l.parts) × (vec_len l.found ≤ l.number) × (length l.parts ≤ vec_capacity l.found)
