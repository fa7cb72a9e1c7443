use Rattle.std.proofs.Common.{◌≡◌, drop, sum_by}
use Rattle.xm_conf.specs.lemmas.Room.{room_after}
use Rattle.xm_conf.specs.Rules as rules
use Rattle.xm_conf.proofs.rules.areas.room_left_all.Given as goal

abbrev pub invariant-loop-part : goal.invariant-loop-part
invariant-loop-part l = room_after l.room (sum_by rules.part_size (drop l.part-index l.parts)) ≡ room_after l.fn.room (sum_by rules.part_size l.parts)
