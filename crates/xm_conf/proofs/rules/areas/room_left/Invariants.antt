use Rattle.std.proofs.Common.{◌≡◌, drop, sum_by}
use Rattle.xm_conf.specs.lemmas.Room.{room_after}
use Rattle.xm_conf.proofs.rules.areas.room_left.Given as goal

abbrev pub invariant-loop-area : goal.invariant-loop-area
invariant-loop-area l = room_after l.room (sum_by (λ area. area.size) (drop l.area-index l.areas)) ≡ room_after l.fn.room (sum_by (λ area. area.size) l.areas)
