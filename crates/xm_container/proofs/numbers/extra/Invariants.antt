use Rattle.std.proofs.Common.{◌≡◌, ◌-◌}
use Rattle.xm_container.specs.Numbers.{has_id, least_where}
use Rattle.xm_container.proofs.numbers.extra.Given as goal

abbrev pub invariant-loop-id : goal.invariant-loop-id
invariant-loop-id l = least_where (has_id l.ids) l.id (256 - l.id) ≡ least_where (has_id l.ids) l.parts (256 - l.parts)
