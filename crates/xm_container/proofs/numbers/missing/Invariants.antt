use Rattle.std.proofs.Common.{◌≡◌, ◌-◌, not}
use Rattle.xm_container.specs.Numbers.{has_id, least_where}
use Rattle.xm_container.proofs.numbers.missing.Given as goal

abbrev pub invariant-loop-id : goal.invariant-loop-id
invariant-loop-id l = least_where (λ id. not (has_id l.ids id)) l.id (l.parts - l.id) ≡ least_where (λ id. not (has_id l.ids id)) 0 l.parts
