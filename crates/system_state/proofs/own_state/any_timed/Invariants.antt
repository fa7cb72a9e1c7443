use Rattle.std.proofs.Common.{◌≡◌, ◌-◌, ◌≤◌, drop, length}
use Rattle.std.specs.List.{list_any}
use Rattle.system_state.specs.State.{is_timed}
use Rattle.system_state.proofs.own_state.any_timed.Given as goal

abbrev pub invariant-loop-at : goal.invariant-loop-at
invariant-loop-at l = record {
  within : l.at ≤ length l.parts;
  rest : list_any (λ own. is_timed own.clocks) l.parts ≡ list_any (λ own. is_timed own.clocks) (drop l.at l.parts);
}

abbrev pub decreases-loop-at : goal.decreases-loop-at
decreases-loop-at l = length l.parts - l.at
