-- The multiples so far are not divided.
use Rattle.std.proofs.Common.{◌≡◌, ◌-◌, ◌<◌, ◌≤◌}
use Rattle.plan_maker.specs.Needed.{first_divided}
use Rattle.plan_maker.proofs.period.first_divided.Given as goal

abbrev pub invariant-loop : goal.invariant-loop
invariant-loop l =
    (first_divided (l.divisor - l.counter) l.step l.divisor l.multiple ≡ first_divided (l.divisor - 1) l.step l.divisor l.step) × (0 < l.multiple) × (l.multiple ≤ 1001000000)
