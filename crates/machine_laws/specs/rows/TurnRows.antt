-- Rows on whose slot a moment of a plan is in.
use Rattle.std.specs.Prelude.{◌≡◌, ℕ, Bool, true, false, [], ◌∷◌, Option, None, Some}
use Rattle.xm_conf.specs.Configuration.{Conf}
use Rattle.machine_model.specs.Machine.{SlotTurn}
use Rattle.machine_model.specs.rows.Rows.{halves, slot, small_conf}
use Rattle.machine_laws.specs.Planned.{planned_turn}

-- two plans: in plan 0 each of two partitions has two ticks of four, and in plan 1 partition 1 has the second of three ticks
abbrev pub two_plans : Conf
two_plans = small_conf (halves ∷ record { frame = 3; slots = slot 1 1 1 ∷ [] } ∷ []) [] []

-- a turn of partition p
abbrev pub turn : ℕ → Bool → Option SlotTurn
turn p first = Some (record { part = p; first = first })

-- each moment of both plans
pub record TurnsOfTwoPlans : Type 0 where
  pub begins : planned_turn two_plans 0 0 ≡ turn 0 true
  pub goes_on : planned_turn two_plans 0 1 ≡ turn 0 false
  pub second_begins : planned_turn two_plans 0 2 ≡ turn 1 true
  pub second_goes_on : planned_turn two_plans 0 3 ≡ turn 1 false
  pub gap : planned_turn two_plans 1 0 ≡ None
  pub other_plan : planned_turn two_plans 1 1 ≡ turn 1 true
  pub later_gap : planned_turn two_plans 1 2 ≡ None
  pub no_plan : planned_turn two_plans 2 0 ≡ None
