-- What the rules of a configuration say of one of its plans.
use Rattle.std.proofs.Common.{◌≡◌, ℕ, ◌<◌, ◌≤◌, [], length, Some, ap, sym, ◌∙◌, arith}
use Rattle.std.specs.Prelude.{All, slice_get, slice_index_or}
use Rattle.std.proofs.lemmas.Option.{slice_get-get_or}
use Rattle.xm_conf.specs.Configuration.{Conf, Plan}
use Rattle.xm_conf.specs.Description.{described}
use Rattle.xm_conf.specs.Fits.{Fits, InFrame, InTurn}
use Rattle.cyclic_plans.specs.PlanClock.{IsInFrame, frame_from}
use Rattle.cyclic_plans.specs.Slots.{slots_of, frame_of, slots_in, frame_in}

-- a plan that meets the rules
pub record IsPlan (conf : Conf) (n : ℕ) : Type 0 where
  pub few : length (slots_of conf n) ≤ 64
  pub frame : 0 < frame_of conf n
  pub inside : All (InFrame (frame_of conf n)) (slots_of conf n)
  pub in_turn : InTurn (slots_of conf n)

-- the plans of a configuration that meets the rules meet them
pub plan_fits : (conf : Conf) (n : ℕ) → Fits (described conf) → n < length conf.plans → IsPlan conf n
unfolding described slots_of frame_of
plan_fits conf n fits below =
    let none : Plan = record { frame = 0; slots = [] } in
    let there = slice_get-get_or conf.plans n none below in
    record {
      few = rw there (fits.counts.slots n none below).few;
      frame = rw there (fits.frames n none below).some;
      inside = rw there (fits.slots_inside n none below);
      in_turn = rw there (fits.slots_in_turn n none below);
    }

-- a plan stands at its number
pub record PlanStandsAt (conf : Conf) (n : ℕ) (plan : Plan) : Type 0 where
  pub slots : slots_of conf n ≡ plan.slots
  pub frame : frame_of conf n ≡ plan.frame
  pub few : length plan.slots ≤ 64

-- the element at a place is the plan of that number
pub stands_at : (conf : Conf) (n : ℕ) (plan : Plan) → Fits (described conf) → n < length conf.plans → plan ≡ slice_index_or conf.plans n plan → PlanStandsAt conf n plan
unfolding slots_of frame_of
stands_at conf n plan fits below is =
    let there : slice_get conf.plans n ≡ Some plan = slice_get-get_or conf.plans n plan below ∙ ap (λ (p : Plan). Some p) (sym is) in
    let slots : slots_in (slice_get conf.plans n) ≡ plan.slots = ap slots_in there in
    record { slots = slots; frame = ap frame_in there; few = let few = (plan_fits conf n fits below).few in omega (arith, ap length slots, few) }

-- the tick with which a frame of one of the plans begins is in that frame
pub begins_in_frame : (conf : Conf) (plan start : ℕ) → Fits (described conf) → plan < length conf.plans → IsInFrame conf (frame_from plan start) start
begins_in_frame conf plan start fits below =
    let frame = (plan_fits conf plan fits below).frame in
    record { plan = below; begun = omega arith; before_end = omega (arith, frame) }
