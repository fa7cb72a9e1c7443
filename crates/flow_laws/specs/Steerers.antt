-- Two runs are steered alike where each partition that may steer others receives the same in both.
use Rattle.std.specs.Prelude.{◌≡◌, ℕ, map}
use Rattle.machine_model.specs.Laws.{AreAlike}
use Rattle.machine_model.specs.View.{System, view_of}
use Rattle.xm_flows.specs.Groups.{Members}
use Rattle.xm_flows.specs.Laws.{AreClosedAlike, AreSteeredAlike, RunAlike}
use Rattle.xm_flows.specs.Rights.{MaySteer}

-- the plans have the same frames, and each partition that may steer others in one of the systems has the same things of its own in both and receives the
-- same in both runs
pub record AreSteerersAlike (one other : System) (count : ℕ) : Type 0 where
  pub frames : map (λ plan. plan.frame) one.conf.plans ≡ map (λ plan. plan.frame) other.conf.plans
  pub steerers : (p : ℕ) → MaySteer (view_of one p) → AreAlike one other p count
  pub steerers_back : (p : ℕ) → MaySteer (view_of other p) → AreAlike one other p count

-- then each tick steers each set of partitions alike
abbrev pub SteerersAlike : Type 0
SteerersAlike = (members : Members) (one other : System) (count : ℕ) → AreSteerersAlike one other count → AreSteeredAlike members one other count

-- so two runs of systems that are the same for a closed set are alike for it, where the steerers receive the same
abbrev pub SteeredRunsAlike : Type 0
SteeredRunsAlike = (members : Members) (one other : System) (count : ℕ) → AreClosedAlike members one other → AreSteerersAlike one other count → RunAlike members one other count
