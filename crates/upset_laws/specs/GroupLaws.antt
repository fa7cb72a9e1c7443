-- Two runs with upsets of systems that are the same for a closed set of partitions, where what strikes the members is the same.
use Rattle.std.specs.Prelude.{◌≡◌, ℕ, ◌<◌, true}
use Rattle.machine_model.specs.Lines.{own}
use Rattle.machine_model.specs.Machine.{start}
use Rattle.machine_model.specs.View.{System}
use Rattle.xm_flows.specs.Groups.{Members}
use Rattle.xm_flows.specs.Laws.{Agree, AreClosedAlike}
use Rattle.xm_flows.specs.Rights.{IsUnsteered}
use Rattle.xm_flows.specs.Steering.{steering}
use Rattle.upset_model.specs.Upsets.{Schedule, own_strikes, ready, upset_lines, upset_run, upset_said}

-- what strikes the members before each of this many ticks is the same
abbrev pub AreStruckAlike : Members → Schedule → Schedule → ℕ → Type 0
AreStruckAlike members s t count = (p k : ℕ) → members p ≡ true → k < count → own_strikes p s k ≡ own_strikes p t k

-- each of this many ticks steers the set alike
abbrev pub AreSteeredAlikeUpset : Members → Schedule → System → Schedule → System → ℕ → Type 0
AreSteeredAlikeUpset members s one t other count =
    (k : ℕ) → k < count → steering members (ready (s k) (upset_run s (start one) k)) ≡ steering members (ready (t k) (upset_run t (start other) k))

-- after this many ticks two runs with upsets agree on a set of partitions, and each member has printed the same lines and written the same console bytes
pub record RunAlikeUpset (members : Members) (s : Schedule) (one : System) (t : Schedule) (other : System) (count : ℕ) : Type 0 where
  pub agree : Agree members (upset_run s (start one) count) (upset_run t (start other) count)
  pub lines : (p : ℕ) → members p ≡ true → own p (upset_lines s (start one) count) ≡ own p (upset_lines t (start other) count)
  pub said : (p : ℕ) → members p ≡ true → upset_said s (start one) count p ≡ upset_said t (start other) count p

-- whatever strikes the others, where each tick steers the set alike
abbrev pub ClosedUpsetRunsAlike : Type 0
ClosedUpsetRunsAlike = (members : Members) (s : Schedule) (one : System) (t : Schedule) (other : System) (count : ℕ) →
    AreClosedAlike members one other → AreStruckAlike members s t count → AreSteeredAlikeUpset members s one t other count → RunAlikeUpset members s one t other count

-- and where no partition may steer others, with no premise on the runs
abbrev pub UnsteeredUpsetRunsAlike : Type 0
UnsteeredUpsetRunsAlike = (members : Members) (s : Schedule) (one : System) (t : Schedule) (other : System) (count : ℕ) →
    AreClosedAlike members one other → AreStruckAlike members s t count → IsUnsteered one.conf → IsUnsteered other.conf → RunAlikeUpset members s one t other count
