-- The laws on groups: two runs of systems that are the same for a closed set are the same for it, and its messages are derived.
use Rattle.std.specs.Prelude.{◌≡◌, ◌↔◌, ℕ, ◌<◌, true, length, Some, slice_get}
use Rattle.xm_conf.specs.Configuration.{Chan, Conf}
use Rattle.xm_conf.specs.Description.{described}
use Rattle.xm_conf.specs.Fits.{Fits}
use Rattle.machine_model.specs.Lines.{lines, own, said}
use Rattle.machine_model.specs.Machine.{Machine, run, start}
use Rattle.machine_model.specs.View.{System}
use Rattle.xm_flows.specs.Alike.{AreSameFor}
use Rattle.xm_flows.specs.Groups.{IsClosed, IsGroupOf, Members, has_end_in}
use Rattle.xm_flows.specs.Masks.{group_of, members_of}
use Rattle.xm_flows.specs.Rights.{IsUnsteered}
use Rattle.xm_flows.specs.Steering.{no_steering, steering}
use Rattle.xm_flows.specs.declared.answer.Group.{Group}

-- a channel with an end at a member holds the same in two machines; channels are one where they have one source
abbrev pub HoldTheSame : Members → Machine → Machine → Type 0
HoldTheSame members one other =
    (c d : ℕ) (chan counterpart : Chan) → slice_get one.system.conf.chans c ≡ Some chan → slice_get other.system.conf.chans d ≡ Some counterpart
    → chan.source ≡ counterpart.source → has_end_in members chan ≡ true → slice_get one.channels c ≡ slice_get other.channels d

-- two machines agree on a set of partitions: each member has the same state, each channel with an end at a member holds the same, as many ticks are done,
-- the clocks show the same, the same plan runs in a frame that began with the same tick, and both have halted or neither. The plan that is asked for is not compared
pub record Agree (members : Members) (one other : Machine) : Type 0 where
  pub states : (p : ℕ) → members p ≡ true → slice_get one.parts p ≡ slice_get other.parts p
  pub channels : HoldTheSame members one other
  pub ticks : one.ticks ≡ other.ticks
  pub time : one.time ≡ other.time
  pub plan : one.clock.plan ≡ other.clock.plan
  pub frame_start : one.clock.frame_start ≡ other.clock.frame_start
  pub halted : one.halted ≡ other.halted

-- each tick of this many steers a set of partitions alike in two runs
abbrev pub AreSteeredAlike : Members → System → System → ℕ → Type 0
AreSteeredAlike members one other count = (k : ℕ) → k < count → steering members (run (start one) k) ≡ steering members (run (start other) k)

-- two systems that meet the rules and that are the same for a set of partitions of both, which is closed in both
pub record AreClosedAlike (members : Members) (one other : System) : Type 0 where
  pub fits_one : Fits (described one.conf)
  pub fits_other : Fits (described other.conf)
  pub in_one : (p : ℕ) → members p ≡ true → p < length one.conf.parts
  pub in_other : (p : ℕ) → members p ≡ true → p < length other.conf.parts
  pub closed_one : IsClosed one.conf members
  pub closed_other : IsClosed other.conf members
  pub same : AreSameFor members one other

-- after this many ticks two runs agree on a set of partitions, and each member has printed the same lines and written the same console bytes
pub record RunAlike (members : Members) (one other : System) (count : ℕ) : Type 0 where
  pub agree : Agree members (run (start one) count) (run (start other) count)
  pub lines : (p : ℕ) → members p ≡ true → own p (lines (start one) count) ≡ own p (lines (start other) count)
  pub said : (p : ℕ) → members p ≡ true → said (start one) count p ≡ said (start other) count p

-- two runs that are steered alike are alike for a closed set, whatever the others put into their channels
abbrev pub ClosedRunsAlike : Type 0
ClosedRunsAlike = (members : Members) (one other : System) (count : ℕ) →
    AreClosedAlike members one other → AreSteeredAlike members one other count → RunAlike members one other count

-- where no partition may steer others, no tick steers
abbrev pub NoneSteers : Type 0
NoneSteers = (members : Members) (system : System) (count : ℕ) → IsUnsteered system.conf → steering members (run (start system) count) ≡ no_steering

-- so there the premise is on configurations, images and input words alone
abbrev pub UnsteeredRunsAlike : Type 0
UnsteeredRunsAlike = (members : Members) (one other : System) (count : ℕ) →
    AreClosedAlike members one other → IsUnsteered one.conf → IsUnsteered other.conf → RunAlike members one other count

-- what is found of a partition's group: the members are the group, of partitions that there are, and it is covered exactly where they are a closed set
pub record IsFound (conf : Conf) (p : ℕ) (found : Group) : Type 0 where
  pub members : IsGroupOf conf p (members_of found.members)
  pub within : (q : ℕ) → members_of found.members q ≡ true → q < length conf.parts
  pub closed : (found.covered ≡ true) ↔ IsClosed conf (members_of found.members)

-- what the rounds find is so, of each partition of a configuration that meets the rules
abbrev pub RoundsFindGroups : Type 0
RoundsFindGroups = (conf : Conf) (p : ℕ) → Fits (described conf) → p < length conf.parts → IsFound conf p (group_of conf p)
