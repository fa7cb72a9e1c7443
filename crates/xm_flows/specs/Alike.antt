-- What two systems have in common where they are the same for a set of partitions.
use Rattle.std.specs.Prelude.{◌≡◌, ℕ, true, List, map, filter, Some, slice_get}
use Rattle.cyclic_plans.specs.Slots.{slots_of}
use Rattle.xm_conf.specs.Configuration.{Chan, Conf}
use Rattle.xm_conf.specs.declared.link.Link.{Link}
use Rattle.xm_conf.specs.declared.plan.Slot.{Slot}
use Rattle.machine_model.specs.View.{System, view_of}
use Rattle.xm_flows.specs.Groups.{Members, has_end_in, is_in}

-- a channel without the destinations that are no members
abbrev pub chan_among : Members → Chan → Chan
chan_among members chan = record chan { dests = filter (is_in members) chan.dests }

-- the configuration has a channel that is this one, destinations that are no members apart
pub record HasChannel (members : Members) (conf : Conf) (chan : Chan) : Type 0 where
  pub number : ℕ
  pub found : Chan
  pub there : slice_get conf.chans number ≡ Some found
  pub same : chan_among members found ≡ chan_among members chan

-- it has so each channel of another configuration that has an end at a member
abbrev pub HasChannelsOf : Members → Conf → Conf → Type 0
HasChannelsOf members conf other =
    (c : ℕ) (chan : Chan) → slice_get other.chans c ≡ Some chan → has_end_in members chan ≡ true → HasChannel members conf chan

-- the configuration has a link
pub record HasLink (conf : Conf) (link : Link) : Type 0 where
  pub place : ℕ
  pub there : slice_get conf.links place ≡ Some link

-- it has each link of another configuration that goes to a member
abbrev pub HasLinksOf : Members → Conf → Conf → Type 0
HasLinksOf members conf other = (k : ℕ) (link : Link) → slice_get other.links k ≡ Some link → members link.dest ≡ true → HasLink conf link

-- the slots of members among those of a plan
abbrev pub own_slots : Members → List Slot → List Slot
own_slots members slots = filter (λ slot. members slot.part) slots

-- two systems are the same for a set of partitions: each member has the same things of its own, there are as many plans with the same frames, each plan
-- has the same slots of members, the channels with an end at a member are the same, destinations that are no members apart, and so are the links that go to
-- a member
pub record AreSameFor (members : Members) (one other : System) : Type 0 where
  pub views : (p : ℕ) → members p ≡ true → view_of one p ≡ view_of other p
  pub frames : map (λ plan. plan.frame) one.conf.plans ≡ map (λ plan. plan.frame) other.conf.plans
  pub slots : (plan : ℕ) → own_slots members (slots_of one.conf plan) ≡ own_slots members (slots_of other.conf plan)
  pub channels : HasChannelsOf members other.conf one.conf
  pub channels_back : HasChannelsOf members one.conf other.conf
  pub links : HasLinksOf members other.conf one.conf
  pub links_back : HasLinksOf members one.conf other.conf
