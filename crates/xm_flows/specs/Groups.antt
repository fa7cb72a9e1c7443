-- Sets of partitions into which no channel and no link brings anything from outside, and the least of them that has a partition.
use Rattle.std.specs.Prelude.{◌≡◌, ℕ, ◌||◌, Bool, true, false, List, All}
use Rattle.std.specs.List.{list_any}
use Rattle.xm_conf.specs.Configuration.{Chan, Conf}
use Rattle.xm_conf.specs.declared.channel.ChanKind.{ChanKind}
use Rattle.xm_conf.specs.declared.channel.ChanKind.TheVariants as kind
use Rattle.xm_conf.specs.declared.channel.End.{End}
use Rattle.xm_conf.specs.declared.link.Link.{Link}
use Rattle.machine_model.specs.View.{part_of}

-- a set of partitions, by their numbers
abbrev pub Members : Type 0
Members = ℕ → Bool

-- whether an end is a port of a member
abbrev pub is_in : Members → End → Bool
is_in members end = members end.part

-- whether a member is a destination
abbrev pub has_dest_in : Members → List End → Bool
has_dest_in members dests = list_any (is_in members) dests

-- whether a channel has an end at a member
abbrev pub has_end_in : Members → Chan → Bool
has_end_in members chan = is_in members chan.source || has_dest_in members chan.dests

-- what the rule of its kind asks of a channel. Into a sampling channel only its source puts, and no one takes: where a member is a destination, the
-- source is a member, too. Of a queue the source fills the places and the destination frees them: where one is a member, both are
abbrev pub KeepsIn : Members → ChanKind → End → List End → Type 0
KeepsIn members (kind.Sampling refresh) source dests = has_dest_in members dests ≡ true → is_in members source ≡ true
KeepsIn members (kind.Queuing most) source dests =
    (is_in members source || has_dest_in members dests) ≡ true → (is_in members source ≡ true) × All (λ end. is_in members end ≡ true) dests

-- the channel keeps the rule of its kind
abbrev pub KeepsRule : Members → Chan → Type 0
KeepsRule members chan = KeepsIn members chan.kind chan.source chan.dests

-- what is asked of a link: where it goes to a member it comes from one
abbrev pub KeepsLink : Members → Link → Type 0
KeepsLink members link = members link.dest ≡ true → members link.source ≡ true

-- the rules of these channels and links are kept
pub record KeepsRules (members : Members) (chans : List Chan) (joins : List Link) : Type 0 where
  pub channels : All (KeepsRule members) chans
  pub links : All (KeepsLink members) joins

-- each partition that by a channel or a link can change what a member meets is a member, too: a rule for each kind of thing that connects partitions
abbrev pub HasItsPeers : Conf → Members → Type 0
HasItsPeers conf members = KeepsRules members conf.chans conf.links

-- no member is a system partition
abbrev pub HasNoSystem : Conf → Members → Type 0
HasNoSystem conf members = (p : ℕ) → members p ≡ true → (part_of conf p).system ≡ false

-- the set is closed: nothing comes into it from outside but by the plan, hypervisor events and orders
pub record IsClosed (conf : Conf) (members : Members) : Type 0 where
  pub plain : HasNoSystem conf members
  pub peers : HasItsPeers conf members

-- the set is the group of partition p: it has p, it has its peers, and it is part of every such set
pub record IsGroupOf (conf : Conf) (p : ℕ) (members : Members) : Type 0 where
  pub has : members p ≡ true
  pub peers : HasItsPeers conf members
  pub least : (other : Members) → HasItsPeers conf other → other p ≡ true → (q : ℕ) → members q ≡ true → other q ≡ true
