-- What it means that a description meets the rules of a configuration: a fact a rule.
use Rattle.std.specs.Prelude.{◌≡◌, ◌≢◌, ℕ, ◌+◌, ◌%◌, ◌<◌, ◌≤◌, ◌⊎◌, ⊤, IsTrue, List, length, sum_by, slice_get, All, AllPairs, Any, IsSome, IsSomeAnd, IfSome, slice_index_or}
use Rattle.xm_conf.specs.Along.{added_by_each}
use Rattle.xm_conf.specs.Configuration.{Part, Chan, Conf}
use Rattle.xm_conf.specs.Description.{PlanIds, Ids, Monitor, Description}
use Rattle.xm_conf.specs.Health.{is_allowed}
use Rattle.xm_conf.specs.Rules.{page, addresses, most_memory, longest, part_size, stretches, port_at, chan_ends}
use Rattle.xm_conf.specs.declared.health.Action.TheVariants as action
use Rattle.xm_conf.specs.declared.plan.Slot.{Slot}
use Rattle.xm_conf.specs.declared.part.Area.{Area}
use Rattle.xm_conf.specs.declared.part.Need.{Need}
use Rattle.xm_conf.specs.declared.port.Port.{Port}
use Rattle.xm_conf.specs.declared.port.Kind.{Kind}
use Rattle.xm_conf.specs.declared.port.Kind.TheVariants as kind
use Rattle.xm_conf.specs.declared.port.Way.{Way}
use Rattle.xm_conf.specs.declared.port.Way.TheVariants as way
use Rattle.xm_conf.specs.declared.channel.ChanKind.{ChanKind}
use Rattle.xm_conf.specs.declared.channel.ChanKind.TheVariants as chan_kind
use Rattle.xm_conf.specs.declared.channel.End.{End}
use Rattle.xm_conf.specs.Limits.{most_parts, most_dests, most_links, link_numbers}
use Rattle.xm_conf.specs.declared.link.Link.{Link}
use Rattle.xm_conf.specs.declared.raw.Region.{Region}

-- a list has at least one element, and at most this many
pub record HasSome {X : Type 0} (xs : List X) (most : ℕ) : Type 0 where
  pub some : 0 < length xs
  pub few : length xs ≤ most

-- a sampling channel has few destinations
abbrev pub HasFewDests : ChanKind → List End → Type 0
HasFewDests (chan_kind.Sampling refresh) dests = length dests ≤ most_dests
HasFewDests (chan_kind.Queuing most) dests = ⊤

-- rule 1: there is something of each kind that has to be, and not too much of any kind, where this many partitions are the
-- most
pub record HasCountsWithin (most : ℕ) (conf : Conf) : Type 0 where
  pub regions : HasSome conf.regions 8
  pub uarts : length conf.uarts ≤ 8
  pub plans : HasSome conf.plans 8
  pub slots : All (λ plan. HasSome plan.slots 64) conf.plans
  pub parts : HasSome conf.parts most
  pub areas : All (λ part. HasSome part.areas 8) conf.parts
  pub ports : All (λ part. length part.ports ≤ 32) conf.parts
  pub chans : length conf.chans ≤ 64
  pub dests : All (λ chan. HasFewDests chan.kind chan.dests) conf.chans
  pub links : length conf.links ≤ most_links

-- each id is its place
abbrev pub InOrder : List ℕ → Type 0
InOrder ids = (n : ℕ) (d : ℕ) → n < length ids → slice_index_or ids n d ≡ n

-- rule 2: ids are 0, 1, 2 and so on in their order
pub record HasIds (ids : Ids) : Type 0 where
  pub processor : ids.processor ≡ 0
  pub uarts : InOrder ids.uarts
  pub plans : (n : ℕ) (d : PlanIds) → n < length ids.plans → (slice_index_or ids.plans n d).plan ≡ n
  pub slots : All (λ plan. InOrder plan.slots) ids.plans
  pub parts : InOrder ids.parts

-- rule 3: names of UARTs differ, and of partitions, and of the ports of one partition
pub record HasNames (conf : Conf) : Type 0 where
  pub uarts : AllPairs (λ a b. a ≢ b) conf.uarts
  pub parts : AllPairs (λ a b. a.name ≢ b.name) conf.parts
  pub ports : All (λ part. AllPairs (λ a b. a.name ≢ b.name) part.ports) conf.parts

-- a stretch of memory is whole pages, and not empty
pub record IsSized (start size : ℕ) : Type 0 where
  pub start_paged : start % page ≡ 0
  pub size_paged : size % page ≡ 0
  pub some : 0 < size

-- rule 4: a region is whole pages, below the end of all addresses
pub record IsRegion (region : Region) : Type 0 where
  pub sized : IsSized region.start region.size
  pub below : region.start + region.size ≤ addresses

-- rules 5 and 9: one stretch of memory ends before the other begins
abbrev pub Apart : Region → Region → Type 0
Apart a b = (a.start + a.size ≤ b.start) ⊎ (b.start + b.size ≤ a.start)

-- rule 6: the hypervisor has whole pages of region 0
pub record HasHypervisor (conf : Conf) : Type 0 where
  pub paged : conf.hv_size % page ≡ 0
  pub some : 0 < conf.hv_size
  pub inside : IsSomeAnd (slice_get conf.regions 0) (λ region. conf.hv_size ≤ region.size)

-- rule 8: an area lies inside a region
pub record LiesIn (area : Area) (region : Region) : Type 0 where
  pub start : region.start ≤ area.start
  pub end : area.start + area.size ≤ region.start + region.size

-- rule 11: a time is at least 1 and at most the longest
pub record IsTime (time : ℕ) : Type 0 where
  pub some : 0 < time
  pub most : time ≤ longest

-- rule 11: a slot lasts, and ends inside the frame
pub record InFrame (frame : ℕ) (slot : Slot) : Type 0 where
  pub lasts : 0 < slot.duration
  pub inside : slot.start + slot.duration ≤ frame

-- rule 12: each slot starts at or after the end of the one before it
abbrev pub InTurn : List Slot → Type 0
InTurn slots =
    (n : ℕ) (d : Slot) → n + 1 < length slots
    → (slice_index_or slots n d).start + (slice_index_or slots n d).duration ≤ (slice_index_or slots (n + 1) d).start

-- rule 15: a channel has destinations as its kind wants, and as many messages
abbrev pub IsKind : ChanKind → List End → Type 0
IsKind (chan_kind.Sampling refresh) dests = 0 < length dests
IsKind (chan_kind.Queuing most) dests = (length dests ≡ 1) × (0 < most) × (most ≤ 64)

-- rule 15: messages have a length
pub record IsChan (chan : Chan) : Type 0 where
  pub some : 0 < chan.length
  pub most : chan.length ≤ 4096
  pub kind : IsKind chan.kind chan.dests

-- rule 16: each end of a channel is a port of a partition
pub record HasPorts (parts : List Part) (chan : Chan) : Type 0 where
  pub source : IsSome (port_at parts chan.source)
  pub dests : All (λ end. IsSome (port_at parts end)) chan.dests

-- rule 17: a port is of a channel's kind
abbrev pub IsOfKind : ChanKind → Kind → Type 0
IsOfKind (chan_kind.Sampling refresh) of = of ≡ kind.Sampling
IsOfKind (chan_kind.Queuing most) of = of ≡ kind.Queuing

-- rule 17: a port has a channel's kind and the way of an end
pub record IsEnd (kind : ChanKind) (way : Way) (port : Port) : Type 0 where
  pub kind_is : IsOfKind kind port.kind
  pub way_is : port.way ≡ way

-- rule 17: the source end is a source port, and the others are destination ports, all of the channel's kind
pub record SuitsPorts (parts : List Part) (chan : Chan) : Type 0 where
  pub source : IfSome (port_at parts chan.source) (IsEnd chan.kind way.Source)
  pub dests : All (λ end. IfSome (port_at parts end) (IsEnd chan.kind way.Destination)) chan.dests

-- rule 19: actions are allowed for their events, each event is named once, and the maintenance plan exists
pub record HasAnswers (plans : ℕ) (monitor : Monitor) : Type 0 where
  pub logged : monitor.logged < 4096
  pub allowed : All (λ answer. IsTrue (is_allowed answer.event answer.action)) monitor.answers
  pub once : AllPairs (λ a b. a.event ≢ b.event) monitor.answers
  pub maintenance : All (λ answer. answer.action ≡ action.SwitchToMaintenance → 1 < plans) monitor.answers

-- rule 20: a requirement is a time in a period
pub record IsNeed (need : Need) : Type 0 where
  pub some : 0 < need.duration
  pub inside : need.duration ≤ need.period
  pub most : need.period ≤ longest

-- rule 21: a link's number is one, and it goes from one partition to another
pub record IsLink (parts : ℕ) (link : Link) : Type 0 where
  pub number : link.number < link_numbers
  pub source : link.source < parts
  pub dest : link.dest < parts
  pub differ : link.source ≢ link.dest

-- rule 22: two links have other sources, or other numbers
abbrev pub DifferLinks : Link → Link → Type 0
DifferLinks a b = (a.source ≢ b.source) ⊎ (a.number ≢ b.number)

-- a description meets the rules, where this many partitions are the most
pub record FitsWithin (most : ℕ) (d : Description) : Type 0 where
  pub counts : HasCountsWithin most d.conf
  pub ids : HasIds d.ids
  pub names : HasNames d.conf
  pub regions_sized : All IsRegion d.conf.regions
  pub regions_apart : AllPairs Apart d.conf.regions
  pub hypervisor : HasHypervisor d.conf
  pub areas_sized : All (λ part. All (λ area. IsSized area.start area.size) part.areas) d.conf.parts
  pub areas_inside : All (λ part. All (λ area. Any (LiesIn area) d.conf.regions) part.areas) d.conf.parts
  pub areas_apart : AllPairs (λ a b. Apart a.1 b.1) (stretches d.conf)
  pub memory : sum_by part_size d.conf.parts ≤ most_memory
  pub frames : All (λ plan. IsTime plan.frame) d.conf.plans
  pub slots_inside : All (λ plan. All (InFrame plan.frame) plan.slots) d.conf.plans
  pub slots_in_turn : All (λ plan. InTurn plan.slots) d.conf.plans
  pub slots_owned : All (λ plan. All (λ slot. slot.part < length d.conf.parts) plan.slots) d.conf.plans
  pub consoles : All (λ part. IfSome part.console (λ uart. uart < length d.conf.uarts)) d.conf.parts
  pub messages : All IsChan d.conf.chans
  pub ends_exist : All (HasPorts d.conf.parts) d.conf.chans
  pub ends_suit : All (SuitsPorts d.conf.parts) d.conf.chans
  pub ends_differ : AllPairs (λ a b. a.1 ≢ b.1) (added_by_each chan_ends d.conf.chans)
  pub answers : All (HasAnswers (length d.conf.plans)) d.monitors
  pub needs : All (λ part. IfSome part.need IsNeed) d.conf.parts
  pub links_suit : All (IsLink (length d.conf.parts)) d.conf.links
  pub links_differ : AllPairs DifferLinks d.conf.links

-- a description meets the rules
abbrev pub Fits : Description → Type 0
Fits d = FitsWithin most_parts d
