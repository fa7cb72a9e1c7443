-- What breaks the rules of a configuration: of each rule, each item that breaks it with the item that it clashes with, in
-- the order of the items.
use Rattle.std.specs.Prelude.{ℕ, ◌+◌, ◌-◌, ◌%◌, ◌==◌, if◌then◌else◌, Bool, true, false, not, ◌&&◌, nat_le, nat_lt, List, [], ◌∷◌, ◌++◌, length, sum_by, slice_get, Option, Some, None, is_some}
use Rattle.std.specs.List.{list_any, position_from}
use Rattle.std.specs.Str.{bytes_eq}
use Rattle.xm_base.specs.Options.{on}
use Rattle.xm_conf.specs.Along.{head_of, added_by_each, along, unless}
use Rattle.xm_conf.specs.Configuration.{Plan, Part, Chan, Conf}
use Rattle.xm_conf.specs.Description.{PlanIds, Ids, HealthAnswer, Monitor, Description}
use Rattle.xm_conf.specs.Health.{event_row, is_allowed}
use Rattle.xm_conf.specs.declared.health.Action.{Action}
use Rattle.xm_conf.specs.declared.health.Action.TheVariants as action
use Rattle.xm_conf.specs.declared.plan.Slot.{Slot}
use Rattle.xm_conf.specs.declared.part.Area.{Area}
use Rattle.xm_conf.specs.declared.part.Need.{Need}
use Rattle.xm_conf.specs.declared.port.Port.{Port}
use Rattle.xm_conf.specs.declared.port.Kind.{Kind}
use Rattle.xm_conf.specs.declared.port.Kind.TheVariants as kind
use Rattle.xm_conf.specs.declared.port.Way.{Way}
use Rattle.xm_conf.specs.declared.port.Way.TheVariants as way
use Rattle.xm_conf.specs.declared.channel.ChanKind.{ChanKind}
use Rattle.xm_conf.specs.declared.channel.ChanKind.TheVariants as chan_kind
use Rattle.xm_conf.specs.declared.channel.End.{End}
use Rattle.xm_conf.specs.Limits.{most_dests, most_links, link_numbers}
use Rattle.xm_conf.specs.declared.link.Link.{Link}
use Rattle.xm_conf.specs.declared.raw.Region.{Region}
use Rattle.xm_conf.specs.declared.item.Item.{Item}
use Rattle.xm_conf.specs.declared.item.Item.TheVariants as item
use Rattle.xm_conf.specs.declared.item.Broken.{Broken}

-- an item breaks a rule by another
abbrev pub broken : ℕ → Item → Item → Broken
broken rule first second = record { rule = rule; first = first; second = second }

-- an item breaks a rule by itself
abbrev pub alone : ℕ → Item → Broken
alone rule it = broken rule it it

-- an item breaks a rule by an earlier one, where there is one
abbrev pub beside : ℕ → Item → Option Item → List Broken
beside rule later None = []
beside rule later (Some earlier) = broken rule later earlier ∷ []

-- an element that clashes with one before it breaks a rule, by the first such
abbrev pub repeated : {X : Type 0} → ℕ → (ℕ → Item) → (X → X → Bool) → List X → X → List Broken
repeated rule numbered clash before x =
    beside rule (numbered (length before)) (on numbered (position_from (λ earlier. clash earlier x) 0 before))

-- an element's item, where it passes a test
abbrev pub item_if : {X : Type 0} → (X → Bool) → (Item × X) → List Item
item_if test x = if test x.1 then x.0 ∷ [] else []

-- the items of the elements that pass a test
abbrev pub items_where : {X : Type 0} → (X → Bool) → List (Item × X) → List Item
items_where test [] = []
items_where test (x ∷ xs) = item_if test x ++ items_where test xs

-- an element with its item that clashes with one before it breaks a rule, by the first such
abbrev pub meets : {X : Type 0} → ℕ → (X → X → Bool) → List (Item × X) → (Item × X) → List Broken
meets rule clash before x = beside rule x.0 (head_of (items_where (λ earlier. clash earlier x.1) before))

-- Rule 1: counts.

-- the first item past a limit
abbrev pub past_limit : {X : Type 0} → ℕ → (ℕ → Item) → List X → List Broken
past_limit limit numbered xs = unless (nat_le (length xs) limit) (alone 1 (numbered limit))

-- there are regions, plans and partitions
unfoldable pub has_some : Conf → Bool
has_some conf = nat_lt 0 (length conf.regions) && nat_lt 0 (length conf.plans) && nat_lt 0 (length conf.parts)

-- a plan past the limit, a plan without slots, and the first slot past the limit
unfoldable pub plan_counts : ℕ → Plan → List Broken
plan_counts n plan =
    unless (nat_lt n 8) (alone 1 (item.Plan n))
    ++ unless (nat_lt 0 (length plan.slots)) (alone 1 (item.Plan n))
    ++ past_limit 64 (item.Slot n) plan.slots

-- a partition past this many, a partition without areas, and the first area and port past their limits
unfoldable pub part_counts : ℕ → ℕ → Part → List Broken
part_counts most n part =
    unless (nat_lt n most) (alone 1 (item.Part n))
    ++ unless (nat_lt 0 (length part.areas)) (alone 1 (item.Part n))
    ++ past_limit 8 (item.Area n) part.areas
    ++ past_limit 32 (item.Port n) part.ports

-- the destination past the limit of a sampling channel
unfoldable pub dest_counts : ℕ → ChanKind → List End → List Broken
dest_counts n (chan_kind.Sampling refresh) dests = unless (nat_le (length dests) most_dests) (alone 1 (item.End n 17))
dest_counts n (chan_kind.Queuing most) dests = []

-- a channel past the limit, and its destination past the limit
unfoldable pub chan_counts : ℕ → Chan → List Broken
chan_counts n chan = unless (nat_lt n 64) (alone 1 (item.Chan n)) ++ dest_counts n chan.kind chan.dests

-- a configuration without regions, plans or partitions, and the first region and UART past their limits
unfoldable pub list_counts : Conf → List Broken
list_counts conf =
    unless (has_some conf) (alone 1 item.Whole) ++ past_limit 8 item.Region conf.regions ++ past_limit 8 item.Uart conf.uarts

-- there is something of each kind that has to be, and not too much of any kind, where this many partitions are the most
unfoldable pub rule_1 : ℕ → Conf → List Broken
rule_1 most conf =
    list_counts conf ++ added_by_each plan_counts conf.plans ++ added_by_each (part_counts most) conf.parts ++ added_by_each chan_counts conf.chans
    ++ past_limit most_links item.Link conf.links

-- Rule 2: ids.

-- an id that is not the place
abbrev pub misplaced : (ℕ → Item) → ℕ → ℕ → List Broken
misplaced numbered n id = unless (id == n) (alone 2 (numbered n))

-- a plan's id and those of its slots
unfoldable pub plan_misplaced : ℕ → PlanIds → List Broken
plan_misplaced n ids = misplaced item.Plan n ids.plan ++ added_by_each (misplaced (item.Slot n)) ids.slots

-- ids are 0, 1, 2 and so on in their order
unfoldable pub rule_2 : Ids → List Broken
rule_2 ids =
    unless (ids.processor == 0) (alone 2 item.Whole)
    ++ added_by_each (misplaced item.Uart) ids.uarts
    ++ added_by_each plan_misplaced ids.plans
    ++ added_by_each (misplaced item.Part) ids.parts

-- Rule 3: names.

-- whether two partitions have one name
abbrev pub same_part : Part → Part → Bool
same_part a b = bytes_eq a.name b.name

-- whether two ports have one name
abbrev pub same_port : Port → Port → Bool
same_port a b = bytes_eq a.name b.name

-- a partition with an earlier one's name, and its ports with an earlier one's name
unfoldable pub part_names : List Part → Part → List Broken
part_names before part =
    repeated 3 item.Part same_part before part ++ along (repeated 3 (item.Port (length before)) same_port) part.ports

-- names of UARTs differ, and of partitions, and of the ports of one partition
unfoldable pub rule_3 : Conf → List Broken
rule_3 conf = along (repeated 3 item.Uart bytes_eq) conf.uarts ++ along part_names conf.parts

-- Rules 4 to 6: regions and the hypervisor.

-- the bytes of a page
unfoldable pub page : ℕ
page = 4096

-- whether a number of bytes is a number of pages
unfoldable pub is_paged : ℕ → Bool
is_paged n = n % page == 0

-- a stretch of memory is a region's or an area's: whole pages, and not empty
abbrev pub is_sized : ℕ → ℕ → Bool
is_sized start size = is_paged start && is_paged size && nat_lt 0 size

-- the addresses that there are
unfoldable pub addresses : ℕ
addresses = 4294967296

-- whether a region may stand: whole pages below the end of all addresses
unfoldable pub is_region : Region → Bool
is_region region = is_sized region.start region.size && nat_le (region.start + region.size) addresses

-- a region that is not whole pages
unfoldable pub unsized_region : ℕ → Region → List Broken
unsized_region n region = unless (is_region region) (alone 4 (item.Region n))

-- regions are whole pages
unfoldable pub rule_4 : Conf → List Broken
rule_4 conf = added_by_each unsized_region conf.regions

-- whether two stretches of memory have an address in common
unfoldable pub overlaps : Region → Region → Bool
overlaps a b = nat_lt a.start (b.start + b.size) && nat_lt b.start (a.start + a.size)

-- regions are disjoint
unfoldable pub rule_5 : Conf → List Broken
rule_5 conf = along (repeated 5 item.Region overlaps) conf.regions

-- this many bytes from the start of a region
abbrev pub front_of : ℕ → Region → Region
front_of size region = record { start = region.start; size = size }

-- the hypervisor's memory, from the start of region 0
abbrev pub hypervisor : ℕ → List Region → Option Region
hypervisor size regions = on (front_of size) (slice_get regions 0)

-- whether a size is at most that of a region, where there is one
abbrev pub fits_into : ℕ → Option Region → Bool
fits_into size None = false
fits_into size (Some region) = nat_le size region.size

-- the hypervisor has whole pages of region 0
unfoldable pub rule_6 : Conf → List Broken
rule_6 conf =
    unless (is_paged conf.hv_size && nat_lt 0 conf.hv_size && fits_into conf.hv_size (slice_get conf.regions 0))
    (alone 6 item.Whole)

-- Rules 7 to 10: areas.

-- an area that is not whole pages
unfoldable pub unsized_area : ℕ → ℕ → Area → List Broken
unsized_area p n area = unless (is_sized area.start area.size) (alone 7 (item.Area p n))

-- the areas of a partition that are not whole pages
unfoldable pub unsized_areas : ℕ → Part → List Broken
unsized_areas p part = added_by_each (unsized_area p) part.areas

-- areas are whole pages
unfoldable pub rule_7 : Conf → List Broken
rule_7 conf = added_by_each unsized_areas conf.parts

-- whether a region has all addresses of an area
unfoldable pub has_area : Area → Region → Bool
has_area area region = nat_le region.start area.start && nat_le (area.start + area.size) (region.start + region.size)

-- an area that is not inside a region
unfoldable pub outside_area : List Region → ℕ → ℕ → Area → List Broken
outside_area regions p n area = unless (list_any (has_area area) regions) (alone 8 (item.Area p n))

-- the areas of a partition that are not inside a region
unfoldable pub outside_areas : List Region → ℕ → Part → List Broken
outside_areas regions p part = added_by_each (outside_area regions p) part.areas

-- each area lies inside one region
unfoldable pub rule_8 : Conf → List Broken
rule_8 conf = added_by_each (outside_areas conf.regions) conf.parts

-- the hypervisor's memory is that of the whole
abbrev pub whole_stretch : Option Region → List (Item × Region)
whole_stretch None = []
whole_stretch (Some region) = (item.Whole, region) ∷ []

-- the addresses of an area
abbrev pub stretch : Area → Region
stretch area = record { start = area.start; size = area.size }

-- an area with its item
abbrev pub area_stretch : ℕ → ℕ → Area → List (Item × Region)
area_stretch p n area = (item.Area p n, stretch area) ∷ []

-- the areas of a partition with their items
unfoldable pub part_stretches : ℕ → Part → List (Item × Region)
part_stretches p part = added_by_each (area_stretch p) part.areas

-- the hypervisor's memory and all areas, each with its item
unfoldable pub stretches : Conf → List (Item × Region)
stretches conf = whole_stretch (hypervisor conf.hv_size conf.regions) ++ added_by_each part_stretches conf.parts

-- areas are disjoint from each other and from the hypervisor
unfoldable pub rule_9 : Conf → List Broken
rule_9 conf = along (meets 9 overlaps) (stretches conf)

-- the bytes that all areas may have together
unfoldable pub most_memory : ℕ
most_memory = 33554432

-- the bytes of a partition's areas
unfoldable pub part_size : Part → ℕ
part_size part = sum_by (λ area. area.size) part.areas

-- all areas have at most this many bytes together
unfoldable pub rule_10 : Conf → List Broken
rule_10 conf = unless (nat_le (sum_by part_size conf.parts) most_memory) (alone 10 item.Whole)

-- Rules 11 to 14: plans, and the numbers of partitions and UARTs.

-- the microseconds of the longest frame and of the longest period
unfoldable pub longest : ℕ
longest = 1000000000

-- whether a time is at least 1 and at most the longest
unfoldable pub is_time : ℕ → Bool
is_time time = nat_lt 0 time && nat_le time longest

-- whether a slot lasts, and ends inside the frame
unfoldable pub in_frame : ℕ → Slot → Bool
in_frame frame slot = nat_lt 0 slot.duration && nat_le (slot.start + slot.duration) frame

-- a slot that does not last, or ends after the frame
unfoldable pub late_slot : ℕ → ℕ → ℕ → Slot → List Broken
late_slot p frame n slot = unless (in_frame frame slot) (broken 11 (item.Slot p n) (item.Plan p))

-- a plan whose frame is too short or too long, and its slots that do not fit into it
unfoldable pub frame_broken : ℕ → Plan → List Broken
frame_broken p plan = unless (is_time plan.frame) (alone 11 (item.Plan p)) ++ added_by_each (late_slot p plan.frame) plan.slots

-- frames have a length, and slots end inside them
unfoldable pub rule_11 : Conf → List Broken
rule_11 conf = added_by_each frame_broken conf.plans

-- whether a slot starts at or after the end of the one before it
abbrev pub follows : Option Slot → Slot → Bool
follows None slot = true
follows (Some earlier) slot = nat_le (earlier.start + earlier.duration) slot.start

-- a slot that starts before the end of the one before it
unfoldable pub early_slot : ℕ → List Slot → Slot → List Broken
early_slot p before slot =
    unless (follows (slice_get before (length before - 1)) slot)
    (broken 12 (item.Slot p (length before)) (item.Slot p (length before - 1)))

-- the slots of a plan that start too early
unfoldable pub early_slots : ℕ → Plan → List Broken
early_slots p plan = along (early_slot p) plan.slots

-- slots of a plan come one after another
unfoldable pub rule_12 : Conf → List Broken
rule_12 conf = added_by_each early_slots conf.plans

-- a slot whose partition is none
unfoldable pub stray_slot : ℕ → ℕ → ℕ → Slot → List Broken
stray_slot parts p n slot = unless (nat_lt slot.part parts) (alone 13 (item.Slot p n))

-- the slots of a plan whose partition is none
unfoldable pub stray_slots : ℕ → ℕ → Plan → List Broken
stray_slots parts p plan = added_by_each (stray_slot parts p) plan.slots

-- each slot's partition exists
unfoldable pub rule_13 : Conf → List Broken
rule_13 conf = added_by_each (stray_slots (length conf.parts)) conf.plans

-- whether a console is one of this many UARTs, where there is one
abbrev pub is_console : ℕ → Option ℕ → Bool
is_console uarts None = true
is_console uarts (Some uart) = nat_lt uart uarts

-- a partition whose console is no UART
unfoldable pub no_console : ℕ → ℕ → Part → List Broken
no_console uarts n part = unless (is_console uarts part.console) (alone 14 (item.Part n))

-- each console names a UART
unfoldable pub rule_14 : Conf → List Broken
rule_14 conf = added_by_each (no_console (length conf.uarts)) conf.parts

-- Rules 15 to 18: channels.

-- whether a channel has destinations as its kind wants, and as many messages
unfoldable pub is_kind : ChanKind → List End → Bool
is_kind (chan_kind.Sampling refresh) dests = nat_lt 0 (length dests)
is_kind (chan_kind.Queuing most) dests = length dests == 1 && nat_lt 0 most && nat_le most 64

-- a channel with messages or destinations that are none
unfoldable pub unfit_chan : ℕ → Chan → List Broken
unfit_chan n chan =
    unless (nat_lt 0 chan.length && nat_le chan.length 4096 && is_kind chan.kind chan.dests) (alone 15 (item.Chan n))

-- messages have a length, queues have messages, and channels have destinations
unfoldable pub rule_15 : Conf → List Broken
rule_15 conf = added_by_each unfit_chan conf.chans

-- a partition's port
abbrev pub port_of : ℕ → Option Part → Option Port
port_of port None = None
port_of port (Some part) = slice_get part.ports port

-- the port at the end of a channel
unfoldable pub port_at : List Part → End → Option Port
port_at parts end = port_of end.port (slice_get parts end.part)

-- an end that is no port
unfoldable pub stray_end : List Part → Item → End → List Broken
stray_end parts it end = unless (is_some (port_at parts end)) (alone 16 it)

-- a destination that is no port; destinations count from 1
unfoldable pub stray_dest : List Part → ℕ → ℕ → End → List Broken
stray_dest parts c n end = stray_end parts (item.End c (n + 1)) end

-- the ends of a channel that are no ports, the source first
unfoldable pub stray_ends : List Part → ℕ → Chan → List Broken
stray_ends parts c chan = stray_end parts (item.End c 0) chan.source ++ added_by_each (stray_dest parts c) chan.dests

-- each end of a channel is a port of a partition
unfoldable pub rule_16 : Conf → List Broken
rule_16 conf = added_by_each (stray_ends conf.parts) conf.chans

-- whether a port's kind is the channel's
abbrev pub is_of_kind : ChanKind → Kind → Bool
is_of_kind (chan_kind.Sampling refresh) kind.Sampling = true
is_of_kind (chan_kind.Sampling refresh) kind.Queuing = false
is_of_kind (chan_kind.Queuing most) kind.Sampling = false
is_of_kind (chan_kind.Queuing most) kind.Queuing = true

-- whether two ways are one
abbrev pub is_way : Way → Way → Bool
is_way way.Source way.Source = true
is_way way.Source way.Destination = false
is_way way.Destination way.Source = false
is_way way.Destination way.Destination = true

-- whether a port, where there is one, may be an end
abbrev pub may_be_end : ChanKind → Way → Option Port → Bool
may_be_end kind way None = true
may_be_end kind way (Some port) = is_of_kind kind port.kind && is_way way port.way

-- an end whose port is of another kind or way
unfoldable pub wrong_end : List Part → ChanKind → Way → Item → End → List Broken
wrong_end parts kind way it end = unless (may_be_end kind way (port_at parts end)) (alone 17 it)

-- a destination whose port is of another kind or way; destinations count from 1
unfoldable pub wrong_dest : List Part → ChanKind → ℕ → ℕ → End → List Broken
wrong_dest parts kind c n end = wrong_end parts kind way.Destination (item.End c (n + 1)) end

-- the ends of a channel whose ports are of another kind or way, the source first
unfoldable pub wrong_ends : List Part → ℕ → Chan → List Broken
wrong_ends parts c chan =
    wrong_end parts chan.kind way.Source (item.End c 0) chan.source ++ added_by_each (wrong_dest parts chan.kind c) chan.dests

-- each end's port has the channel's kind and the end's way
unfoldable pub rule_17 : Conf → List Broken
rule_17 conf = added_by_each (wrong_ends conf.parts) conf.chans

-- whether two ends are one port
unfoldable pub same_end : End → End → Bool
same_end a b = a.part == b.part && a.port == b.port

-- a destination with its item; destinations count from 1
abbrev pub dest_item : ℕ → ℕ → End → List (Item × End)
dest_item c n end = (item.End c (n + 1), end) ∷ []

-- the ends of a channel with their items, the source first
unfoldable pub chan_ends : ℕ → Chan → List (Item × End)
chan_ends c chan = (item.End c 0, chan.source) ∷ added_by_each (dest_item c) chan.dests

-- no port is an end twice
unfoldable pub rule_18 : Conf → List Broken
rule_18 conf = along (meets 18 same_end) (added_by_each chan_ends conf.chans)

-- Rules 19 and 20: health events and requirements.

-- whether an action has its plan, where there are this many plans
abbrev pub has_plan : ℕ → Action → Bool
has_plan plans action.Ignore = true
has_plan plans action.Shutdown = true
has_plan plans action.PartitionColdReset = true
has_plan plans action.PartitionWarmReset = true
has_plan plans action.Suspend = true
has_plan plans action.Halt = true
has_plan plans action.Propagate = true
has_plan plans action.HypervisorColdReset = true
has_plan plans action.HypervisorWarmReset = true
has_plan plans action.HypervisorHalt = true
has_plan plans action.SwitchToMaintenance = nat_lt 1 plans

-- whether two answers are to one event
unfoldable pub same_event : HealthAnswer → HealthAnswer → Bool
same_event a b = (event_row a.event).number == (event_row b.event).number

-- an answer that is not allowed, that is to an event of an earlier one, or whose plan is none
unfoldable pub answer_broken : ℕ → ℕ → List HealthAnswer → HealthAnswer → List Broken
answer_broken plans p before answer =
    unless (is_allowed answer.event answer.action) (alone 19 (item.Event p (length before)))
    ++ repeated 19 (item.Event p) same_event before answer
    ++ unless (has_plan plans answer.action) (alone 19 (item.Event p (length before)))

-- a partition that logs an event that is none, and its answers
unfoldable pub monitor_broken : ℕ → ℕ → Monitor → List Broken
monitor_broken plans p monitor =
    unless (nat_lt monitor.logged 4096) (alone 19 (item.Part p)) ++ along (answer_broken plans p) monitor.answers

-- actions are allowed for their events, each event is named once, and the maintenance plan exists
unfoldable pub rule_19 : ℕ → List Monitor → List Broken
rule_19 plans monitors = added_by_each (monitor_broken plans) monitors

-- whether a requirement, where there is one, is a time in a period
abbrev pub is_need : Option Need → Bool
is_need None = true
is_need (Some need) = nat_lt 0 need.duration && nat_le need.duration need.period && nat_le need.period longest

-- a partition whose requirement is none
unfoldable pub unfit_need : ℕ → Part → List Broken
unfit_need n part = unless (is_need part.need) (alone 20 (item.Part n))

-- requirements are a time in a period
unfoldable pub rule_20 : Conf → List Broken
rule_20 conf = added_by_each unfit_need conf.parts

-- Rules 21 and 22: links.

-- whether a partition exists, where there are this many
abbrev pub exists : ℕ → ℕ → Bool
exists parts part = nat_lt part parts

-- whether a link may stand: its number is one, and it goes from one partition to another
unfoldable pub is_link : ℕ → Link → Bool
is_link parts link =
    nat_lt link.number link_numbers && exists parts link.source && exists parts link.dest && not (link.source == link.dest)

-- a link that may not stand
unfoldable pub unfit_link : ℕ → ℕ → Link → List Broken
unfit_link parts n link = unless (is_link parts link) (alone 21 (item.Link n))

-- links have a number, and go from one partition to another
unfoldable pub rule_21 : Conf → List Broken
rule_21 conf = added_by_each (unfit_link (length conf.parts)) conf.links

-- whether two links have the same source and number
unfoldable pub same_link : Link → Link → Bool
same_link a b = a.source == b.source && a.number == b.number

-- the links of one source differ in their numbers
unfoldable pub rule_22 : Conf → List Broken
rule_22 conf = along (repeated 22 item.Link same_link) conf.links

-- All rules.

-- what breaks the rules on memory
unfoldable pub memory_rules : Conf → List Broken
memory_rules conf =
    rule_4 conf ++ rule_5 conf ++ rule_6 conf ++ rule_7 conf ++ rule_8 conf ++ rule_9 conf ++ rule_10 conf

-- what breaks the rules on plans and consoles
unfoldable pub plan_rules : Conf → List Broken
plan_rules conf = rule_11 conf ++ rule_12 conf ++ rule_13 conf ++ rule_14 conf

-- what breaks the rules on channels
unfoldable pub chan_rules : Conf → List Broken
chan_rules conf = rule_15 conf ++ rule_16 conf ++ rule_17 conf ++ rule_18 conf

-- what breaks the rules on links
unfoldable pub link_rules : Conf → List Broken
link_rules conf = rule_21 conf ++ rule_22 conf

-- all that breaks a rule, by the rules' numbers, where this many partitions are the most
unfoldable pub all_broken : ℕ → Description → List Broken
all_broken most d =
    rule_1 most d.conf ++ rule_2 d.ids ++ rule_3 d.conf ++ memory_rules d.conf ++ plan_rules d.conf ++ chan_rules d.conf
    ++ rule_19 (length d.conf.plans) d.monitors ++ rule_20 d.conf ++ link_rules d.conf

-- the first rule that is broken, with the first item that breaks it and the item that it clashes with, where this many
-- partitions are the most
unfoldable pub first_broken : ℕ → Description → Option Broken
first_broken most d = head_of (all_broken most d)
