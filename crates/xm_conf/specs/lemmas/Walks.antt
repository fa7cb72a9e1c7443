-- The outcome of the rules on areas, ends and answers along the lists that have them.
use Rattle.std.specs.Prelude.{ℕ, ◌+◌, List, [], ◌∷◌, ◌++◌, length, map, Option}
use Rattle.xm_conf.specs.Along.{added_by_each, along, unless}
use Rattle.xm_conf.specs.Configuration.{Part, Chan, Conf}
use Rattle.xm_conf.specs.Description.{event_numbered, monitor_of}
use Rattle.xm_conf.specs.Health.{is_allowed}
use Rattle.xm_conf.specs.Rules.{alone, meets, item_if, items_where, overlaps, stretch, area_stretch, part_stretches, whole_stretch, same_end, dest_item, chan_ends, has_plan, monitor_broken, rule_1, rule_3, memory_rules, plan_rules, chan_rules, rule_19, rule_20, link_rules}
use Rattle.xm_conf.specs.declared.health.Action.{Action}
use Rattle.xm_conf.specs.declared.part.Area.{Area}
use Rattle.xm_conf.specs.declared.channel.End.{End}
use Rattle.xm_conf.specs.declared.raw.Region.{Region}
use Rattle.xm_conf.specs.declared.item.Item.{Item}
use Rattle.xm_conf.specs.declared.item.Item.TheVariants as item
use Rattle.xm_conf.specs.declared.item.Broken.{Broken}

-- the hypervisor, where its memory overlaps a stretch
unfoldable pub whole_hits : Region → Option Region → List Item
whole_hits at whole = items_where (λ earlier. overlaps earlier at) (whole_stretch whole)

-- the areas of a partition that overlap a stretch
unfoldable pub part_hits : Region → ℕ → Part → List Item
part_hits at p part = items_where (λ earlier. overlaps earlier at) (part_stretches p part)

-- areas of a partition that overlap a stretch
unfoldable pub area_hits : Region → ℕ → List Area → List Item
area_hits at p areas = items_where (λ earlier. overlaps earlier at) (added_by_each (area_stretch p) areas)

-- an area that overlaps one before it: the hypervisor, those of the partitions before, or those of its own partition
unfoldable pub area_meets : List (Item × Region) → ℕ → List Area → Area → List Broken
area_meets front p before area =
    meets 9 overlaps (front ++ added_by_each (area_stretch p) before) (item.Area p (length before), stretch area)

-- the areas of a partition that overlap one before them
unfoldable pub part_meets : Option Region → List Part → Part → List Broken
part_meets whole before part =
    along (area_meets (whole_stretch whole ++ added_by_each part_stretches before) (length before)) part.areas

-- the ends of a channel that are one port with an end
unfoldable pub chan_hits : End → ℕ → Chan → List Item
chan_hits at c chan = items_where (λ earlier. same_end earlier at) (chan_ends c chan)

-- the source of a channel, where it is one port with an end
unfoldable pub source_hits : End → ℕ → End → List Item
source_hits at c source = item_if (λ earlier. same_end earlier at) (item.End c 0, source)

-- destinations of a channel that are one port with an end
unfoldable pub dest_hits : End → ℕ → List End → List Item
dest_hits at c dests = items_where (λ earlier. same_end earlier at) (added_by_each (dest_item c) dests)

-- a destination that is a port of an end before it
unfoldable pub dest_meets : List (Item × End) → ℕ → List End → End → List Broken
dest_meets front c before end =
    meets 18 same_end (front ++ added_by_each (dest_item c) before) (item.End c (length before + 1), end)

-- the ends of the channels before a channel, and its source
unfoldable pub before_dests : List Chan → End → List (Item × End)
before_dests before source = added_by_each chan_ends before ++ (item.End (length before) 0, source) ∷ []

-- the ends of a channel that are a port of an end before them
unfoldable pub chan_meets : List Chan → Chan → List Broken
chan_meets before chan =
    meets 18 same_end (added_by_each chan_ends before) (item.End (length before) 0, chan.source)
    ++ along (dest_meets (before_dests before chan.source) (length before)) chan.dests

-- an action that is not allowed for the event of its place, or whose plan is none
unfoldable pub action_broken : ℕ → ℕ → ℕ → Action → List Broken
action_broken plans p n action =
    unless (is_allowed (event_numbered n) action) (alone 19 (item.Event p n))
    ++ unless (has_plan plans action) (alone 19 (item.Event p n))

-- what a partition's table of health events breaks
unfoldable pub part_monitor : ℕ → ℕ → Part → List Broken
part_monitor plans p part = monitor_broken plans p (monitor_of part)

-- all that breaks a rule in a configuration, where this many partitions are the most: its ids are its places, and break none
unfoldable pub walk_broken : ℕ → Conf → List Broken
walk_broken most conf =
    rule_1 most conf ++ rule_3 conf ++ memory_rules conf ++ plan_rules conf ++ chan_rules conf
    ++ rule_19 (length conf.plans) (map monitor_of conf.parts) ++ rule_20 conf ++ link_rules conf
