-- The numbers of the rules that are reported first.
use Rattle.std.proofs.Common.{ℕ, ◌+◌, ◌≤◌, Bool, true, false, List, [], ◌∷◌, ◌++◌, length, Option, Some, None, arith}
use Rattle.std.specs.Prelude.{IfSome}
use Rattle.std.specs.Str.{bytes_eq}
use Rattle.xm_conf.specs.Along.{head_of, added_by_each, each_from, along, along_from, unless}
use Rattle.xm_conf.specs.Configuration.{Plan, Part, Chan, Conf}
use Rattle.xm_conf.specs.Description.{HealthAnswer, Monitor}
use Rattle.xm_conf.specs.Limits.{most_parts, most_links}
use Rattle.xm_conf.specs.Rules as rules
use Rattle.xm_conf.specs.declared.channel.ChanKind.{ChanKind}
use Rattle.xm_conf.specs.declared.channel.ChanKind.TheVariants as chan_kind
use Rattle.xm_conf.specs.declared.channel.End.{End}
use Rattle.xm_conf.specs.declared.item.Item.{Item}
use Rattle.xm_conf.specs.declared.item.Item.TheVariants as item
use Rattle.xm_conf.specs.declared.item.Broken.{Broken}

-- the first rule that is reported, where one is, is one of these
pub record Begins (low high : ℕ) (all : List Broken) : Type 0 where
  pub first : IfSome (head_of all) (λ b. (low ≤ b.rule) × (b.rule ≤ high))

-- nothing is reported
pub begins-nil : (low high : ℕ) → Begins low high []
begins-nil low high = record { first = tt }

-- one list after another
pub begins-append : {low high : ℕ} (a b : List Broken) → Begins low high a → Begins low high b → Begins low high (a ++ b)
begins-append [] b first later = later
begins-append (x ∷ a) b first later = record { first = first.first }

-- a test
pub begins-unless : (low high : ℕ) (t : Bool) (b : Broken) → low ≤ b.rule → b.rule ≤ high → Begins low high (unless t b)
begins-unless low high true b from to = record { first = tt }
begins-unless low high false b from to = record { first = (from, to) }

-- an item beside another
pub begins-beside : (low high rule : ℕ) (it : Item) (found : Option Item) → low ≤ rule → rule ≤ high → Begins low high (rules.beside rule it found)
begins-beside low high rule it None from to = record { first = tt }
begins-beside low high rule it (Some other) from to = record { first = (from, to) }

-- numbered elements
pub begins-each : {X : Type 0} {low high : ℕ} (f : ℕ → X → List Broken) → ((n : ℕ) (x : X) → Begins low high (f n x)) → (n : ℕ) (xs : List X)
    → Begins low high (each_from f n xs)
begins-each {low = low} {high = high} f is n [] = begins-nil low high
begins-each f is n (x ∷ xs) = begins-append (f n x) (each_from f (n + 1) xs) (is n x) (begins-each f is (n + 1) xs)

-- elements beside those before them
pub begins-along : {X : Type 0} {low high : ℕ} (f : List X → X → List Broken) → ((before : List X) (x : X) → Begins low high (f before x))
    → (before xs : List X) → Begins low high (along_from f before xs)
begins-along {low = low} {high = high} f is before [] = begins-nil low high
begins-along f is before (x ∷ xs) =
    begins-append (f before x) (along_from f (before ++ x ∷ []) xs) (is before x) (begins-along f is (before ++ x ∷ []) xs)

-- the counts of a plan
plan_counts-begins : (n : ℕ) (plan : Plan) → Begins 1 1 (rules.plan_counts n plan)
unfolding rules.plan_counts
plan_counts-begins n plan =
    begins-append _ (rules.past_limit 64 (item.Slot n) plan.slots)
    (begins-append _ _ (begins-unless 1 1 _ (rules.alone 1 (item.Plan n)) (omega arith) (omega arith))
    (begins-unless 1 1 _ (rules.alone 1 (item.Plan n)) (omega arith) (omega arith)))
    (begins-unless 1 1 _ (rules.alone 1 (item.Slot n 64)) (omega arith) (omega arith))

-- the counts of a partition
part_counts-begins : (n : ℕ) (part : Part) → Begins 1 1 (rules.part_counts most_parts n part)
unfolding rules.part_counts
part_counts-begins n part =
    begins-append _ (rules.past_limit 32 (item.Port n) part.ports)
    (begins-append _ (rules.past_limit 8 (item.Area n) part.areas)
    (begins-append _ _ (begins-unless 1 1 _ (rules.alone 1 (item.Part n)) (omega arith) (omega arith))
    (begins-unless 1 1 _ (rules.alone 1 (item.Part n)) (omega arith) (omega arith)))
    (begins-unless 1 1 _ (rules.alone 1 (item.Area n 8)) (omega arith) (omega arith)))
    (begins-unless 1 1 _ (rules.alone 1 (item.Port n 32)) (omega arith) (omega arith))

-- the count of a channel's destinations
dest_counts-begins : (n : ℕ) (kind : ChanKind) (dests : List End) → Begins 1 1 (rules.dest_counts n kind dests)
unfolding rules.dest_counts
dest_counts-begins n (chan_kind.Sampling refresh) dests = begins-unless 1 1 _ (rules.alone 1 (item.End n 17)) (omega arith) (omega arith)
dest_counts-begins n (chan_kind.Queuing most) dests = begins-nil 1 1

-- the counts of a channel
chan_counts-begins : (n : ℕ) (chan : Chan) → Begins 1 1 (rules.chan_counts n chan)
unfolding rules.chan_counts
chan_counts-begins n chan =
    begins-append _ (rules.dest_counts n chan.kind chan.dests) (begins-unless 1 1 _ (rules.alone 1 (item.Chan n)) (omega arith) (omega arith))
    (dest_counts-begins n chan.kind chan.dests)

-- rule 1
pub rule_1-begins : (conf : Conf) → Begins 1 1 (rules.rule_1 most_parts conf)
unfolding rules.rule_1 rules.list_counts
rule_1-begins conf =
    begins-append _ (rules.past_limit most_links item.Link conf.links)
    (begins-append _ (added_by_each rules.chan_counts conf.chans)
    (begins-append _ (added_by_each (rules.part_counts most_parts) conf.parts)
    (begins-append (rules.list_counts conf) (added_by_each rules.plan_counts conf.plans)
    (begins-append _ (rules.past_limit 8 item.Uart conf.uarts)
    (begins-append _ (rules.past_limit 8 item.Region conf.regions) (begins-unless 1 1 _ (rules.alone 1 item.Whole) (omega arith) (omega arith))
    (begins-unless 1 1 _ (rules.alone 1 (item.Region 8)) (omega arith) (omega arith)))
    (begins-unless 1 1 _ (rules.alone 1 (item.Uart 8)) (omega arith) (omega arith)))
    (begins-each rules.plan_counts plan_counts-begins 0 conf.plans))
    (begins-each (rules.part_counts most_parts) part_counts-begins 0 conf.parts))
    (begins-each rules.chan_counts chan_counts-begins 0 conf.chans))
    (begins-unless 1 1 _ (rules.alone 1 (item.Link most_links)) (omega arith) (omega arith))

-- an item that breaks a rule from 3 to 18, where a test fails
begins-reported : (t : Bool) (rule : ℕ) (first second : Item) → 3 ≤ rule → rule ≤ 18 → Begins 3 18 (unless t (rules.broken rule first second))
begins-reported t rule first second from to = begins-unless 3 18 t (rules.broken rule first second) from to

-- rule 3
rule_3-begins : (conf : Conf) → Begins 3 18 (rules.rule_3 conf)
unfolding rules.rule_3 rules.part_names
rule_3-begins conf =
    begins-append (along (rules.repeated 3 item.Uart bytes_eq) conf.uarts) (along rules.part_names conf.parts)
    (begins-along (rules.repeated 3 item.Uart bytes_eq) (λ before x. begins-beside 3 18 3 _ _ (omega arith) (omega arith)) [] conf.uarts)
    (begins-along rules.part_names
    (λ before part. begins-append (rules.repeated 3 item.Part rules.same_part before part) (along (rules.repeated 3 (item.Port (length before)) rules.same_port) part.ports)
    (begins-beside 3 18 3 _ _ (omega arith) (omega arith))
    (begins-along (rules.repeated 3 (item.Port (length before)) rules.same_port) (λ ports port. begins-beside 3 18 3 _ _ (omega arith) (omega arith)) [] part.ports))
    [] conf.parts)

-- rules 4 to 6
regions-begins : (conf : Conf) → Begins 3 18 (rules.rule_4 conf ++ rules.rule_5 conf ++ rules.rule_6 conf)
unfolding rules.rule_4 rules.unsized_region rules.rule_5 rules.rule_6
regions-begins conf =
    begins-append _ (rules.rule_6 conf)
    (begins-append (rules.rule_4 conf) (rules.rule_5 conf)
    (begins-each rules.unsized_region (λ n region. begins-reported _ 4 (item.Region n) (item.Region n) (omega arith) (omega arith)) 0 conf.regions)
    (begins-along (rules.repeated 5 item.Region rules.overlaps) (λ before region. begins-beside 3 18 5 _ _ (omega arith) (omega arith)) [] conf.regions))
    (begins-reported _ 6 item.Whole item.Whole (omega arith) (omega arith))

-- rule 7
rule_7-begins : (conf : Conf) → Begins 3 18 (rules.rule_7 conf)
unfolding rules.rule_7 rules.unsized_areas rules.unsized_area
rule_7-begins conf =
    begins-each rules.unsized_areas
    (λ p part. begins-each (rules.unsized_area p) (λ n area. begins-reported _ 7 (item.Area p n) (item.Area p n) (omega arith) (omega arith)) 0 part.areas)
    0 conf.parts

-- rule 8
rule_8-begins : (conf : Conf) → Begins 3 18 (rules.rule_8 conf)
unfolding rules.rule_8 rules.outside_areas rules.outside_area
rule_8-begins conf =
    begins-each (rules.outside_areas conf.regions)
    (λ p part. begins-each (rules.outside_area conf.regions p) (λ n area. begins-reported _ 8 (item.Area p n) (item.Area p n) (omega arith) (omega arith)) 0 part.areas)
    0 conf.parts

-- rules 4 to 10
memory_rules-begins : (conf : Conf) → Begins 3 18 (rules.memory_rules conf)
unfolding rules.memory_rules rules.rule_9 rules.rule_10
memory_rules-begins conf =
    begins-append _ (rules.rule_10 conf)
    (begins-append _ (rules.rule_9 conf)
    (begins-append _ (rules.rule_8 conf) (begins-append _ (rules.rule_7 conf) (regions-begins conf) (rule_7-begins conf)) (rule_8-begins conf))
    (begins-along (rules.meets 9 rules.overlaps) (λ before x. begins-beside 3 18 9 _ _ (omega arith) (omega arith)) [] (rules.stretches conf)))
    (begins-reported _ 10 item.Whole item.Whole (omega arith) (omega arith))

-- rules 11 to 14
plan_rules-begins : (conf : Conf) → Begins 3 18 (rules.plan_rules conf)
unfolding rules.plan_rules rules.rule_11 rules.frame_broken rules.late_slot rules.rule_12 rules.early_slots rules.early_slot rules.rule_13 rules.stray_slots rules.stray_slot rules.rule_14 rules.no_console
plan_rules-begins conf =
    begins-append _ (rules.rule_14 conf)
    (begins-append _ (rules.rule_13 conf)
    (begins-append (rules.rule_11 conf) (rules.rule_12 conf)
    (begins-each rules.frame_broken
    (λ p plan. begins-append _ (added_by_each (rules.late_slot p plan.frame) plan.slots) (begins-reported _ 11 (item.Plan p) (item.Plan p) (omega arith) (omega arith))
    (begins-each (rules.late_slot p plan.frame) (λ n slot. begins-reported _ 11 (item.Slot p n) (item.Plan p) (omega arith) (omega arith)) 0 plan.slots))
    0 conf.plans)
    (begins-each rules.early_slots
    (λ p plan. begins-along (rules.early_slot p) (λ before slot. begins-reported _ 12 _ _ (omega arith) (omega arith)) [] plan.slots) 0 conf.plans))
    (begins-each (rules.stray_slots (length conf.parts))
    (λ p plan. begins-each (rules.stray_slot (length conf.parts) p) (λ n slot. begins-reported _ 13 _ _ (omega arith) (omega arith)) 0 plan.slots) 0 conf.plans))
    (begins-each (rules.no_console (length conf.uarts)) (λ n part. begins-reported _ 14 _ _ (omega arith) (omega arith)) 0 conf.parts)

-- rules 15 to 18
chan_rules-begins : (conf : Conf) → Begins 3 18 (rules.chan_rules conf)
unfolding rules.chan_rules rules.rule_15 rules.unfit_chan rules.rule_16 rules.stray_ends rules.stray_dest rules.stray_end rules.rule_17 rules.wrong_ends rules.wrong_dest rules.wrong_end rules.rule_18
chan_rules-begins conf =
    begins-append _ (rules.rule_18 conf)
    (begins-append _ (rules.rule_17 conf)
    (begins-append (rules.rule_15 conf) (rules.rule_16 conf)
    (begins-each rules.unfit_chan (λ n chan. begins-reported _ 15 _ _ (omega arith) (omega arith)) 0 conf.chans)
    (begins-each (rules.stray_ends conf.parts)
    (λ c chan. begins-append _ (added_by_each (rules.stray_dest conf.parts c) chan.dests) (begins-reported _ 16 _ _ (omega arith) (omega arith))
    (begins-each (rules.stray_dest conf.parts c) (λ n end. begins-reported _ 16 _ _ (omega arith) (omega arith)) 0 chan.dests))
    0 conf.chans))
    (begins-each (rules.wrong_ends conf.parts)
    (λ c chan. begins-append _ (added_by_each (rules.wrong_dest conf.parts chan.kind c) chan.dests) (begins-reported _ 17 _ _ (omega arith) (omega arith))
    (begins-each (rules.wrong_dest conf.parts chan.kind c) (λ n end. begins-reported _ 17 _ _ (omega arith) (omega arith)) 0 chan.dests))
    0 conf.chans))
    (begins-along (rules.meets 18 rules.same_end) (λ before x. begins-beside 3 18 18 _ _ (omega arith) (omega arith)) [] (added_by_each rules.chan_ends conf.chans))

-- rules 3 to 18
pub middle-begins : (conf : Conf) → Begins 3 18 (rules.rule_3 conf ++ rules.memory_rules conf ++ rules.plan_rules conf ++ rules.chan_rules conf)
middle-begins conf =
    begins-append _ (rules.chan_rules conf)
    (begins-append _ (rules.plan_rules conf) (begins-append (rules.rule_3 conf) (rules.memory_rules conf) (rule_3-begins conf) (memory_rules-begins conf))
    (plan_rules-begins conf))
    (chan_rules-begins conf)

-- an answer
answer-begins : (plans p : ℕ) (before : List HealthAnswer) (answer : HealthAnswer) → Begins 19 22 (rules.answer_broken plans p before answer)
unfolding rules.answer_broken
answer-begins plans p before answer =
    begins-append _ (unless (rules.has_plan plans answer.action) (rules.alone 19 (item.Event p (length before))))
    (begins-append _ (rules.repeated 19 (item.Event p) rules.same_event before answer)
    (begins-unless 19 22 _ (rules.alone 19 (item.Event p (length before))) (omega arith) (omega arith))
    (begins-beside 19 22 19 _ _ (omega arith) (omega arith)))
    (begins-unless 19 22 _ (rules.alone 19 (item.Event p (length before))) (omega arith) (omega arith))

-- rule 19
pub rule_19-begins : (plans : ℕ) (monitors : List Monitor) → Begins 19 22 (rules.rule_19 plans monitors)
unfolding rules.rule_19 rules.monitor_broken
rule_19-begins plans monitors =
    begins-each (rules.monitor_broken plans)
    (λ p monitor. begins-append _ (along (rules.answer_broken plans p) monitor.answers)
    (begins-unless 19 22 _ (rules.alone 19 (item.Part p)) (omega arith) (omega arith))
    (begins-along (rules.answer_broken plans p) (answer-begins plans p) [] monitor.answers))
    0 monitors

-- rule 20
rule_20-begins : (conf : Conf) → Begins 19 22 (rules.rule_20 conf)
unfolding rules.rule_20 rules.unfit_need
rule_20-begins conf =
    begins-each rules.unfit_need (λ n part. begins-unless 19 22 _ (rules.alone 20 (item.Part n)) (omega arith) (omega arith)) 0 conf.parts

-- rules 20 to 22
pub last-begins : (conf : Conf) → Begins 19 22 (rules.rule_20 conf ++ rules.link_rules conf)
unfolding rules.link_rules rules.rule_21 rules.unfit_link rules.rule_22
last-begins conf =
    begins-append (rules.rule_20 conf) (rules.rule_21 conf ++ rules.rule_22 conf) (rule_20-begins conf)
    (begins-append (rules.rule_21 conf) (rules.rule_22 conf)
    (begins-each (rules.unfit_link (length conf.parts)) (λ n link. begins-unless 19 22 _ (rules.alone 21 (item.Link n)) (omega arith) (omega arith)) 0 conf.links)
    (begins-along (rules.repeated 22 item.Link rules.same_link) (λ before link. begins-beside 19 22 22 _ _ (omega arith) (omega arith)) [] conf.links))
