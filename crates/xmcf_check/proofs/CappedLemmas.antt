-- The rules of a configuration say the same of one whose numbers are capped.
use Rattle.std.proofs.Common.{◌≡◌, ℕ, ◌-◌, ◌<◌, ◌≤◌, if◌then◌else◌, nat_lt, nat_le, Bool, true, false, List, ◌++◌, length, map, Option, Some, None, refl, sym, ap, ◌∙◌, arith}
use Rattle.std.specs.Prelude.{slice_get}
use Rattle.std.specs.Str.{bytes_eq}
use Rattle.std.proofs.lemmas.List.{length-map}
use Rattle.std.proofs.lemmas.Option.{slice_get_past}
use Rattle.std.proofs.lemmas.Bool.Decides.{nat_tests}
use Rattle.xm_base.specs.Options.{on}
use Rattle.xm_conf.specs.Along.{added_by_each, along, unless}
use Rattle.xm_conf.specs.Configuration.{Plan, Part, Chan, Conf}
use Rattle.xm_conf.specs.Limits.{most_parts, most_links}
use Rattle.xm_conf.specs.Rules as rules
use Rattle.xm_conf.specs.declared.plan.Slot.{Slot}
use Rattle.xm_conf.specs.declared.channel.ChanKind.{ChanKind}
use Rattle.xm_conf.specs.declared.channel.ChanKind.TheVariants as chan_kind
use Rattle.xm_conf.specs.declared.channel.End.{End}
use Rattle.xm_conf.specs.declared.item.Item.TheVariants as item
use Rattle.xmcf_check.specs.lemmas.Capped.{capped, capped_slot, capped_plan, capped_end, capped_kind, capped_chan, capped_link, capped_part, capped_conf}
use Rattle.xmcf_check.proofs.ListLemmas.{both, each-made, along-made, repeated-made, slice_get-on, sum_by-made}

-- a number is below a limit that a field holds exactly where the capped one is
pub capped-below : (most n limit : ℕ) → limit ≤ most → nat_lt (capped most n) limit ≡ nat_lt n limit
unfolding capped
capped-below most n limit small = at (nat_lt most n) refl
  where
    at : (t : Bool) → nat_lt most n ≡ t → nat_lt (if t then most else n) limit ≡ nat_lt n limit
    at true past = grind (arith, nat_tests)
    at false within = refl

-- a number is at most a limit that a field holds exactly where the capped one is
pub capped-most : (most n limit : ℕ) → limit < most → nat_le (capped most n) limit ≡ nat_le n limit
unfolding capped
capped-most most n limit small = at (nat_lt most n) refl
  where
    at : (t : Bool) → nat_lt most n ≡ t → nat_le (if t then most else n) limit ≡ nat_le n limit
    at true past = grind (arith, nat_tests)
    at false within = refl

-- a number is above a limit that a field holds exactly where the capped one is
pub capped-above : (most n limit : ℕ) → limit < most → nat_lt limit (capped most n) ≡ nat_lt limit n
unfolding capped
capped-above most n limit small = at (nat_lt most n) refl
  where
    at : (t : Bool) → nat_lt most n ≡ t → nat_lt limit (if t then most else n) ≡ nat_lt limit n
    at true past = grind (arith, nat_tests)
    at false within = refl

-- a number that a field holds is not capped
pub capped-kept : (most n : ℕ) → n ≤ most → capped most n ≡ n
unfolding capped
capped-kept most n small = let within : nat_lt most n ≡ false = grind (arith, nat_tests) in rw within refl

-- an element of a list that is no longer than a field holds
pub slice_get-capped : {X : Type 0} (most n : ℕ) (xs : List X) → length xs ≤ most → slice_get xs (capped most n) ≡ slice_get xs n
unfolding capped
slice_get-capped most n xs few = at (nat_lt most n) refl
  where
    at : (t : Bool) → nat_lt most n ≡ t → slice_get xs (if t then most else n) ≡ slice_get xs n
    at true past = let below : length xs ≤ n = grind (arith, nat_tests) in slice_get_past xs most few ∙ sym (slice_get_past xs n below)
    at false within = refl

-- the counts of the lists
list_counts-capped : (conf : Conf) → rules.list_counts (capped_conf conf) ≡ rules.list_counts conf
unfolding rules.list_counts rules.has_some capped_conf
list_counts-capped conf = rw (length-map conf.plans capped_plan, length-map conf.parts capped_part) refl

-- the counts of a plan
plan_counts-capped : (n : ℕ) (plan : Plan) → rules.plan_counts n (capped_plan plan) ≡ rules.plan_counts n plan
unfolding rules.plan_counts capped_plan
plan_counts-capped n plan = rw (length-map plan.slots capped_slot) refl

-- the counts of a partition
part_counts-capped : (n : ℕ) (part : Part) → rules.part_counts most_parts n (capped_part part) ≡ rules.part_counts most_parts n part
unfolding rules.part_counts capped_part
part_counts-capped n part = refl

-- the count of a channel's destinations
dest_counts-capped : (n : ℕ) (kind : ChanKind) (dests : List End) → rules.dest_counts n (capped_kind kind) (map capped_end dests) ≡ rules.dest_counts n kind dests
unfolding rules.dest_counts capped_kind
dest_counts-capped n (chan_kind.Sampling refresh) dests = rw (length-map dests capped_end) refl
dest_counts-capped n (chan_kind.Queuing most) dests = refl

-- the counts of a channel
chan_counts-capped : (n : ℕ) (chan : Chan) → rules.chan_counts n (capped_chan chan) ≡ rules.chan_counts n chan
unfolding rules.chan_counts capped_chan
chan_counts-capped n chan = ap (λ more. unless (nat_lt n 64) (rules.alone 1 (item.Chan n)) ++ more) (dest_counts-capped n chan.kind chan.dests)

-- rule 1
pub rule_1-capped : (conf : Conf) → rules.rule_1 most_parts (capped_conf conf) ≡ rules.rule_1 most_parts conf
unfolding rules.rule_1 capped_conf
rule_1-capped conf =
    both
    (both
    (both (both (list_counts-capped conf) (each-made rules.plan_counts rules.plan_counts capped_plan plan_counts-capped conf.plans))
    (each-made (rules.part_counts most_parts) (rules.part_counts most_parts) capped_part part_counts-capped conf.parts))
    (each-made rules.chan_counts rules.chan_counts capped_chan chan_counts-capped conf.chans))
    (ap (λ count. unless (nat_le count most_links) (rules.alone 1 (item.Link most_links))) (length-map conf.links capped_link))

-- the names of a partition and its ports
part_names-capped : (before : List Part) (part : Part) → rules.part_names (map capped_part before) (capped_part part) ≡ rules.part_names before part
unfolding rules.part_names capped_part
part_names-capped before part =
    both (repeated-made 3 item.Part rules.same_part rules.same_part capped_part (λ a b. refl) before part)
    (ap (λ n. along (rules.repeated 3 (item.Port n) rules.same_port) part.ports) (length-map before capped_part))

-- rule 3
pub rule_3-capped : (conf : Conf) → rules.rule_3 (capped_conf conf) ≡ rules.rule_3 conf
unfolding rules.rule_3 capped_conf
rule_3-capped conf =
    ap (λ more. along (rules.repeated 3 item.Uart bytes_eq) conf.uarts ++ more)
    (along-made rules.part_names rules.part_names capped_part part_names-capped conf.parts)

-- rules 4 to 6
regions-capped : (conf : Conf) → rules.rule_4 (capped_conf conf) ++ rules.rule_5 (capped_conf conf) ++ rules.rule_6 (capped_conf conf)
    ≡ rules.rule_4 conf ++ rules.rule_5 conf ++ rules.rule_6 conf
unfolding rules.rule_4 rules.rule_5 rules.rule_6 capped_conf
regions-capped conf = refl

-- rule 7
rule_7-capped : (conf : Conf) → rules.rule_7 (capped_conf conf) ≡ rules.rule_7 conf
unfolding rules.rule_7 rules.unsized_areas capped_conf capped_part
rule_7-capped conf = each-made rules.unsized_areas rules.unsized_areas capped_part (λ p part. refl) conf.parts

-- rule 8
rule_8-capped : (conf : Conf) → rules.rule_8 (capped_conf conf) ≡ rules.rule_8 conf
unfolding rules.rule_8 rules.outside_areas capped_conf capped_part
rule_8-capped conf = each-made (rules.outside_areas conf.regions) (rules.outside_areas conf.regions) capped_part (λ p part. refl) conf.parts

-- the hypervisor's memory and all areas
stretches-capped : (conf : Conf) → rules.stretches (capped_conf conf) ≡ rules.stretches conf
unfolding rules.stretches rules.part_stretches capped_conf capped_part
stretches-capped conf =
    ap (λ more. rules.whole_stretch (rules.hypervisor conf.hv_size conf.regions) ++ more)
    (each-made rules.part_stretches rules.part_stretches capped_part (λ p part. refl) conf.parts)

-- rule 9
rule_9-capped : (conf : Conf) → rules.rule_9 (capped_conf conf) ≡ rules.rule_9 conf
unfolding rules.rule_9
rule_9-capped conf = ap (λ all. along (rules.meets 9 rules.overlaps) all) (stretches-capped conf)

-- rule 10
rule_10-capped : (conf : Conf) → rules.rule_10 (capped_conf conf) ≡ rules.rule_10 conf
unfolding rules.rule_10 rules.part_size capped_conf capped_part
rule_10-capped conf =
    ap (λ size. unless (nat_le size rules.most_memory) (rules.alone 10 item.Whole)) (sum_by-made rules.part_size rules.part_size capped_part (λ part. refl) conf.parts)

-- rules 4 to 10
pub memory_rules-capped : (conf : Conf) → rules.memory_rules (capped_conf conf) ≡ rules.memory_rules conf
unfolding rules.memory_rules
memory_rules-capped conf =
    both (both (both (both (regions-capped conf) (rule_7-capped conf)) (rule_8-capped conf)) (rule_9-capped conf)) (rule_10-capped conf)

-- a slot's time
late_slot-capped : (p frame n : ℕ) (slot : Slot) → rules.late_slot p frame n (capped_slot slot) ≡ rules.late_slot p frame n slot
unfolding rules.late_slot rules.in_frame capped_slot
late_slot-capped p frame n slot = refl

-- a plan's times
frame_broken-capped : (p : ℕ) (plan : Plan) → rules.frame_broken p (capped_plan plan) ≡ rules.frame_broken p plan
unfolding rules.frame_broken capped_plan
frame_broken-capped p plan =
    ap (λ more. unless (rules.is_time plan.frame) (rules.alone 11 (item.Plan p)) ++ more)
    (each-made (rules.late_slot p plan.frame) (rules.late_slot p plan.frame) capped_slot (late_slot-capped p plan.frame) plan.slots)

-- rule 11
rule_11-capped : (conf : Conf) → rules.rule_11 (capped_conf conf) ≡ rules.rule_11 conf
unfolding rules.rule_11 capped_conf
rule_11-capped conf = each-made rules.frame_broken rules.frame_broken capped_plan frame_broken-capped conf.plans

-- whether a slot follows the one before it
follows-capped : (found : Option Slot) (slot : Slot) → rules.follows (on capped_slot found) (capped_slot slot) ≡ rules.follows found slot
unfolding capped_slot
follows-capped None slot = refl
follows-capped (Some earlier) slot = refl

-- a slot beside the one before it
early_slot-capped : (p : ℕ) (before : List Slot) (slot : Slot) → rules.early_slot p (map capped_slot before) (capped_slot slot) ≡ rules.early_slot p before slot
unfolding rules.early_slot
early_slot-capped p before slot =
    rw (length-map before capped_slot, slice_get-on capped_slot before (length before - 1), follows-capped (slice_get before (length before - 1)) slot) refl

-- the slots of a plan
early_slots-capped : (p : ℕ) (plan : Plan) → rules.early_slots p (capped_plan plan) ≡ rules.early_slots p plan
unfolding rules.early_slots capped_plan
early_slots-capped p plan = along-made (rules.early_slot p) (rules.early_slot p) capped_slot (early_slot-capped p) plan.slots

-- rule 12
rule_12-capped : (conf : Conf) → rules.rule_12 (capped_conf conf) ≡ rules.rule_12 conf
unfolding rules.rule_12 capped_conf
rule_12-capped conf = each-made rules.early_slots rules.early_slots capped_plan early_slots-capped conf.plans

-- a slot's partition
stray_slot-capped : (parts p n : ℕ) (slot : Slot) → parts ≤ 255 → rules.stray_slot parts p n (capped_slot slot) ≡ rules.stray_slot parts p n slot
unfolding rules.stray_slot capped_slot
stray_slot-capped parts p n slot few = ap (λ t. unless t (rules.alone 13 (item.Slot p n))) (capped-below 255 slot.part parts few)

-- the partitions of a plan's slots
stray_slots-capped : (parts p : ℕ) (plan : Plan) → parts ≤ 255 → rules.stray_slots parts p (capped_plan plan) ≡ rules.stray_slots parts p plan
unfolding rules.stray_slots capped_plan
stray_slots-capped parts p plan few =
    each-made (rules.stray_slot parts p) (rules.stray_slot parts p) capped_slot (λ n slot. stray_slot-capped parts p n slot few) plan.slots

-- rule 13
rule_13-capped : (conf : Conf) → length conf.parts ≤ 255 → rules.rule_13 (capped_conf conf) ≡ rules.rule_13 conf
unfolding rules.rule_13 capped_conf
rule_13-capped conf few =
    ap (λ parts. added_by_each (rules.stray_slots parts) (map capped_plan conf.plans)) (length-map conf.parts capped_part)
    ∙ each-made (rules.stray_slots (length conf.parts)) (rules.stray_slots (length conf.parts)) capped_plan
    (λ p plan. stray_slots-capped (length conf.parts) p plan few) conf.plans

-- a console
console-capped : (uarts : ℕ) (console : Option ℕ) → uarts ≤ 255 → rules.is_console uarts (on (capped 255) console) ≡ rules.is_console uarts console
console-capped uarts None few = refl
console-capped uarts (Some uart) few = capped-below 255 uart uarts few

-- a partition's console
no_console-capped : (uarts n : ℕ) (part : Part) → uarts ≤ 255 → rules.no_console uarts n (capped_part part) ≡ rules.no_console uarts n part
unfolding rules.no_console capped_part
no_console-capped uarts n part few = ap (λ t. unless t (rules.alone 14 (item.Part n))) (console-capped uarts part.console few)

-- rule 14
rule_14-capped : (conf : Conf) → length conf.uarts ≤ 255 → rules.rule_14 (capped_conf conf) ≡ rules.rule_14 conf
unfolding rules.rule_14 capped_conf
rule_14-capped conf few =
    each-made (rules.no_console (length conf.uarts)) (rules.no_console (length conf.uarts)) capped_part
    (λ n part. no_console-capped (length conf.uarts) n part few) conf.parts

-- rules 11 to 14
pub plan_rules-capped : (conf : Conf) → length conf.parts ≤ 255 → length conf.uarts ≤ 255 → rules.plan_rules (capped_conf conf) ≡ rules.plan_rules conf
unfolding rules.plan_rules
plan_rules-capped conf parts uarts =
    both (both (both (rule_11-capped conf) (rule_12-capped conf)) (rule_13-capped conf parts)) (rule_14-capped conf uarts)

-- rule 20
pub rule_20-capped : (conf : Conf) → rules.rule_20 (capped_conf conf) ≡ rules.rule_20 conf
unfolding rules.rule_20 rules.unfit_need capped_conf capped_part
rule_20-capped conf = each-made rules.unfit_need rules.unfit_need capped_part (λ n part. refl) conf.parts
