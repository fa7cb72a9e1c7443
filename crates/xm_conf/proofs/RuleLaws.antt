-- Each rule's list says the rule's fact.
use Rattle.std.proofs.Common.{◌≡◌, ◌≢◌, ℕ, zero, suc, add-one, ◌+◌, ◌-◌, ◌<◌, ◌≤◌, ◌&&◌, nat_lt, nat_le, List, [], ◌∷◌, ◌++◌, length, get_or, take, sum_by, Option, Some, None, refl, sym, ◌∙◌, ap, subst, arith}
use Rattle.std.specs.Prelude.{◌==◌, ◌↔◌, All, AllPairs, Any, IfSome, IsSome, IsTrue, is_some, slice_get}
use Rattle.std.specs.List.{list_any}
use Rattle.std.specs.Str.{bytes_eq}
use Rattle.std.proofs.lemmas.List.{get_or-take, length-take-le}
use Rattle.std.proofs.lemmas.Option.{slice_get-get_or}
use Rattle.std.proofs.lemmas.Bool.Decides.{Decides-and, Decides-eqb}
use Rattle.xm_conf.specs.Along.{head_of, added_by_each, along, unless}
use Rattle.xm_conf.specs.Configuration.{Plan, Part, Chan, Conf}
use Rattle.xm_conf.specs.Description.{PlanIds, Ids, HealthAnswer, Monitor, Description}
use Rattle.xm_conf.specs.Health.{is_allowed}
use Rattle.xm_conf.specs.Rules as rules
use Rattle.xm_conf.specs.Fits.{HasSome, HasFewDests, HasCountsWithin, InOrder, HasIds, HasNames, IsSized, IsRegion, Apart, HasHypervisor, LiesIn, IsTime, InFrame, InTurn, IsChan, HasPorts, IsEnd, SuitsPorts, HasAnswers, IsNeed, IsLink, DifferLinks, FitsWithin}
use Rattle.xm_conf.specs.Limits.{most_dests, most_links}
use Rattle.xm_conf.specs.declared.item.Item.TheVariants as item
use Rattle.xm_conf.specs.declared.health.Action.TheVariants as action
use Rattle.xm_conf.specs.declared.plan.Slot.{Slot}
use Rattle.xm_conf.specs.declared.item.Item.{Item}
use Rattle.xm_conf.specs.declared.channel.ChanKind.{ChanKind}
use Rattle.xm_conf.specs.declared.channel.ChanKind.TheVariants as chan_kind
use Rattle.xm_conf.specs.declared.channel.End.{End}
use Rattle.xm_conf.specs.declared.port.Way.TheVariants as way
use Rattle.xm_conf.proofs.DecidesLemmas.{decides-le, decides-lt, decides-sized, decides-region, decides-apart, decides-lies_in, decides-time, decides-in_frame, decides-fits_into, decides-console, decides-kind, decides-end, decides-same_end, decides-differ, decides-follows, decides-same_event, decides-plan, decides-need, decides-any, decides-link, decides-same_link}
use Rattle.xm_conf.proofs.SaysLemmas.{Says, says-like, says-unless, says-append, says-each, says-all, says-along, says-repeated, says-meets, says-pairs, says-pairs_and, within-limit}

-- a count within its limit
pub says-past : {X : Type 0} (limit : ℕ) (numbered : ℕ → Item) (xs : List X) → Says (rules.past_limit limit numbered xs) (length xs ≤ limit)
says-past limit numbered xs = says-unless (nat_le (length xs) limit) (rules.alone 1 (numbered limit)) (decides-le (length xs) limit)

-- something, and not too much
pub says-some : {X : Type 0} (xs : List X) (limit : ℕ) (it : Item) (numbered : ℕ → Item)
    → Says (unless (nat_lt 0 (length xs)) (rules.alone 1 it) ++ rules.past_limit limit numbered xs) (HasSome xs limit)
says-some xs limit it numbered =
    says-like (unless (nat_lt 0 (length xs)) (rules.alone 1 it) ++ rules.past_limit limit numbered xs) (λ t. record { some = t.0; few = t.1 }) (λ h. (h.some, h.few))
    (says-append (unless (nat_lt 0 (length xs)) (rules.alone 1 it)) (rules.past_limit limit numbered xs)
    (says-unless (nat_lt 0 (length xs)) (rules.alone 1 it) (decides-lt 0 (length xs))) (says-past limit numbered xs))

-- a plan's counts
pub says-plan_counts : (n : ℕ) (plan : Plan) → Says (rules.plan_counts n plan) (n < 8 × HasSome plan.slots 64)
unfolding rules.plan_counts
says-plan_counts n plan =
    says-like (rules.plan_counts n plan) (λ t. (t.0.0, record { some = t.0.1; few = t.1 })) (λ h. ((h.0, h.1.some), h.1.few))
    (says-append _ (rules.past_limit 64 (item.Slot n) plan.slots)
    (says-append (unless (nat_lt n 8) (rules.alone 1 (item.Plan n))) (unless (nat_lt 0 (length plan.slots)) (rules.alone 1 (item.Plan n)))
    (says-unless (nat_lt n 8) (rules.alone 1 (item.Plan n)) (decides-lt n 8))
    (says-unless (nat_lt 0 (length plan.slots)) (rules.alone 1 (item.Plan n)) (decides-lt 0 (length plan.slots))))
    (says-past 64 (item.Slot n) plan.slots))

-- a partition's counts
pub says-part_counts : (most n : ℕ) (part : Part) → Says (rules.part_counts most n part) (n < most × HasSome part.areas 8 × (length part.ports ≤ 32))
unfolding rules.part_counts
says-part_counts most n part =
    says-like (rules.part_counts most n part) (λ t. (t.0.0.0, record { some = t.0.0.1; few = t.0.1 }, t.1)) (λ h. (((h.0, h.1.some), h.1.few), h.2))
    (says-append _ (rules.past_limit 32 (item.Port n) part.ports)
    (says-append _ (rules.past_limit 8 (item.Area n) part.areas)
    (says-append (unless (nat_lt n most) (rules.alone 1 (item.Part n))) (unless (nat_lt 0 (length part.areas)) (rules.alone 1 (item.Part n)))
    (says-unless (nat_lt n most) (rules.alone 1 (item.Part n)) (decides-lt n most))
    (says-unless (nat_lt 0 (length part.areas)) (rules.alone 1 (item.Part n)) (decides-lt 0 (length part.areas))))
    (says-past 8 (item.Area n) part.areas))
    (says-past 32 (item.Port n) part.ports))

-- a channel's destinations
pub says-dest_counts : (n : ℕ) (of : ChanKind) (dests : List End) → Says (rules.dest_counts n of dests) (HasFewDests of dests)
unfolding rules.dest_counts
says-dest_counts n (chan_kind.Sampling refresh) dests = says-unless (nat_le (length dests) most_dests) (rules.alone 1 (item.End n 17)) (decides-le (length dests) most_dests)
says-dest_counts n (chan_kind.Queuing most) dests = record { sound = λ none. tt; complete = λ yes. refl }

-- a channel's counts
pub says-chan_counts : (n : ℕ) (chan : Chan) → Says (rules.chan_counts n chan) (n < 64 × HasFewDests chan.kind chan.dests)
unfolding rules.chan_counts
says-chan_counts n chan =
    says-append (unless (nat_lt n 64) (rules.alone 1 (item.Chan n))) (rules.dest_counts n chan.kind chan.dests)
    (says-unless (nat_lt n 64) (rules.alone 1 (item.Chan n)) (decides-lt n 64)) (says-dest_counts n chan.kind chan.dests)

-- the counts of the lists
pub says-list_counts : (conf : Conf) → Says (rules.list_counts conf)
    ((((0 < length conf.regions) × (0 < length conf.plans)) × (0 < length conf.parts)) × (length conf.regions ≤ 8) × (length conf.uarts ≤ 8))
unfolding rules.list_counts rules.has_some
says-list_counts conf =
    says-like (rules.list_counts conf) (λ t. (t.0.0, t.0.1, t.1)) (λ h. ((h.0, h.1), h.2))
    (says-append _ (rules.past_limit 8 item.Uart conf.uarts)
    (says-append (unless (nat_lt 0 (length conf.regions) && nat_lt 0 (length conf.plans) && nat_lt 0 (length conf.parts)) (rules.alone 1 item.Whole)) (rules.past_limit 8 item.Region conf.regions)
    (says-unless (nat_lt 0 (length conf.regions) && nat_lt 0 (length conf.plans) && nat_lt 0 (length conf.parts)) (rules.alone 1 item.Whole)
    (Decides-and _ _ (Decides-and _ _ (decides-lt 0 (length conf.regions)) (decides-lt 0 (length conf.plans))) (decides-lt 0 (length conf.parts))))
    (says-past 8 item.Region conf.regions))
    (says-past 8 item.Uart conf.uarts))

-- rule 1
pub says-rule_1 : (most : ℕ) (conf : Conf) → Says (rules.rule_1 most conf) (HasCountsWithin most conf)
unfolding rules.rule_1
says-rule_1 most conf =
    says-like (rules.rule_1 most conf)
    (λ t. record {
      regions = record { some = t.0.0.0.0.0.0.0; few = t.0.0.0.0.1 };
      uarts = t.0.0.0.0.2;
      plans = record { some = t.0.0.0.0.0.0.1; few = within-limit conf.plans 8 (λ n d below. (t.0.0.0.1 n d below).0) };
      slots = λ n d below. (t.0.0.0.1 n d below).1;
      parts = record { some = t.0.0.0.0.0.1; few = within-limit conf.parts most (λ n d below. (t.0.0.1 n d below).0) };
      areas = λ n d below. (t.0.0.1 n d below).1;
      ports = λ n d below. (t.0.0.1 n d below).2;
      chans = within-limit conf.chans 64 (λ n d below. (t.0.1 n d below).0);
      dests = λ n d below. (t.0.1 n d below).1;
      links = t.1;
    })
    (λ h. let plans = h.plans.few in let parts = h.parts.few in let chans = h.chans in (
      (
        (
          (
            (((h.regions.some, h.plans.some), h.parts.some), h.regions.few, h.uarts),
            λ n d below. (omega arith, h.slots n d below),
          ),
          λ n d below. (omega arith, h.areas n d below, h.ports n d below),
        ),
        λ n d below. (omega arith, h.dests n d below),
      ),
      h.links,
    ))
    (says-append _ (rules.past_limit most_links item.Link conf.links)
    (says-append _ (added_by_each rules.chan_counts conf.chans)
    (says-append _ (added_by_each (rules.part_counts most) conf.parts)
    (says-append (rules.list_counts conf) (added_by_each rules.plan_counts conf.plans) (says-list_counts conf)
    (says-each rules.plan_counts (λ n plan. n < 8 × HasSome plan.slots 64) says-plan_counts conf.plans))
    (says-each (rules.part_counts most) (λ n part. n < most × HasSome part.areas 8 × (length part.ports ≤ 32)) (says-part_counts most) conf.parts))
    (says-each rules.chan_counts (λ n chan. n < 64 × HasFewDests chan.kind chan.dests) says-chan_counts conf.chans))
    (says-past most_links item.Link conf.links))

-- ids in order
pub says-in_order : (numbered : ℕ → Item) (ids : List ℕ) → Says (added_by_each (rules.misplaced numbered) ids) (InOrder ids)
says-in_order numbered ids =
    says-each (rules.misplaced numbered) (λ n id. id ≡ n) (λ n id. says-unless (id == n) (rules.alone 2 (numbered n)) (Decides-eqb id n)) ids

-- the ids of a plan
pub says-plan_misplaced : (n : ℕ) (ids : PlanIds) → Says (rules.plan_misplaced n ids) ((ids.plan ≡ n) × InOrder ids.slots)
unfolding rules.plan_misplaced
says-plan_misplaced n ids =
    says-append (rules.misplaced item.Plan n ids.plan) (added_by_each (rules.misplaced (item.Slot n)) ids.slots)
    (says-unless (ids.plan == n) (rules.alone 2 (item.Plan n)) (Decides-eqb ids.plan n)) (says-in_order (item.Slot n) ids.slots)

-- rule 2
pub says-rule_2 : (ids : Ids) → Says (rules.rule_2 ids) (HasIds ids)
unfolding rules.rule_2
says-rule_2 ids =
    says-like (rules.rule_2 ids)
    (λ t. record { processor = t.0.0.0; uarts = t.0.0.1; plans = λ n d below. (t.0.1 n d below).0; slots = λ n d below. (t.0.1 n d below).1; parts = t.1 })
    (λ h. (((h.processor, h.uarts), λ n d below. (h.plans n d below, h.slots n d below)), h.parts))
    (says-append _ (added_by_each (rules.misplaced item.Part) ids.parts)
    (says-append _ (added_by_each rules.plan_misplaced ids.plans)
    (says-append (unless (ids.processor == 0) (rules.alone 2 item.Whole)) (added_by_each (rules.misplaced item.Uart) ids.uarts)
    (says-unless (ids.processor == 0) (rules.alone 2 item.Whole) (Decides-eqb ids.processor 0)) (says-in_order item.Uart ids.uarts))
    (says-each rules.plan_misplaced (λ n plan. (plan.plan ≡ n) × InOrder plan.slots) says-plan_misplaced ids.plans))
    (says-in_order item.Part ids.parts))

-- rule 3
pub says-rule_3 : (conf : Conf) → Says (rules.rule_3 conf) (HasNames conf)
unfolding rules.rule_3 rules.part_names
says-rule_3 conf =
    says-like (rules.rule_3 conf) (λ t. record { uarts = t.0; parts = t.1.0; ports = t.1.1 }) (λ n. (n.uarts, (n.parts, n.ports)))
    (says-append (along (rules.repeated 3 item.Uart bytes_eq) conf.uarts) (along rules.part_names conf.parts)
    (says-pairs (λ a b. a ≢ b) (rules.repeated 3 item.Uart bytes_eq) (says-repeated {R = λ a b. a ≢ b} 3 item.Uart bytes_eq decides-differ) conf.uarts)
    (says-pairs_and (λ a b. a.name ≢ b.name) (λ part. AllPairs (λ a b. a.name ≢ b.name) part.ports) rules.part_names
    (λ before part. says-append (rules.repeated 3 item.Part rules.same_part before part) (along (rules.repeated 3 (item.Port (length before)) rules.same_port) part.ports)
    (says-repeated {R = λ a b. a.name ≢ b.name} 3 item.Part rules.same_part (λ a b. decides-differ a.name b.name) before part)
    (says-pairs (λ a b. a.name ≢ b.name) (rules.repeated 3 (item.Port (length before)) rules.same_port)
    (says-repeated {R = λ a b. a.name ≢ b.name} 3 (item.Port (length before)) rules.same_port (λ a b. decides-differ a.name b.name)) part.ports))
    conf.parts))

-- rule 4
pub says-rule_4 : (conf : Conf) → Says (rules.rule_4 conf) (All IsRegion conf.regions)
unfolding rules.rule_4 rules.unsized_region
says-rule_4 conf =
    says-all rules.unsized_region IsRegion (λ n region. says-unless (rules.is_region region) (rules.alone 4 (item.Region n)) (decides-region region)) conf.regions

-- rule 5
pub says-rule_5 : (conf : Conf) → Says (rules.rule_5 conf) (AllPairs Apart conf.regions)
unfolding rules.rule_5
says-rule_5 conf = says-pairs Apart (rules.repeated 5 item.Region rules.overlaps) (says-repeated {R = Apart} 5 item.Region rules.overlaps decides-apart) conf.regions

-- rule 6
pub says-rule_6 : (conf : Conf) → Says (rules.rule_6 conf) (HasHypervisor conf)
unfolding rules.rule_6 rules.is_paged
says-rule_6 conf =
    says-like (rules.rule_6 conf) (λ t. record { paged = t.0.0; some = t.0.1; inside = t.1 }) (λ h. ((h.paged, h.some), h.inside))
    (says-unless _ (rules.alone 6 item.Whole)
    (Decides-and _ _ (Decides-and _ _ (Decides-eqb _ 0) (decides-lt 0 conf.hv_size)) (decides-fits_into conf.hv_size (slice_get conf.regions 0))))

-- rule 7
pub says-rule_7 : (conf : Conf) → Says (rules.rule_7 conf) (All (λ part. All (λ area. IsSized area.start area.size) part.areas) conf.parts)
unfolding rules.rule_7 rules.unsized_areas rules.unsized_area
says-rule_7 conf =
    says-all rules.unsized_areas (λ part. All (λ area. IsSized area.start area.size) part.areas)
    (λ p part. says-all (rules.unsized_area p) (λ area. IsSized area.start area.size)
    (λ n area. says-unless (rules.is_sized area.start area.size) (rules.alone 7 (item.Area p n)) (decides-sized area.start area.size)) part.areas)
    conf.parts

-- rule 8
pub says-rule_8 : (conf : Conf) → Says (rules.rule_8 conf) (All (λ part. All (λ area. Any (LiesIn area) conf.regions) part.areas) conf.parts)
unfolding rules.rule_8 rules.outside_areas rules.outside_area
says-rule_8 conf =
    says-all (rules.outside_areas conf.regions) (λ part. All (λ area. Any (LiesIn area) conf.regions) part.areas)
    (λ p part. says-all (rules.outside_area conf.regions p) (λ area. Any (LiesIn area) conf.regions)
    (λ n area. says-unless (list_any (rules.has_area area) conf.regions) (rules.alone 8 (item.Area p n))
    (decides-any {P = LiesIn area} (rules.has_area area) (decides-lies_in area) conf.regions)) part.areas)
    conf.parts

-- rule 9
pub says-rule_9 : (conf : Conf) → Says (rules.rule_9 conf) (AllPairs (λ a b. Apart a.1 b.1) (rules.stretches conf))
unfolding rules.rule_9
says-rule_9 conf = says-pairs (λ a b. Apart a.1 b.1) (rules.meets 9 rules.overlaps) (says-meets {R = Apart} 9 rules.overlaps decides-apart) (rules.stretches conf)

-- rule 10
pub says-rule_10 : (conf : Conf) → Says (rules.rule_10 conf) (sum_by rules.part_size conf.parts ≤ rules.most_memory)
unfolding rules.rule_10
says-rule_10 conf = says-unless (nat_le (sum_by rules.part_size conf.parts) rules.most_memory) (rules.alone 10 item.Whole) (decides-le (sum_by rules.part_size conf.parts) rules.most_memory)

-- rule 11
pub says-rule_11 : (conf : Conf) → Says (rules.rule_11 conf) (All (λ plan. IsTime plan.frame) conf.plans × All (λ plan. All (InFrame plan.frame) plan.slots) conf.plans)
unfolding rules.rule_11 rules.frame_broken rules.late_slot
says-rule_11 conf =
    says-like (rules.rule_11 conf) (λ all. (λ n d below. (all n d below).0, λ n d below. (all n d below).1)) (λ both n d below. (both.0 n d below, both.1 n d below))
    (says-all rules.frame_broken (λ plan. IsTime plan.frame × All (InFrame plan.frame) plan.slots)
    (λ p plan. says-append (unless (rules.is_time plan.frame) (rules.alone 11 (item.Plan p))) (added_by_each (rules.late_slot p plan.frame) plan.slots)
    (says-unless (rules.is_time plan.frame) (rules.alone 11 (item.Plan p)) (decides-time plan.frame))
    (says-all (rules.late_slot p plan.frame) (InFrame plan.frame)
    (λ n slot. says-unless (rules.in_frame plan.frame slot) (rules.broken 11 (item.Slot p n) (item.Plan p)) (decides-in_frame plan.frame slot)) plan.slots))
    conf.plans)

-- the last of the first elements
pub slice_get-front : {X : Type 0} (xs : List X) (n : ℕ) (d : X) → n + 1 < length xs → slice_get (take (n + 1) xs) (length (take (n + 1) xs) - 1) ≡ Some (get_or xs n d)
slice_get-front xs n d below =
    let counted : length (take (n + 1) xs) ≡ n + 1 = length-take-le (n + 1) xs (omega arith) in
    let place : length (take (n + 1) xs) - 1 ≡ n = omega arith in
    ap (slice_get (take (n + 1) xs)) place ∙ slice_get-get_or (take (n + 1) xs) n d (omega arith) ∙ ap Some (get_or-take (n + 1) xs n d (omega arith))

-- a slot starts at or after the end of another, where there is one
abbrev After : Slot → Option Slot → Type 0
After slot earlier = IfSome earlier (λ e. e.start + e.duration ≤ slot.start)

-- each slot follows the one before it exactly where all are in turn
pub in_turn-from_each : (slots : List Slot) → ((n : ℕ) (d : Slot) → n < length slots → After (get_or slots n d) (slice_get (take n slots) (length (take n slots) - 1))) → InTurn slots
in_turn-from_each slots all n d below = subst (After (get_or slots (n + 1) d)) (slice_get-front slots n d below) (all (n + 1) d below)

-- where all slots are in turn, each follows the one before it
pub in_turn-to_each : (slots : List Slot) → InTurn slots → (n : ℕ) (d : Slot) → n < length slots → After (get_or slots n d) (slice_get (take n slots) (length (take n slots) - 1))
in_turn-to_each slots turn zero d below = tt
in_turn-to_each slots turn (suc n) d below =
    let within : n + 1 < length slots = omega arith in
    subst (λ (k : ℕ). After (get_or slots k d) (slice_get (take k slots) (length (take k slots) - 1))) (add-one n)
    (subst (After (get_or slots (n + 1) d)) (sym (slice_get-front slots n d within)) (turn n d within))

-- rule 12
pub says-rule_12 : (conf : Conf) → Says (rules.rule_12 conf) (All (λ plan. InTurn plan.slots) conf.plans)
unfolding rules.rule_12 rules.early_slots rules.early_slot
says-rule_12 conf =
    says-all rules.early_slots (λ plan. InTurn plan.slots)
    (λ p plan. says-like (rules.early_slots p plan) (in_turn-from_each plan.slots) (in_turn-to_each plan.slots)
    (says-along (rules.early_slot p) (λ before slot. IfSome (slice_get before (length before - 1)) (λ e. e.start + e.duration ≤ slot.start))
    (λ before slot. says-unless (rules.follows (slice_get before (length before - 1)) slot) (rules.broken 12 (item.Slot p (length before)) (item.Slot p (length before - 1)))
    (decides-follows (slice_get before (length before - 1)) slot)) plan.slots))
    conf.plans

-- rule 13
pub says-rule_13 : (conf : Conf) → Says (rules.rule_13 conf) (All (λ plan. All (λ slot. slot.part < length conf.parts) plan.slots) conf.plans)
unfolding rules.rule_13 rules.stray_slots rules.stray_slot
says-rule_13 conf =
    says-all (rules.stray_slots (length conf.parts)) (λ plan. All (λ slot. slot.part < length conf.parts) plan.slots)
    (λ p plan. says-all (rules.stray_slot (length conf.parts) p) (λ slot. slot.part < length conf.parts)
    (λ n slot. says-unless (nat_lt slot.part (length conf.parts)) (rules.alone 13 (item.Slot p n)) (decides-lt slot.part (length conf.parts))) plan.slots)
    conf.plans

-- rule 14
pub says-rule_14 : (conf : Conf) → Says (rules.rule_14 conf) (All (λ part. IfSome part.console (λ uart. uart < length conf.uarts)) conf.parts)
unfolding rules.rule_14 rules.no_console
says-rule_14 conf =
    says-all (rules.no_console (length conf.uarts)) (λ part. IfSome part.console (λ uart. uart < length conf.uarts))
    (λ n part. says-unless (rules.is_console (length conf.uarts) part.console) (rules.alone 14 (item.Part n)) (decides-console (length conf.uarts) part.console)) conf.parts

-- rule 15
pub says-rule_15 : (conf : Conf) → Says (rules.rule_15 conf) (All IsChan conf.chans)
unfolding rules.rule_15 rules.unfit_chan
says-rule_15 conf =
    says-all rules.unfit_chan IsChan
    (λ n chan. says-like (rules.unfit_chan n chan) (λ t. record { some = t.0.0; most = t.0.1; kind = t.1 }) (λ f. ((f.some, f.most), f.kind))
    (says-unless (nat_lt 0 chan.length && nat_le chan.length 4096 && rules.is_kind chan.kind chan.dests) (rules.alone 15 (item.Chan n))
    (Decides-and _ _ (Decides-and _ _ (decides-lt 0 chan.length) (decides-le chan.length 4096)) (decides-kind chan.kind chan.dests))))
    conf.chans

-- rule 16
pub says-rule_16 : (conf : Conf) → Says (rules.rule_16 conf) (All (HasPorts conf.parts) conf.chans)
unfolding rules.rule_16 rules.stray_ends rules.stray_dest rules.stray_end
says-rule_16 conf =
    says-all (rules.stray_ends conf.parts) (HasPorts conf.parts)
    (λ c chan. says-like (rules.stray_ends conf.parts c chan) (λ t. record { source = t.0; dests = t.1 }) (λ h. (h.source, h.dests))
    (says-append (rules.stray_end conf.parts (item.End c 0) chan.source) (added_by_each (rules.stray_dest conf.parts c) chan.dests)
    (one (item.End c 0) chan.source)
    (says-all (rules.stray_dest conf.parts c) (λ end. IsSome (rules.port_at conf.parts end)) (λ n end. one (item.End c (n + 1)) end) chan.dests)))
    conf.chans
  where
    one : (it : Item) (end : End) → Says (unless (is_some (rules.port_at conf.parts end)) (rules.alone 16 it)) (IsSome (rules.port_at conf.parts end))
    one it end = says-unless (is_some (rules.port_at conf.parts end)) (rules.alone 16 it) (λ t. t, λ t. t)

-- rule 17
pub says-rule_17 : (conf : Conf) → Says (rules.rule_17 conf) (All (SuitsPorts conf.parts) conf.chans)
unfolding rules.rule_17 rules.wrong_ends rules.wrong_dest rules.wrong_end
says-rule_17 conf =
    says-all (rules.wrong_ends conf.parts) (SuitsPorts conf.parts)
    (λ c chan. says-like (rules.wrong_ends conf.parts c chan) (λ t. record { source = t.0; dests = t.1 }) (λ h. (h.source, h.dests))
    (says-append (rules.wrong_end conf.parts chan.kind way.Source (item.End c 0) chan.source) (added_by_each (rules.wrong_dest conf.parts chan.kind c) chan.dests)
    (says-unless (rules.may_be_end chan.kind way.Source (rules.port_at conf.parts chan.source)) (rules.alone 17 (item.End c 0))
    (decides-end chan.kind way.Source (rules.port_at conf.parts chan.source)))
    (says-all (rules.wrong_dest conf.parts chan.kind c) (λ end. IfSome (rules.port_at conf.parts end) (IsEnd chan.kind way.Destination))
    (λ n end. says-unless (rules.may_be_end chan.kind way.Destination (rules.port_at conf.parts end)) (rules.alone 17 (item.End c (n + 1)))
    (decides-end chan.kind way.Destination (rules.port_at conf.parts end))) chan.dests)))
    conf.chans

-- rule 18
pub says-rule_18 : (conf : Conf) → Says (rules.rule_18 conf) (AllPairs (λ a b. a.1 ≢ b.1) (added_by_each rules.chan_ends conf.chans))
unfolding rules.rule_18
says-rule_18 conf = says-pairs (λ a b. a.1 ≢ b.1) (rules.meets 18 rules.same_end) (says-meets {R = λ a b. a ≢ b} 18 rules.same_end decides-same_end) (added_by_each rules.chan_ends conf.chans)

-- an answer of a partition
pub says-answer : (plans p : ℕ) (before : List HealthAnswer) (answer : HealthAnswer) → Says (rules.answer_broken plans p before answer)
    (All (λ earlier. earlier.event ≢ answer.event) before × (IsTrue (is_allowed answer.event answer.action) × (answer.action ≡ action.SwitchToMaintenance → 1 < plans)))
unfolding rules.answer_broken
says-answer plans p before answer =
    let it : Item = item.Event p (length before) in
    says-like (rules.answer_broken plans p before answer) (λ t. (t.0.1, (t.0.0, t.1))) (λ h. ((h.1.0, h.0), h.1.1))
    (says-append _ (unless (rules.has_plan plans answer.action) (rules.alone 19 it))
    (says-append (unless (is_allowed answer.event answer.action) (rules.alone 19 it)) (rules.repeated 19 (item.Event p) rules.same_event before answer)
    (says-unless (is_allowed answer.event answer.action) (rules.alone 19 it) (λ t. t, λ t. t))
    (says-repeated {R = λ a b. a.event ≢ b.event} 19 (item.Event p) rules.same_event decides-same_event before answer))
    (says-unless (rules.has_plan plans answer.action) (rules.alone 19 it) (decides-plan plans answer.action)))

-- what a partition says of health events
pub says-monitor : (plans p : ℕ) (monitor : Monitor) → Says (rules.monitor_broken plans p monitor) (HasAnswers plans monitor)
unfolding rules.monitor_broken
says-monitor plans p monitor =
    says-like (rules.monitor_broken plans p monitor)
    (λ t. record { logged = t.0; allowed = λ n d below. (t.1.1 n d below).0; once = t.1.0; maintenance = λ n d below. (t.1.1 n d below).1 })
    (λ h. (h.logged, (h.once, λ n d below. (h.allowed n d below, h.maintenance n d below))))
    (says-append (unless (nat_lt monitor.logged 4096) (rules.alone 19 (item.Part p))) (along (rules.answer_broken plans p) monitor.answers)
    (says-unless (nat_lt monitor.logged 4096) (rules.alone 19 (item.Part p)) (decides-lt monitor.logged 4096))
    (says-pairs_and (λ a b. a.event ≢ b.event) (λ answer. IsTrue (is_allowed answer.event answer.action) × (answer.action ≡ action.SwitchToMaintenance → 1 < plans))
    (rules.answer_broken plans p) (says-answer plans p) monitor.answers))

-- rule 19
pub says-rule_19 : (plans : ℕ) (monitors : List Monitor) → Says (rules.rule_19 plans monitors) (All (HasAnswers plans) monitors)
unfolding rules.rule_19
says-rule_19 plans monitors = says-all (rules.monitor_broken plans) (HasAnswers plans) (says-monitor plans) monitors

-- rule 20
pub says-rule_20 : (conf : Conf) → Says (rules.rule_20 conf) (All (λ part. IfSome part.need IsNeed) conf.parts)
unfolding rules.rule_20 rules.unfit_need
says-rule_20 conf =
    says-all rules.unfit_need (λ part. IfSome part.need IsNeed)
    (λ n part. says-unless (rules.is_need part.need) (rules.alone 20 (item.Part n)) (decides-need part.need)) conf.parts

-- rule 21
pub says-rule_21 : (conf : Conf) → Says (rules.rule_21 conf) (All (IsLink (length conf.parts)) conf.links)
unfolding rules.rule_21 rules.unfit_link
says-rule_21 conf =
    says-all (rules.unfit_link (length conf.parts)) (IsLink (length conf.parts))
    (λ n link. says-unless (rules.is_link (length conf.parts) link) (rules.alone 21 (item.Link n)) (decides-link (length conf.parts) link)) conf.links

-- rule 22
pub says-rule_22 : (conf : Conf) → Says (rules.rule_22 conf) (AllPairs DifferLinks conf.links)
unfolding rules.rule_22
says-rule_22 conf =
    says-pairs DifferLinks (rules.repeated 22 item.Link rules.same_link)
    (says-repeated {R = DifferLinks} 22 item.Link rules.same_link decides-same_link) conf.links

-- the rules on memory
pub says-memory : (conf : Conf) → Says (rules.memory_rules conf)
    (All IsRegion conf.regions × AllPairs Apart conf.regions × HasHypervisor conf × All (λ part. All (λ area. IsSized area.start area.size) part.areas) conf.parts
    × All (λ part. All (λ area. Any (LiesIn area) conf.regions) part.areas) conf.parts × AllPairs (λ a b. Apart a.1 b.1) (rules.stretches conf)
    × (sum_by rules.part_size conf.parts ≤ rules.most_memory))
unfolding rules.memory_rules
says-memory conf =
    says-like (rules.memory_rules conf) (λ t. (t.0.0.0.0.0.0, t.0.0.0.0.0.1, t.0.0.0.0.1, t.0.0.0.1, t.0.0.1, t.0.1, t.1)) (λ h. ((((((h.0, h.1), h.2), h.3), h.4), h.5), h.6))
    (says-append _ (rules.rule_10 conf) (says-append _ (rules.rule_9 conf) (says-append _ (rules.rule_8 conf) (says-append _ (rules.rule_7 conf)
    (says-append _ (rules.rule_6 conf) (says-append (rules.rule_4 conf) (rules.rule_5 conf) (says-rule_4 conf) (says-rule_5 conf)) (says-rule_6 conf))
    (says-rule_7 conf)) (says-rule_8 conf)) (says-rule_9 conf)) (says-rule_10 conf))

-- the rules on plans and consoles
pub says-plans : (conf : Conf) → Says (rules.plan_rules conf)
    ((All (λ plan. IsTime plan.frame) conf.plans × All (λ plan. All (InFrame plan.frame) plan.slots) conf.plans) × All (λ plan. InTurn plan.slots) conf.plans
    × All (λ plan. All (λ slot. slot.part < length conf.parts) plan.slots) conf.plans × All (λ part. IfSome part.console (λ uart. uart < length conf.uarts)) conf.parts)
unfolding rules.plan_rules
says-plans conf =
    says-like (rules.plan_rules conf) (λ t. (t.0.0.0, t.0.0.1, t.0.1, t.1)) (λ h. (((h.0, h.1), h.2), h.3))
    (says-append _ (rules.rule_14 conf) (says-append _ (rules.rule_13 conf) (says-append (rules.rule_11 conf) (rules.rule_12 conf) (says-rule_11 conf) (says-rule_12 conf))
    (says-rule_13 conf)) (says-rule_14 conf))

-- the rules on channels
pub says-chans : (conf : Conf) → Says (rules.chan_rules conf)
    (All IsChan conf.chans × All (HasPorts conf.parts) conf.chans × All (SuitsPorts conf.parts) conf.chans × AllPairs (λ a b. a.1 ≢ b.1) (added_by_each rules.chan_ends conf.chans))
unfolding rules.chan_rules
says-chans conf =
    says-like (rules.chan_rules conf) (λ t. (t.0.0.0, t.0.0.1, t.0.1, t.1)) (λ h. (((h.0, h.1), h.2), h.3))
    (says-append _ (rules.rule_18 conf) (says-append _ (rules.rule_17 conf) (says-append (rules.rule_15 conf) (rules.rule_16 conf) (says-rule_15 conf) (says-rule_16 conf))
    (says-rule_17 conf)) (says-rule_18 conf))

-- the rules on links
pub says-links : (conf : Conf) → Says (rules.link_rules conf) (All (IsLink (length conf.parts)) conf.links × AllPairs DifferLinks conf.links)
unfolding rules.link_rules
says-links conf = says-append (rules.rule_21 conf) (rules.rule_22 conf) (says-rule_21 conf) (says-rule_22 conf)

-- all rules
pub says-all_broken : (most : ℕ) (d : Description) → Says (rules.all_broken most d) (FitsWithin most d)
unfolding rules.all_broken
says-all_broken most d =
    says-like (rules.all_broken most d)
    (λ t. record {
      counts = t.0.0.0.0.0.0.0.0;
      ids = t.0.0.0.0.0.0.0.1;
      names = t.0.0.0.0.0.0.1;
      regions_sized = t.0.0.0.0.0.1.0;
      regions_apart = t.0.0.0.0.0.1.1;
      hypervisor = t.0.0.0.0.0.1.2;
      areas_sized = t.0.0.0.0.0.1.3;
      areas_inside = t.0.0.0.0.0.1.4;
      areas_apart = t.0.0.0.0.0.1.5;
      memory = t.0.0.0.0.0.1.6;
      frames = t.0.0.0.0.1.0.0;
      slots_inside = t.0.0.0.0.1.0.1;
      slots_in_turn = t.0.0.0.0.1.1;
      slots_owned = t.0.0.0.0.1.2;
      consoles = t.0.0.0.0.1.3;
      messages = t.0.0.0.1.0;
      ends_exist = t.0.0.0.1.1;
      ends_suit = t.0.0.0.1.2;
      ends_differ = t.0.0.0.1.3;
      answers = t.0.0.1;
      needs = t.0.1;
      links_suit = t.1.0;
      links_differ = t.1.1;
    })
    (λ f. (
      (
        (
          (
            (
              (((f.counts, f.ids), f.names), (f.regions_sized, f.regions_apart, f.hypervisor, f.areas_sized, f.areas_inside, f.areas_apart, f.memory)),
              ((f.frames, f.slots_inside), f.slots_in_turn, f.slots_owned, f.consoles),
            ),
            (f.messages, f.ends_exist, f.ends_suit, f.ends_differ),
          ),
          f.answers,
        ),
        f.needs,
      ),
      (f.links_suit, f.links_differ),
    ))
    (says-append _ (rules.link_rules d.conf) (says-append _ (rules.rule_20 d.conf) (says-append _ (rules.rule_19 (length d.conf.plans) d.monitors) (says-append _ (rules.chan_rules d.conf)
    (says-append _ (rules.plan_rules d.conf) (says-append _ (rules.memory_rules d.conf) (says-append _ (rules.rule_3 d.conf)
    (says-append (rules.rule_1 most d.conf) (rules.rule_2 d.ids) (says-rule_1 most d.conf) (says-rule_2 d.ids)) (says-rule_3 d.conf)) (says-memory d.conf)) (says-plans d.conf))
    (says-chans d.conf)) (says-rule_19 (length d.conf.plans) d.monitors)) (says-rule_20 d.conf)) (says-links d.conf))

-- nothing comes first exactly where there is nothing
pub none-first : {Y : Type 0} {P : Type 0} (ys : List Y) → Says ys P → (head_of ys ≡ None → P) × (P → head_of ys ≡ None)
none-first [] s = (λ none. s.sound refl, λ p. refl)
none-first (y ∷ ys) s = (λ none. absurd (let never : ⊥ = cc in never), λ p. absurd (let no : y ∷ ys ≡ [] = s.complete p in let never : ⊥ = cc in never))

-- no rule is broken exactly where the description fits
pub first_broken_none : (most : ℕ) (d : Description) → (rules.first_broken most d ≡ None) ↔ FitsWithin most d
unfolding rules.first_broken
first_broken_none most d = none-first (rules.all_broken most d) (says-all_broken most d)
