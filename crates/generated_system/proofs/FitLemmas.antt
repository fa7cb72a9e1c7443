-- The configuration of a generated system meets the rules.
use Rattle.std.proofs.Common.{◌≡◌, ℕ, suc, ◌+◌, ◌<◌, ◌≤◌, List, [], ◌∷◌, length, get_or, refl, sym, subst, None, arith}
use Rattle.std.specs.Prelude.{All}
use Rattle.std.proofs.lemmas.List.Elements.{All-cons, All-nil}
use Rattle.std.proofs.lemmas.List.FromFn.{get_or-map-range_with_len, length-map-range_with_len}
use Rattle.std.specs.Fmt.{digits}
use Rattle.xm_conf.specs.Configuration.{Plan}
use Rattle.xm_conf.specs.Description.{described, ids_of, event_numbered, monitor_of}
use Rattle.xm_conf.specs.Fits.{Fits, HasIds, HasSome, InFrame, InTurn, IsTime}
use Rattle.xm_conf.specs.Laws.{IsBrokenUnlessFits}
use Rattle.xm_conf.specs.Limits.{most_parts}
use Rattle.xm_conf.specs.Rules.{page, addresses, most_memory, longest, has_some, plan_counts, part_counts, dest_counts, chan_counts, list_counts, rule_1, plan_misplaced, rule_2, part_names, rule_3, is_paged, is_region, unsized_region, rule_4, overlaps, rule_5, rule_6, unsized_area, unsized_areas, rule_7, has_area, outside_area, outside_areas, rule_8, part_stretches, stretches, rule_9, part_size, rule_10, is_time, in_frame, late_slot, frame_broken, rule_11, early_slot, early_slots, rule_12, stray_slot, stray_slots, rule_13, no_console, rule_14, is_kind, unfit_chan, rule_15, port_at, stray_end, stray_dest, stray_ends, rule_16, wrong_end, wrong_dest, wrong_ends, rule_17, same_end, chan_ends, rule_18, same_event, answer_broken, monitor_broken, rule_19, unfit_need, rule_20, is_link, unfit_link, rule_21, same_link, rule_22, memory_rules, plan_rules, chan_rules, link_rules, all_broken, first_broken}
use Rattle.xm_conf.specs.declared.plan.Slot.{Slot}
use Rattle.generated_system.specs.Generated.{all_chans, all_parts, area_start, chan_of, generated_conf, conf_with, drawn, numbered, generated_part, generated_plan, port_name, slot_drawn, generated_slot, generated_slots, generated_way}

-- slots of one duration
unfoldable even_slots : List Slot
even_slots = numbered (λ i. slot_drawn i 0) 16

-- with these slots no rule is broken
even_unbroken : first_broken most_parts (described (conf_with even_slots)) ≡ None
unfolding digits even_slots slot_drawn conf_with generated_plan all_parts all_chans generated_part chan_of port_name generated_way area_start described ids_of event_numbered monitor_of page addresses most_memory longest has_some plan_counts part_counts dest_counts chan_counts list_counts rule_1 plan_misplaced rule_2 part_names rule_3 is_paged is_region unsized_region rule_4 overlaps rule_5 rule_6 unsized_area unsized_areas rule_7 has_area outside_area outside_areas rule_8 part_stretches stretches rule_9 part_size rule_10 is_time in_frame late_slot frame_broken rule_11 early_slot early_slots rule_12 stray_slot stray_slots rule_13 no_console rule_14 is_kind unfit_chan rule_15 port_at stray_end stray_dest stray_ends rule_16 wrong_end wrong_dest wrong_ends rule_17 same_end chan_ends rule_18 same_event answer_broken monitor_broken rule_19 unfit_need rule_20 is_link unfit_link rule_21 same_link rule_22 memory_rules plan_rules chan_rules link_rules all_broken first_broken
even_unbroken = refl

even_fits : IsBrokenUnlessFits → Fits (described (conf_with even_slots))
even_fits law = (law most_parts (described (conf_with even_slots))).0 even_unbroken

-- the ids are the same, whatever the durations
same_ids : (number : ℕ) → ids_of (generated_conf number) ≡ ids_of (conf_with even_slots)
unfolding ids_of generated_conf conf_with generated_plan generated_slots even_slots slot_drawn
same_ids number = refl

-- how many slots there are, and each of them
length-slots_of : (number : ℕ) → length (generated_slots number) ≡ 16
unfolding generated_slots
length-slots_of number = length-map-range_with_len (generated_slot number) 0 16

slot_at : (number k : ℕ) (d : Slot) → k < 16 → get_or (generated_slots number) k d ≡ generated_slot number k
unfolding generated_slots
slot_at number k d below = get_or-map-range_with_len (generated_slot number) 0 16 k k d below (omega arith)

-- a slot lies in the frame, and is that of a partition
slot_inside : (i x : ℕ) → i < 16 → InFrame 16000 (slot_drawn i x)
unfolding slot_drawn
slot_inside i x below = record { lasts = omega arith; inside = omega (arith, below) }

-- it ends before the next begins
slot_before : (i x y : ℕ) → (slot_drawn i x).start + (slot_drawn i x).duration ≤ (slot_drawn (i + 1) y).start
unfolding slot_drawn
slot_before i x y = omega arith

slot_owned : (i x : ℕ) → i < 16 → (slot_drawn i x).part < 16
unfolding slot_drawn
slot_owned i x below = below

-- a fact on the one plan
one_plan : (P : Plan → Type 0) (number : ℕ) → P (generated_plan (generated_slots number)) → All P (generated_plan (generated_slots number) ∷ [])
one_plan P number is = All-cons P (generated_plan (generated_slots number)) [] is (All-nil P)

slots_inside : (number : ℕ) → All (InFrame 16000) (generated_slots number)
slots_inside number k d below =
    let within : k < 16 = omega (arith, below, length-slots_of number) in
    subst (λ (s : Slot). InFrame 16000 s) (sym (slot_at number k d within)) (slot_inside k (drawn number (suc k)) within)

slots_in_turn : (number : ℕ) → InTurn (generated_slots number)
slots_in_turn number k d below =
    let within : k + 1 < 16 = omega (arith, below, length-slots_of number) in
    let here : k < 16 = omega (arith, within) in
    subst (λ (s : Slot). s.start + s.duration ≤ (get_or (generated_slots number) (k + 1) d).start) (sym (slot_at number k d here))
    (subst (λ (s : Slot). (generated_slot number k).start + (generated_slot number k).duration ≤ s.start) (sym (slot_at number (k + 1) d within))
    (slot_before k (drawn number (suc k)) (drawn number (suc (k + 1)))))

slots_owned : (number : ℕ) → All (λ (s : Slot). s.part < 16) (generated_slots number)
slots_owned number k d below =
    let within : k < 16 = omega (arith, below, length-slots_of number) in
    subst (λ (s : Slot). s.part < 16) (sym (slot_at number k d within)) (slot_owned k (drawn number (suc k)) within)

-- how many partitions there are
length-all_parts : length all_parts ≡ 16
unfolding all_parts
length-all_parts = refl

-- the configuration meets the rules
pub generated_fits : IsBrokenUnlessFits → (number : ℕ) → Fits (described (generated_conf number))
unfolding described generated_conf conf_with stretches generated_plan
generated_fits law number =
    let even = even_fits law in
    let even_time : IsTime 16000 = even.frames 0 (generated_plan even_slots) (omega arith) in
    record {
      counts = record {
        regions = even.counts.regions;
        uarts = even.counts.uarts;
        plans = record { some = omega arith; few = omega arith };
        slots = one_plan (λ plan. HasSome plan.slots 64) number (record { some = omega (arith, length-slots_of number); few = omega (arith, length-slots_of number) });
        parts = even.counts.parts;
        areas = even.counts.areas;
        ports = even.counts.ports;
        chans = even.counts.chans;
        dests = even.counts.dests;
        links = even.counts.links;
      };
      ids = subst (λ ids. HasIds ids) (sym (same_ids number)) even.ids;
      names = record { uarts = even.names.uarts; parts = even.names.parts; ports = even.names.ports };
      regions_sized = even.regions_sized;
      regions_apart = even.regions_apart;
      hypervisor = record { paged = even.hypervisor.paged; some = even.hypervisor.some; inside = even.hypervisor.inside };
      areas_sized = even.areas_sized;
      areas_inside = even.areas_inside;
      areas_apart = even.areas_apart;
      memory = even.memory;
      frames = one_plan (λ plan. IsTime plan.frame) number (record { some = even_time.some; most = even_time.most });
      slots_inside = one_plan (λ plan. All (InFrame plan.frame) plan.slots) number (slots_inside number);
      slots_in_turn = one_plan (λ plan. InTurn plan.slots) number (slots_in_turn number);
      slots_owned = one_plan (λ plan. All (λ slot. slot.part < length all_parts) plan.slots) number (subst (λ n. All (λ (s : Slot). s.part < n) (generated_slots number)) (sym length-all_parts) (slots_owned number));
      consoles = even.consoles;
      messages = even.messages;
      ends_exist = even.ends_exist;
      ends_suit = even.ends_suit;
      ends_differ = even.ends_differ;
      answers = even.answers;
      needs = even.needs;
      links_suit = even.links_suit;
      links_differ = even.links_differ;
    }
