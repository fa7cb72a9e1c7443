-- The system of a raw image is one.
use Rattle.std.proofs.Common.{◌≡◌, ℕ, List, [], ◌∷◌, length, refl, sym, ap, subst, ◌∙◌, false, Some, None, arith, inl}
use Rattle.std.specs.Prelude.{Any}
use Rattle.std.proofs.lemmas.List.Elements.{All-cons, All-nil}
use Rattle.xm_conf.specs.Description.{described, ids_of, event_numbered, monitor_of}
use Rattle.xm_conf.specs.Limits.{most_parts}
use Rattle.xm_conf.specs.Rules.{page, addresses, most_memory, longest, has_some, plan_counts, part_counts, dest_counts, chan_counts, list_counts, rule_1, plan_misplaced, rule_2, part_names, rule_3, is_paged, is_region, unsized_region, rule_4, overlaps, rule_5, rule_6, unsized_area, unsized_areas, rule_7, has_area, outside_area, outside_areas, rule_8, part_stretches, stretches, rule_9, part_size, rule_10, is_time, in_frame, late_slot, frame_broken, rule_11, early_slot, early_slots, rule_12, stray_slot, stray_slots, rule_13, no_console, rule_14, is_kind, unfit_chan, rule_15, port_at, stray_end, stray_dest, stray_ends, rule_16, wrong_end, wrong_dest, wrong_ends, rule_17, same_end, chan_ends, rule_18, same_event, answer_broken, monitor_broken, rule_19, unfit_need, rule_20, is_link, unfit_link, rule_21, same_link, rule_22, memory_rules, plan_rules, chan_rules, link_rules, all_broken, first_broken}
use Rattle.xm_conf.specs.Configuration.{Conf}
use Rattle.xm_conf.specs.declared.item.Broken.{Broken}
use Rattle.xm_conf.specs.declared.part.Area.{Area}
use Rattle.xef_images.specs.Image.{Image, IsImage, Segment}
use Rattle.loaded_system.specs.System.{AreInside, HasSegment}
use Rattle.loaded_system.specs.Bare.{IsImageLength, bare_conf, bare_image, bare_part, bare_plan, bare_regions}

-- the configuration breaks no rule
pub bare_unbroken : first_broken most_parts (described bare_conf) ≡ None
unfolding bare_conf bare_part bare_plan bare_regions described ids_of event_numbered monitor_of page addresses most_memory longest has_some plan_counts part_counts dest_counts chan_counts list_counts rule_1 plan_misplaced rule_2 part_names rule_3 is_paged is_region unsized_region rule_4 overlaps rule_5 rule_6 unsized_area unsized_areas rule_7 has_area outside_area outside_areas rule_8 part_stretches stretches rule_9 part_size rule_10 is_time in_frame late_slot frame_broken rule_11 early_slot early_slots rule_12 stray_slot stray_slots rule_13 no_console rule_14 is_kind unfit_chan rule_15 port_at stray_end stray_dest stray_ends rule_16 wrong_end wrong_dest wrong_ends rule_17 same_end chan_ends rule_18 same_event answer_broken monitor_broken rule_19 unfit_need rule_20 is_link unfit_link rule_21 same_link rule_22 memory_rules plan_rules chan_rules link_rules all_broken first_broken
bare_unbroken = refl

-- the image may be loaded
pub bare_loads : (image : List ℕ) → IsImageLength (length image) → IsImage (bare_image image)
unfolding bare_image
bare_loads image long = record {
  some = omega arith;
  most = omega arith;
  each = (record { some = long.some; said = omega (arith, long.most); ends = omega (arith, long.most); fits = omega arith }, tt);
  apart = (tt, tt);
  aligned = refl;
  inside = inl (omega arith, omega (arith, long.some));
  short = omega (arith, long.most);
}

-- a configuration that is this one breaks no rule
pub bare_not_broken : (conf : Conf) (broken : Broken) → conf ≡ bare_conf → first_broken most_parts (described conf) ≡ Some broken → ⊥
bare_not_broken conf broken is some =
    let none : first_broken most_parts (described conf) ≡ None = ap (λ c. first_broken most_parts (described c)) is ∙ bare_unbroken in
    let wrong : ⊥ = cc in wrong

-- the image lies inside the partition's area
bare_inside : (image : List ℕ) → IsImageLength (length image) → AreInside bare_conf.parts (bare_image image ∷ [])
unfolding bare_conf bare_part bare_image
bare_inside image long =
    let segment : Segment = record { address = 0x4000_0000; memory = length image; bytes = image } in
    let area : Area = record { start = 0x4000_0000; size = 0x10_0000; read_only = false } in
    let has : HasSegment segment area = record { start = omega arith; end = omega (arith, long.most) } in
    let inside : Any (HasSegment segment) (area ∷ []) = (0, area, omega arith, refl, has) in
    (All-cons (λ s. Any (HasSegment s) (area ∷ [])) segment [] inside (All-nil (λ s. Any (HasSegment s) (area ∷ []))), tt)

-- there is one partition
one_part : length bare_conf.parts ≡ 1
unfolding bare_conf
one_part = refl

-- there is an image for each partition
pub bare_counted : (conf : Conf) (images : List Image) (image : Image) → conf ≡ bare_conf → images ≡ image ∷ [] → length images ≡ length conf.parts
bare_counted conf images image is one = ap length one ∙ sym (ap (λ c. length c.parts) is ∙ one_part)

-- each image lies inside its partition
pub bare_all_inside : (conf : Conf) (images : List Image) (xef : Image) (image : List ℕ) → IsImageLength (length image) → conf ≡ bare_conf → xef ≡ bare_image image → images ≡ xef ∷ []
    → AreInside conf.parts images
bare_all_inside conf images xef image long is is_xef one =
    subst (λ (c : Conf). AreInside c.parts images) (sym is)
    (subst (λ (list : List Image). AreInside bare_conf.parts list) (sym (one ∙ ap (λ i. i ∷ []) is_xef)) (bare_inside image long))
