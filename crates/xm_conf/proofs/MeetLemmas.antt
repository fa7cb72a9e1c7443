-- What breaks a rule along lists within a list, with the items that stand before.
use Rattle.std.proofs.Common.{◌≡◌, ℕ, ◌+◌, Bool, true, false, if◌then◌else◌, List, [], ◌∷◌, ◌++◌, length, Option, Some, None, refl, sym, ◌∙◌, ap, arith, append_assoc, length-append}
use Rattle.std.specs.List.{position_from}
use Rattle.std.proofs.lemmas.List.{append-nil}
use Rattle.xm_base.specs.Options.{on}
use Rattle.xm_conf.specs.Along.{head_of, added_by_each, each_from, along, along_from}
use Rattle.xm_conf.specs.Configuration.{Conf, Part, Chan}
use Rattle.xm_conf.specs.Rules.{items_where, item_if, meets, overlaps, same_end, stretch, area_stretch, part_stretches, whole_stretch, stretches, hypervisor, dest_item, chan_ends, rule_9, rule_18}
use Rattle.xm_conf.specs.lemmas.Walks.{area_hits, part_hits, whole_hits, chan_hits, source_hits, dest_hits, area_meets, part_meets, dest_meets, before_dests, chan_meets}
use Rattle.xm_conf.specs.declared.part.Area.{Area}
use Rattle.xm_conf.specs.declared.channel.End.{End}
use Rattle.xm_conf.specs.declared.raw.Region.{Region}
use Rattle.xm_conf.specs.declared.item.Item.{Item}
use Rattle.xm_conf.specs.declared.item.Item.TheVariants as item

-- the items of two lists
pub items_where-append : {X : Type 0} (test : X → Bool) (a b : List (Item × X)) → items_where test (a ++ b) ≡ items_where test a ++ items_where test b
items_where-append test [] b = refl
items_where-append test (x ∷ a) b =
    ap (λ more. item_if test x ++ more) (items_where-append test a b) ∙ sym (append_assoc (item_if test x) (items_where test a) (items_where test b))

-- the items of what elements add
pub items_where-each : {X Z : Type 0} (test : X → Bool) (f : ℕ → Z → List (Item × X)) (n : ℕ) (xs : List Z)
    → items_where test (each_from f n xs) ≡ each_from (λ k z. items_where test (f k z)) n xs
items_where-each test f n [] = refl
items_where-each test f n (z ∷ xs) =
    items_where-append test (f n z) (each_from f (n + 1) xs)
    ∙ ap (λ more. items_where test (f n z) ++ more) (items_where-each test f (n + 1) xs)

-- where each element adds itself, the first item is that of the first place
pub first_hit : {X Z : Type 0} (test : X → Bool) (numbered : ℕ → Item) (g : Z → X) (n : ℕ) (xs : List Z)
    → on numbered (position_from (λ z. test (g z)) n xs) ≡ head_of (items_where test (each_from (λ k z. (numbered k, g z) ∷ []) n xs))
first_hit test numbered g n [] = refl
first_hit test numbered g n (z ∷ xs) = at (test (g z)) (first_hit test numbered g (n + 1) xs)
  where
    at : (b : Bool) → on numbered (position_from (λ y. test (g y)) (n + 1) xs) ≡ head_of (items_where test (each_from (λ k y. (numbered k, g y) ∷ []) (n + 1) xs))
        → on numbered (if b then Some n else position_from (λ y. test (g y)) (n + 1) xs)
        ≡ head_of ((if b then numbered n ∷ [] else []) ++ items_where test (each_from (λ k y. (numbered k, g y) ∷ []) (n + 1) xs))
    at true later = refl
    at false later = later

-- what two lists add one after the other
pub along_from-append : {X Y : Type 0} (f : List X → X → List Y) (front a b : List X) → along_from f front (a ++ b) ≡ along_from f front a ++ along_from f (front ++ a) b
along_from-append f front [] b = ap (λ before. along_from f before b) (sym (append-nil front))
along_from-append f front (x ∷ a) b =
    ap (λ more. f front x ++ more) (along_from-append f (front ++ x ∷ []) a b)
    ∙ sym (append_assoc (f front x) (along_from f (front ++ x ∷ []) a) (along_from f ((front ++ x ∷ []) ++ a) b))
    ∙ ap (λ before. (f front x ++ along_from f (front ++ x ∷ []) a) ++ along_from f before b) (append_assoc front (x ∷ []) a)

-- what one more element adds
pub each_from-push : {X Y : Type 0} (h : ℕ → X → List Y) (n : ℕ) (xs : List X) (x : X) → each_from h n (xs ++ x ∷ []) ≡ each_from h n xs ++ h (n + length xs) x
each_from-push h n [] x = append-nil (h n x) ∙ ap (λ m. h m x) (omega arith)
each_from-push h n (y ∷ xs) x =
    ap (λ more. h n y ++ more) (each_from-push h (n + 1) xs x)
    ∙ sym (append_assoc (h n y) (each_from h (n + 1) xs) (h (n + 1 + length xs) x))
    ∙ ap (λ m. (h n y ++ each_from h (n + 1) xs) ++ h m x) (omega arith)

-- the same, from number 0
pub each-push : {X Y : Type 0} (h : ℕ → X → List Y) (xs : List X) (x : X) → added_by_each h (xs ++ x ∷ []) ≡ added_by_each h xs ++ h (length xs) x
each-push h xs x = each_from-push h 0 xs x ∙ ap (λ m. added_by_each h xs ++ h m x) (omega arith)

-- along what elements add: each element goes along what it adds, after what those before it added
pub along_from-each : {X E Y : Type 0} (f : List E → E → List Y) (h : ℕ → X → List E) (front : List E) (before xs : List X)
    → along_from f (front ++ added_by_each h before) (each_from h (length before) xs)
    ≡ along_from (λ earlier x. along_from f (front ++ added_by_each h earlier) (h (length earlier) x)) before xs
along_from-each f h front before [] = refl
along_from-each f h front before (x ∷ xs) =
    along_from-append f (front ++ added_by_each h before) (h (length before) x) (each_from h (length before + 1) xs)
    ∙ ap (λ more. along_from f (front ++ added_by_each h before) (h (length before) x) ++ more)
    (ap (λ e. along_from f e (each_from h (length before + 1) xs))
    (append_assoc front (added_by_each h before) (h (length before) x) ∙ ap (λ e. front ++ e) (sym (each-push h before x)))
    ∙ ap (λ n. along_from f (front ++ added_by_each h (before ++ x ∷ [])) (each_from h n xs)) (omega (arith, length-append before (x ∷ [])))
    ∙ along_from-each f h front (before ++ x ∷ []) xs)

-- along elements that add themselves
pub along-each_one : {X E Y : Type 0} (f : List E → E → List Y) (label : ℕ → X → E) (front : List E) (xs : List X)
    → along_from f (front ++ []) (added_by_each (λ n x. label n x ∷ []) xs)
    ≡ along (λ earlier x. f (front ++ added_by_each (λ n y. label n y ∷ []) earlier) (label (length earlier) x)) xs
along-each_one f label front xs =
    along_from-each f (λ n x. label n x ∷ []) front [] xs
    ∙ ap (λ g. along_from g [] xs) (λ i earlier x. append-nil (f (front ++ added_by_each (λ n y. label n y ∷ []) earlier) (label (length earlier) x)) i)

-- the areas of a partition after those before them
pub along-areas : (front : List (Item × Region)) (p : ℕ) (areas : List Area) → along_from (meets 9 overlaps) front (added_by_each (area_stretch p) areas) ≡ along (area_meets front p) areas
unfolding area_meets
along-areas front p areas =
    ap (λ e. along_from (meets 9 overlaps) e (added_by_each (area_stretch p) areas)) (sym (append-nil front))
    ∙ along-each_one (meets 9 overlaps) (λ n area. (item.Area p n, stretch area)) front areas

-- the areas of all partitions
pub along-parts : (whole : Option Region) (parts : List Part) → along_from (meets 9 overlaps) (whole_stretch whole ++ []) (added_by_each part_stretches parts) ≡ along (part_meets whole) parts
unfolding part_meets part_stretches
along-parts whole parts =
    along_from-each (meets 9 overlaps) part_stretches (whole_stretch whole) [] parts
    ∙ ap (λ g. along_from g [] parts) (λ i before part. along-areas (whole_stretch whole ++ added_by_each part_stretches before) (length before) part.areas i)

-- the rule on areas is broken along the partitions
pub rule_9_along : (conf : Conf) → rule_9 conf ≡ along (part_meets (hypervisor conf.hv_size conf.regions)) conf.parts
unfolding rule_9 stretches
rule_9_along conf = at (hypervisor conf.hv_size conf.regions)
  where
    at : (whole : Option Region) → along (meets 9 overlaps) (whole_stretch whole ++ added_by_each part_stretches conf.parts) ≡ along (part_meets whole) conf.parts
    at None = along-parts None conf.parts
    at (Some region) = along-parts (Some region) conf.parts

-- the items of what stands before an area
pub area-hits : (at : Region) (whole : Option Region) (parts : List Part) (p : ℕ) (areas : List Area)
    → items_where (λ earlier. overlaps earlier at) ((whole_stretch whole ++ added_by_each part_stretches parts) ++ added_by_each (area_stretch p) areas)
    ≡ whole_hits at whole ++ added_by_each (part_hits at) parts ++ area_hits at p areas
unfolding whole_hits part_hits area_hits
area-hits at whole parts p areas =
    let test : Region → Bool = λ earlier. overlaps earlier at in
    items_where-append test (whole_stretch whole ++ added_by_each part_stretches parts) (added_by_each (area_stretch p) areas)
    ∙ ap (λ front. front ++ items_where test (added_by_each (area_stretch p) areas))
    (items_where-append test (whole_stretch whole) (added_by_each part_stretches parts)
    ∙ ap (λ more. items_where test (whole_stretch whole) ++ more) (items_where-each test part_stretches 0 parts))

-- the destinations of a channel after the ends before them
pub along-dests : (front : List (Item × End)) (c : ℕ) (dests : List End) → along_from (meets 18 same_end) front (added_by_each (dest_item c) dests) ≡ along (dest_meets front c) dests
unfolding dest_meets
along-dests front c dests =
    ap (λ e. along_from (meets 18 same_end) e (added_by_each (dest_item c) dests)) (sym (append-nil front))
    ∙ along-each_one (meets 18 same_end) (λ n end. (item.End c (n + 1), end)) front dests

-- the rule on ends is broken along the channels
pub rule_18_along : (conf : Conf) → rule_18 conf ≡ along chan_meets conf.chans
unfolding rule_18 chan_meets chan_ends before_dests
rule_18_along conf =
    along_from-each (meets 18 same_end) chan_ends [] [] conf.chans
    ∙ ap (λ g. along_from g [] conf.chans)
    (λ i before chan. meets 18 same_end (added_by_each chan_ends before) (item.End (length before) 0, chan.source)
    ++ along-dests (added_by_each chan_ends before ++ (item.End (length before) 0, chan.source) ∷ []) (length before) chan.dests i)

-- the items of what stands before a destination
pub dest-hits : (at : End) (chans : List Chan) (source : End) (c : ℕ) (dests : List End)
    → items_where (λ earlier. same_end earlier at) ((added_by_each chan_ends chans ++ (item.End c 0, source) ∷ []) ++ added_by_each (dest_item c) dests)
    ≡ added_by_each (chan_hits at) chans ++ source_hits at c source ++ dest_hits at c dests
unfolding chan_hits source_hits dest_hits
dest-hits at chans source c dests =
    let test : End → Bool = λ earlier. same_end earlier at in
    items_where-append test (added_by_each chan_ends chans ++ (item.End c 0, source) ∷ []) (added_by_each (dest_item c) dests)
    ∙ ap (λ front. front ++ items_where test (added_by_each (dest_item c) dests))
    (items_where-append test (added_by_each chan_ends chans) ((item.End c 0, source) ∷ [])
    ∙ ap (λ front. front ++ (item_if test (item.End c 0, source) ++ [])) (items_where-each test chan_ends 0 chans)
    ∙ ap (λ own. added_by_each (λ k chan. items_where test (chan_ends k chan)) chans ++ own) (append-nil (item_if test (item.End c 0, source))))
