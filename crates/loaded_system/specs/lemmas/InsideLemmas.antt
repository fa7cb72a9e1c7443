-- The first segment that lies outside is none exactly where each image lies inside its partition.
use Rattle.std.proofs.Common.{◌≡◌, ℕ, zero, suc, ◌+◌, ◌<◌, ◌≤◌, Bool, true, false, cond, List, [], ◌∷◌, length, get_or, drop, Option, None, Some, refl, sym, ap, ◌∙◌, add-one, arith}
use Rattle.std.specs.Prelude.{nat_le, ◌&&◌, All, Any, Decides}
use Rattle.std.proofs.Math.Seq.{drop-cons}
use Rattle.std.proofs.lemmas.Bool.Decides.{Decides-and, Decides-like}
use Rattle.std.proofs.lemmas.List.{drop_all}
use Rattle.std.proofs.lemmas.List.Elements.{All-cons, All-nil}
use Rattle.std.proofs.lemmas.List.Folds.{Any-from_list_any, list_any-from_Any}
use Rattle.xm_conf.specs.Configuration.{Part}
use Rattle.xm_conf.specs.declared.part.Area.{Area}
use Rattle.xef_images.specs.Image.{Image, Segment, end_of}
use Rattle.xef_images.specs.lemmas.ImageLemmas.{Decides-nat_le}
use Rattle.loaded_system.specs.Inside.{has_segment, is_inside, outside_in, outside_or, first_outside_from, first_outside}
use Rattle.loaded_system.specs.System.{HasSegment, FitsInto, AreInside}
use Rattle.loaded_system.specs.declared.system.Outside.{Outside}

-- whether an area has all addresses of a segment is decided
Decides-has_segment : (segment : Segment) (area : Area) → Decides (has_segment segment area) (HasSegment segment area)
unfolding has_segment
Decides-has_segment segment area =
    Decides-like (nat_le area.start segment.address && nat_le (end_of segment) (area.start + area.size)) (λ t. record { start = t.0; end = t.1 }) (λ h. (h.start, h.end))
    (Decides-and _ _ (Decides-nat_le area.start segment.address) (Decides-nat_le (end_of segment) (area.start + area.size)))

-- some element for which a fact holds has another one, too
any_like : {X : Type 0} {P Q : X → Type 0} (xs : List X) → ((x : X) → P x → Q x) → Any P xs → Any Q xs
any_like xs so some = (some.0, some.1, some.2, some.3, so some.1 some.4)

-- whether a segment lies inside one of these areas is decided
Decides-is_inside : (areas : List Area) (segment : Segment) → Decides (is_inside areas segment) (Any (HasSegment segment) areas)
unfolding is_inside
Decides-is_inside areas segment = (
  λ e. any_like areas (λ area yes. (Decides-has_segment segment area).0 yes) (Any-from_list_any (has_segment segment) areas e),
  λ some. list_any-from_Any (has_segment segment) areas (any_like areas (λ area has. (Decides-has_segment segment area).1 has) some),
)

-- a choice that gives nothing
chose_none : (test : Bool) (rest : Option ℕ) (address : ℕ) → cond test rest (Some address) ≡ None → (test ≡ true) × (rest ≡ None)
chose_none true rest address e = (refl, e)
chose_none false rest address e = absurd cc

-- where no segment lies outside, all lie inside
all_inside : (areas : List Area) (segments : List Segment) → outside_in areas segments ≡ None → All (λ segment. Any (HasSegment segment) areas) segments
all_inside areas [] e = All-nil (λ s. Any (HasSegment s) areas)
all_inside areas (segment ∷ later) e =
    let split = chose_none (is_inside areas segment) (outside_in areas later) segment.address e in
    All-cons (λ s. Any (HasSegment s) areas) segment later ((Decides-is_inside areas segment).0 split.0) (all_inside areas later split.1)

-- where all segments lie inside, none lies outside
none_outside : (areas : List Area) (segments : List Segment) → All (λ segment. Any (HasSegment segment) areas) segments → outside_in areas segments ≡ None
none_outside areas [] each = refl
none_outside areas (segment ∷ later) each =
    let inside : is_inside areas segment ≡ true = (Decides-is_inside areas segment).1 (each 0 segment (omega arith)) in
    rw inside (none_outside areas later (λ k d below. each (suc k) d (omega (arith, below))))

-- where no partition has a segment outside
split_none : (id : ℕ) (here : Option ℕ) (later : Option Outside) → outside_or id here later ≡ None → (here ≡ None) × (later ≡ None)
split_none id None later e = (refl, e)
split_none id (Some address) later e = absurd cc

-- where nothing lies outside, all images lie inside
inside_from : (id : ℕ) (parts : List Part) (images : List Image) → first_outside_from id parts images ≡ None → AreInside parts images
inside_from id [] images e = tt
inside_from id (part ∷ parts) [] e = tt
inside_from id (part ∷ parts) (image ∷ images) e =
    let split = split_none id (outside_in part.areas image.segments) (first_outside_from (id + 1) parts images) e in
    (all_inside part.areas image.segments split.0, inside_from (id + 1) parts images split.1)

-- where all images lie inside, nothing lies outside
none_from : (id : ℕ) (parts : List Part) (images : List Image) → AreInside parts images → first_outside_from id parts images ≡ None
none_from id [] images inside = refl
none_from id (part ∷ parts) [] inside = refl
none_from id (part ∷ parts) (image ∷ images) inside =
    rw (none_outside part.areas image.segments inside.0) (none_from (id + 1) parts images inside.1)

-- nothing lies outside exactly where each image lies inside its partition
pub inside_if_none : (parts : List Part) (images : List Image) → first_outside parts images ≡ None → AreInside parts images
unfolding first_outside
inside_if_none parts images e = inside_from 0 parts images e

-- the converse
pub none_if_inside : (parts : List Part) (images : List Image) → AreInside parts images → first_outside parts images ≡ None
unfolding first_outside
none_if_inside parts images inside = none_from 0 parts images inside

-- an element more
rest_on : (parts : List Part) (images : List Image) (n : ℕ) (part : Part) (image : Image) → n < length parts → n < length images
    → part ≡ get_or parts n part → image ≡ get_or images n image
    → first_outside_from n (drop n parts) (drop n images)
    ≡ outside_or n (outside_in part.areas image.segments) (first_outside_from (n + 1) (drop (n + 1) parts) (drop (n + 1) images))
rest_on parts images n part image below within is_part is_image =
    let later = first_outside_from (n + 1) (drop (n + 1) parts) (drop (n + 1) images) in
    rw (drop-cons parts n part below, drop-cons images n image within, add-one) refl
    ∙ ap (λ p. outside_or n (outside_in p.areas (get_or images n image).segments) later) (sym is_part)
    ∙ ap (λ i. outside_or n (outside_in part.areas i.segments) later) (sym is_image)

-- an image that lies inside: the rest determines the first
pub outside_on : (parts : List Part) (images : List Image) (n : ℕ) (part : Part) (image : Image) (r : Option Outside) → n < length parts → n < length images
    → part ≡ get_or parts n part → image ≡ get_or images n image → outside_in part.areas image.segments ≡ None
    → first_outside_from n (drop n parts) (drop n images) ≡ r → first_outside_from (n + 1) (drop (n + 1) parts) (drop (n + 1) images) ≡ r
outside_on parts images n part image r below within is_part is_image none so_far =
    let later = first_outside_from (n + 1) (drop (n + 1) parts) (drop (n + 1) images) in
    sym (rest_on parts images n part image below within is_part is_image ∙ ap (λ o. outside_or n o later) none) ∙ so_far

-- an image that does not
pub outside_here : (parts : List Part) (images : List Image) (n : ℕ) (part : Part) (image : Image) (address : ℕ) (r : Option Outside) → n < length parts → n < length images
    → part ≡ get_or parts n part → image ≡ get_or images n image → outside_in part.areas image.segments ≡ Some address
    → first_outside_from n (drop n parts) (drop n images) ≡ r → Some (record { id = n; address = address }) ≡ r
outside_here parts images n part image address r below within is_part is_image some so_far =
    let later = first_outside_from (n + 1) (drop (n + 1) parts) (drop (n + 1) images) in
    sym (rest_on parts images n part image below within is_part is_image ∙ ap (λ o. outside_or n o later) some) ∙ so_far

-- after the last partition nothing is outside
pub outside_done : (parts : List Part) (images : List Image) (n : ℕ) (r : Option Outside) → length parts ≤ n
    → first_outside_from n (drop n parts) (drop n images) ≡ r → None ≡ r
outside_done parts images n r past so_far =
    sym (ap (λ ps. first_outside_from n ps (drop n images)) (drop_all n parts past)) ∙ so_far

-- the image of a partition lies inside its areas
pub inside_at : (parts : List Part) (images : List Image) (p : ℕ) (part : Part) (image : Image) → p < length parts → p < length images → AreInside parts images
    → FitsInto (get_or parts p part) (get_or images p image)
inside_at [] images p part image below within inside = absurd (omega (arith, below))
inside_at (x ∷ parts) [] p part image below within inside = absurd (omega (arith, within))
inside_at (x ∷ parts) (y ∷ images) zero part image below within inside = inside.0
inside_at (x ∷ parts) (y ∷ images) (suc p) part image below within inside =
    inside_at parts images p part image (omega (arith, below)) (omega (arith, within)) inside.1
