-- Images in the order of their numbers, one after the other, as a loop takes them.
use Rattle.std.proofs.Common.{◌≡◌, ℕ, zero, suc, ◌+◌, ◌-◌, ◌<◌, ◌≤◌, Bool, true, false, cond, List, [], ◌∷◌, ◌++◌, length, get_or, drop, Option, None, Some, refl, sym, ap, subst, ◌∙◌, append_assoc, add-one, arith}
use Rattle.std.specs.Prelude.{◌==◌, All}
use Rattle.std.specs.Option.{option_to_list}
use Rattle.std.proofs.Math.Seq.{drop-cons}
use Rattle.std.proofs.lemmas.List.{append-nil, drop_all}
use Rattle.std.proofs.lemmas.List.Elements.{All-cons, All-nil}
use Rattle.xm_conf.specs.Configuration.{Conf, Part}
use Rattle.xef_images.specs.Image.{Image, IsImage}
use Rattle.loaded_system.specs.Inside.{outside_in, outside_or, first_outside_from}
use Rattle.loaded_system.specs.declared.system.Outside.{Outside}
use Rattle.bin_config.specs.Xmc.{xmc}
use Rattle.bin_config.specs.declared.version.Version.TheVariants.{Two}
use Rattle.xm_container.specs.Box.{image_entry_text, entries_text, fields_text, sized_text}
use Rattle.xm_container.proofs.NumberLemmas.{none_missing}
use Rattle.xm_container.specs.Numbers.{has_id, missing}
use Rattle.xm_container.specs.Pack.{partition_numbers, image_of, in_order, system_of}
use Rattle.xm_container.specs.declared.image.Image.{Image as Given}

-- a choice that gives nothing
chose_none : {X : Type 0} (test : Bool) (here : X) (later : Option X) → cond test (Some here) later ≡ None → (test ≡ false) × (later ≡ None)
chose_none true here later e = absurd cc
chose_none false here later e = (refl, e)

-- a number that no image has is none of theirs
none_has : (images : List Given) (id : ℕ) → image_of images id ≡ None → has_id (partition_numbers images) id ≡ false
unfolding has_id
none_has [] id e = refl
none_has (image ∷ later) id e =
    let split = chose_none (image.id == id) image.xef (image_of later id) e in
    rw split.0 (none_has later id split.1)

-- where none is missing, each partition has an image
pub image_there : (images : List Given) (parts id : ℕ) → missing parts (partition_numbers images) ≡ None → id < parts → image_of images id ≡ None → ⊥
image_there images parts id none below e =
    let has : has_id (partition_numbers images) id ≡ true = none_missing parts (partition_numbers images) id none below in
    let not_has : has_id (partition_numbers images) id ≡ false = none_has images id e in
    let wrong : ⊥ = cc in wrong

-- an image, and those after it
order_on : (images : List Given) (parts id : ℕ) (image : Image) → id < parts → image_of images id ≡ Some image
    → in_order images id (parts - id) ≡ image ∷ in_order images (id + 1) (parts - (id + 1))
order_on images parts id image below some =
    let more : parts - id ≡ suc (parts - (id + 1)) = omega arith in
    rw (more, some) refl

-- after the last partition there is none
order_done : (images : List Given) (parts id : ℕ) → parts ≤ id → in_order images id (parts - id) ≡ []
order_done images parts id past =
    let none : parts - id ≡ 0 = omega arith in
    rw none refl

-- an image more of those that may lie outside
rest_on : (parts : List Part) (images : List Given) (id : ℕ) (part : Part) (image : Image) → id < length parts → part ≡ get_or parts id part → image_of images id ≡ Some image
    → first_outside_from id (drop id parts) (in_order images id (length parts - id))
    ≡ outside_or id (outside_in part.areas image.segments) (first_outside_from (id + 1) (drop (id + 1) parts) (in_order images (id + 1) (length parts - (id + 1))))
rest_on parts images id part image below is some =
    let later = in_order images (id + 1) (length parts - (id + 1)) in
    ap (λ list. first_outside_from id (drop id parts) list) (order_on images (length parts) id image below some)
    ∙ rw (drop-cons parts id part below, add-one) refl
    ∙ ap (λ p. outside_or id (outside_in p.areas image.segments) (first_outside_from (id + 1) (drop (id + 1) parts) later)) (sym is)

-- an image that lies inside: the rest determines the first
pub outside_on : (parts : List Part) (images : List Given) (id : ℕ) (part : Part) (image : Image) (r : Option Outside) → id < length parts → part ≡ get_or parts id part
    → image_of images id ≡ Some image → outside_in part.areas image.segments ≡ None
    → first_outside_from id (drop id parts) (in_order images id (length parts - id)) ≡ r
    → first_outside_from (id + 1) (drop (id + 1) parts) (in_order images (id + 1) (length parts - (id + 1))) ≡ r
outside_on parts images id part image r below is some none so_far =
    let later = first_outside_from (id + 1) (drop (id + 1) parts) (in_order images (id + 1) (length parts - (id + 1))) in
    sym (rest_on parts images id part image below is some ∙ ap (λ o. outside_or id o later) none) ∙ so_far

-- an image that does not
pub outside_here : (parts : List Part) (images : List Given) (id : ℕ) (part : Part) (image : Image) (address : ℕ) (r : Option Outside) → id < length parts → part ≡ get_or parts id part
    → image_of images id ≡ Some image → outside_in part.areas image.segments ≡ Some address
    → first_outside_from id (drop id parts) (in_order images id (length parts - id)) ≡ r → Some (record { id = id; address = address }) ≡ r
outside_here parts images id part image address r below is some found so_far =
    let later = first_outside_from (id + 1) (drop (id + 1) parts) (in_order images (id + 1) (length parts - (id + 1))) in
    sym (rest_on parts images id part image below is some ∙ ap (λ o. outside_or id o later) found) ∙ so_far

-- after the last partition nothing is outside
pub outside_done : (parts : List Part) (images : List Given) (id : ℕ) (r : Option Outside) → length parts ≤ id
    → first_outside_from id (drop id parts) (in_order images id (length parts - id)) ≡ r → None ≡ r
outside_done parts images id r past so_far =
    sym (ap (λ list. first_outside_from id list (in_order images id (length parts - id))) (drop_all id parts past)) ∙ so_far

-- an image more that is put
pub entries_on : (images : List Given) (parts id : ℕ) (image : Image) (front whole : List ℕ) → id < parts → image_of images id ≡ Some image
    → front ++ entries_text id (in_order images id (parts - id)) ≡ whole
    → (front ++ image_entry_text id image) ++ entries_text (id + 1) (in_order images (id + 1) (parts - (id + 1))) ≡ whole
entries_on images parts id image front whole below some so_far =
    append_assoc front (image_entry_text id image) (entries_text (id + 1) (in_order images (id + 1) (parts - (id + 1))))
    ∙ ap (λ list. front ++ entries_text id list) (sym (order_on images parts id image below some))
    ∙ so_far

-- all images are put
pub entries_done : (images : List Given) (parts id : ℕ) (front whole : List ℕ) → parts ≤ id
    → front ++ entries_text id (in_order images id (parts - id)) ≡ whole → front ≡ whole
entries_done images parts id front whole past so_far =
    sym (append-nil front) ∙ ap (λ list. front ++ entries_text id list) (sym (order_done images parts id past)) ∙ so_far

-- where the images from a partition on load, so do all
pub loads_on : (images : List Given) (parts id : ℕ) (image : Image) (whole : List Image) → id < parts → image_of images id ≡ Some image → IsImage image
    → (All IsImage (in_order images id (parts - id)) → All IsImage whole) → All IsImage (in_order images (id + 1) (parts - (id + 1))) → All IsImage whole
loads_on images parts id image whole below some loads so_far rest =
    so_far (subst (λ (list : List Image). All IsImage list) (sym (order_on images parts id image below some)) (All-cons IsImage image (in_order images (id + 1) (parts - (id + 1))) loads rest))

-- after the last partition nothing is left to load
pub loads_done : (images : List Given) (parts id : ℕ) (whole : List Image) → parts ≤ id → (All IsImage (in_order images id (parts - id)) → All IsImage whole) → All IsImage whole
loads_done images parts id whole past so_far = so_far (subst (λ (list : List Image). All IsImage list) (sym (order_done images parts id past)) (All-nil IsImage))

-- as many images as there are partitions
order_counted : (images : List Given) (parts count id : ℕ) → missing parts (partition_numbers images) ≡ None → id + count ≡ parts → length (in_order images id count) ≡ count
order_counted images parts zero id none all = refl
order_counted images parts (suc count) id none all =
    at (image_of images id) refl (order_counted images parts count (id + 1) none (omega (arith, all)))
  where
    at : (found : Option Image) → image_of images id ≡ found → length (in_order images (id + 1) count) ≡ count → length (option_to_list found ++ in_order images (id + 1) count) ≡ suc count
    at None e rest = absurd (image_there images parts id none (omega (arith, all)) e)
    at (Some image) e rest = ap suc rest

-- as many images as there are partitions
pub length-in_order : (images : List Given) (parts : ℕ) → missing parts (partition_numbers images) ≡ None → length (in_order images 0 parts) ≡ parts
length-in_order images parts none = order_counted images parts parts 0 none (omega arith)

-- the fields, put one after the other
pub fields_so : (conf : Conf) (images : List Given) (parts : ℕ) (bytes none first second third : List ℕ) → parts ≡ length conf.parts → missing parts (partition_numbers images) ≡ None → bytes ≡ xmc Two conf
    → none ≡ [] → first ≡ none ++ sized_text bytes → second ≡ first ++ parts ∷ [] → third ≡ second ++ entries_text 0 (in_order images 0 parts)
    → third ≡ fields_text Two (system_of conf images)
unfolding fields_text
fields_so conf images parts bytes none first second third counted complete is_xmc is_none is_first is_second is_third =
    let sized = sized_text (xmc Two conf) in
    let entries : ℕ → List ℕ = λ p. entries_text 0 (in_order images 0 p) in
    let front : first ≡ sized = is_first ∙ ap (λ x. x ++ sized_text bytes) is_none ∙ ap sized_text is_xmc in
    is_third
    ∙ ap (λ x. x ++ entries parts) (is_second ∙ ap (λ x. x ++ parts ∷ []) front)
    ∙ append_assoc sized (parts ∷ []) (entries parts)
    ∙ ap (λ n. sized ++ n ∷ entries parts) (sym (length-in_order images parts complete))
    ∙ ap (λ p. sized ++ length (in_order images 0 p) ∷ entries p) counted
