-- Reading one image after the other, as a loop does.
use Rattle.std.proofs.Common.{◌≡◌, ℕ, zero, suc, ◌-◌, ◌+◌, ◌≤◌, ◌<◌, List, [], ◌∷◌, ◌++◌, length, Result, Ok, Err, refl, sym, ap, subst, ◌∙◌, append_assoc, arith}
use Rattle.std.specs.Prelude.{nat_le}
use Rattle.std.specs.Int.{w8}
use Rattle.std.proofs.lemmas.List.{append-nil}
use Rattle.xef_images.specs.lemmas.ImageLemmas.{Decides-nat_le}
use Rattle.xm_base.specs.Cursor.{Place}
use Rattle.xef_images.specs.Image.{Image}
use Rattle.file_headers.specs.Steps.{◌>>=◌, unless}
use Rattle.file_headers.specs.lemmas.StepLemmas.{stepped, ok_is, passed}
use Rattle.file_headers.specs.Fields.{number_at}
use Rattle.xm_container.specs.Entries.{Entries}
use Rattle.xm_container.specs.lemmas.EntriesTerms.{RiseFrom}
use Rattle.xm_container.specs.Gives.{Fails}
use Rattle.xm_container.specs.Reading.{id_at, image_at, image_entry_at, image_entries_at, with_entry, box_field, box_short}
use Rattle.xm_container.specs.declared.image.Image.{Image as Given}
use Rattle.fault_messages.specs.declared.fault.BoxFault.{BoxFault}
use Rattle.fault_messages.specs.declared.fault.BoxFault.TheVariants as fault

-- what was read before, and what is still read
abbrev pub with_front : List ℕ → List Image → Result (Entries × Place) BoxFault → Result (Entries × Place) BoxFault
with_front ids images read = read >>= λ x. Ok (record { ids = ids ++ x.0.ids; images = images ++ x.0.images }, x.1)

-- a fault that is met in a part is that of the whole
fails_on : {Y Z : Type 0} (reported : BoxFault) (part : Result Y BoxFault) (whole : Result Z BoxFault) → ((f : BoxFault) → part ≡ Err f → whole ≡ Err f) → Fails reported part → Fails reported whole
fails_on fault.Memory part whole so e = tt
fails_on other part whole so e = so _ e

-- an image more is at the end of the prefix
regroup : (ids : List ℕ) (images : List Image) (entry : Given) (read : Result (Entries × Place) BoxFault)
    → with_front ids images (read >>= λ later. Ok (with_entry entry later.0, later.1)) ≡ with_front (ids ++ entry.id ∷ []) (images ++ entry.xef ∷ []) read
regroup ids images entry (Ok later) =
    ap (λ all. Ok (record { ids = all; images = images ++ entry.xef ∷ later.0.images }, later.1)) (sym (append_assoc ids (entry.id ∷ []) later.0.ids))
    ∙ ap (λ all. Ok (record { ids = (ids ++ entry.id ∷ []) ++ later.0.ids; images = all }, later.1)) (sym (append_assoc images (entry.xef ∷ []) later.0.images))
regroup ids images entry (Err reported) = refl

-- an image more
entries_on : (ids : List ℕ) (images : List Image) (count i floor : ℕ) (place : Place) (entry : Given) (after : Place) (total : Result (Entries × Place) BoxFault) → i < count
    → image_entry_at floor place ≡ Ok (entry, after)
    → with_front ids images (image_entries_at (count - i) floor place) ≡ total
    → with_front (ids ++ entry.id ∷ []) (images ++ entry.xef ∷ []) (image_entries_at (count - (i + 1)) (entry.id + 1) after) ≡ total
unfolding image_entries_at
entries_on ids images count i floor place entry after total below read so_far =
    let more : count - i ≡ suc (count - (i + 1)) = omega arith in
    let one : with_front ids images (image_entries_at (count - i) floor place) ≡ with_front (ids ++ entry.id ∷ []) (images ++ entry.xef ∷ []) (image_entries_at (count - (i + 1)) (entry.id + 1) after)
    = rw (more, read) (regroup ids images entry (image_entries_at (count - (i + 1)) (entry.id + 1) after)) in
    sym one ∙ so_far

-- an image more, by its parts
pub entries_pushed : (ids new_ids : List ℕ) (images new_images : List Image) (count i floor above id : ℕ) (xef : Image) (place : Place) (entry : Given) (after : Place) (total : Result (Entries × Place) BoxFault) → i < count
    → image_entry_at floor place ≡ Ok (entry, after) → id ≡ entry.id → xef ≡ entry.xef → new_ids ≡ ids ++ id ∷ [] → new_images ≡ images ++ xef ∷ [] → above ≡ id
    → with_front ids images (image_entries_at (count - i) floor place) ≡ total
    → with_front new_ids new_images (image_entries_at (count - (i + 1)) (above + 1) after) ≡ total
entries_pushed ids new_ids images new_images count i floor above id xef place entry after total below read is_id is_xef is_ids is_images is_above so_far =
    let rest : ℕ → Result (Entries × Place) BoxFault = λ n. image_entries_at (count - (i + 1)) (n + 1) after in
    ap (λ list. with_front list new_images (rest above)) (is_ids ∙ ap (λ n. ids ++ n ∷ []) is_id)
    ∙ ap (λ list. with_front (ids ++ entry.id ∷ []) list (rest above)) (is_images ∙ ap (λ x. images ++ x ∷ []) is_xef)
    ∙ ap (λ n. with_front (ids ++ entry.id ∷ []) (images ++ entry.xef ∷ []) (rest n)) (is_above ∙ is_id)
    ∙ entries_on ids images count i floor place entry after total below read so_far

-- an image that fails
pub entries_fail : (reported : BoxFault) (ids : List ℕ) (images : List Image) (count i floor : ℕ) (place : Place) (total : Result (Entries × Place) BoxFault) → i < count
    → Fails reported (image_entry_at floor place)
    → with_front ids images (image_entries_at (count - i) floor place) ≡ total → Fails reported total
unfolding image_entries_at
entries_fail reported ids images count i floor place total below read so_far =
    let more : count - i ≡ suc (count - (i + 1)) = omega arith in
    fails_on reported (image_entry_at floor place) total
    (λ f met.
    let one : with_front ids images (image_entries_at (count - i) floor place) ≡ Err f = rw (more, met) refl in
    sym so_far ∙ one)
    read

-- all images
pub entries_done : (ids : List ℕ) (images : List Image) (count i floor : ℕ) (place : Place) (total : Result (Entries × Place) BoxFault) → count ≤ i
    → with_front ids images (image_entries_at (count - i) floor place) ≡ total → total ≡ Ok (record { ids = ids; images = images }, place)
unfolding image_entries_at
entries_done ids images count i floor place total all so_far =
    let none : count - i ≡ 0 = omega arith in
    let one : with_front ids images (image_entries_at (count - i) floor place) ≡ Ok (record { ids = ids; images = images }, place)
    = rw none (ap (λ list. Ok (record { ids = list; images = images ++ [] }, place)) (append-nil ids) ∙ ap (λ list. Ok (record { ids = ids; images = list }, place)) (append-nil images)) in
    sym so_far ∙ one

-- the number of an image that is read is not below the floor
id_above : (floor : ℕ) (place : Place) (entry : Given) (after : Place) → image_entry_at floor place ≡ Ok (entry, after) → floor ≤ entry.id
unfolding image_entry_at id_at
id_above floor place entry after e =
    let a = stepped (id_at floor place) (λ id. image_at id.0 id.1 >>= λ image. Ok (record { id = id.0; xef = image.0 }, image.1)) (entry, after) e in
    let b = stepped (image_at a.value.0 a.value.1) (λ image. Ok (record { id = a.value.0; xef = image.0 }, image.1)) (entry, after) a.led in
    let t = stepped (number_at box_short w8 place) (λ field. unless (nat_le floor field.0) (box_field place.at) field) a.value a.is in
    let p = passed (nat_le floor t.value.0) (box_field place.at) t.value a.value t.led in
    let above : floor ≤ t.value.0 = (Decides-nat_le floor t.value.0).0 p.true in
    let made : Given × Place = (record { id = a.value.0; xef = b.value.0 }, b.value.1) in
    let Q : Given × Place → Type 0 = λ x. floor ≤ x.0.id in
    subst Q {x = made} (ok_is made (entry, after) b.led) (subst (λ (x : ℕ × Place). floor ≤ x.0) p.is above)

-- images that are read rise, and each has its number
pub rise_of : (count floor : ℕ) (place : Place) (entries : Entries) (after : Place) → image_entries_at count floor place ≡ Ok (entries, after)
    → RiseFrom floor entries.ids × (length entries.images ≡ length entries.ids)
unfolding image_entries_at
rise_of zero floor place entries after e =
    let none : Entries × Place = (record { ids = []; images = [] }, place) in
    let P : Entries × Place → Type 0 = λ x. RiseFrom floor x.0.ids × (length x.0.images ≡ length x.0.ids) in
    subst P {x = none} (ok_is none (entries, after) e) (tt, refl)
rise_of (suc count) floor place entries after e =
    let a = stepped (image_entry_at floor place) (λ entry. image_entries_at count (entry.0.id + 1) entry.1 >>= λ later. Ok (with_entry entry.0 later.0, later.1)) (entries, after) e in
    let b = stepped (image_entries_at count (a.value.0.id + 1) a.value.1) (λ later. Ok (with_entry a.value.0 later.0, later.1)) (entries, after) a.led in
    let rest = rise_of count (a.value.0.id + 1) a.value.1 b.value.0 b.value.1 b.is in
    let first : floor ≤ a.value.0.id = id_above floor place a.value.0 a.value.1 a.is in
    let made : Entries × Place = (with_entry a.value.0 b.value.0, b.value.1) in
    let P : Entries × Place → Type 0 = λ x. RiseFrom floor x.0.ids × (length x.0.images ≡ length x.0.ids) in
    subst P {x = made} (ok_is made (entries, after) b.led) ((first, rest.0), ap suc rest.1)
