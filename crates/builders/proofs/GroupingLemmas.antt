-- The ids of a group's members, joined by commas, one after the other.
use Rattle.std.proofs.Common.{◌≡◌, ℕ, suc, ◌+◌, Bool, true, false, List, [], ◌∷◌, ◌++◌, decimal, refl, sym, ap, ◌∙◌, arith}
use Rattle.std.specs.Prelude.{◌&&◌, not}
use Rattle.std.specs.List.{flat_map}
use Rattle.std.proofs.lemmas.List.{append_assoc, append-nil}
use Rattle.std.proofs.lemmas.List.Concat.{flat_map-append}
use Rattle.xm_flows.specs.Masks.{members_of}
use Rattle.builders.specs.lemmas.GroupingTerms.{comma_unless, id_text}
use Rattle.builders.specs.Grouping.{id_if, ids_below, joined_by_commas, next_text}

-- whether there is none yet
abbrev pub is_none_yet : List ℕ → Bool
is_none_yet [] = true
is_none_yet (n ∷ rest) = false

-- one number more
joined_push : (ids : List ℕ) (n : ℕ) → joined_by_commas (ids ++ n ∷ []) ≡ joined_by_commas ids ++ (comma_unless (is_none_yet ids) ++ decimal n)
unfolding next_text
joined_push [] n = append-nil (decimal n)
joined_push (m ∷ ids) n =
    ap (λ back. decimal m ++ back) (flat_map-append next_text ids (n ∷ []) ∙ ap (λ back. flat_map next_text ids ++ back) (append-nil (next_text n)))
    ∙ sym (append_assoc (decimal m) (flat_map next_text ids) (next_text n))

joined_step : (ids : List ℕ) (member : Bool) (n : ℕ) → joined_by_commas (ids ++ id_if member n) ≡ joined_by_commas ids ++ id_text (is_none_yet ids) member n
joined_step ids true n = joined_push ids n
joined_step ids false n = ap joined_by_commas (append-nil ids) ∙ sym (append-nil (joined_by_commas ids))

none_step : (ids : List ℕ) (member : Bool) (n : ℕ) → (is_none_yet ids && not member) ≡ is_none_yet (ids ++ id_if member n)
none_step [] true n = refl
none_step [] false n = refl
none_step (m ∷ ids) member n = refl

-- the text so far, and whether it has an id
pub text_more : (start pen next : List ℕ) (mask p : ℕ) (first : Bool) → pen ≡ start ++ joined_by_commas (ids_below mask p) → first ≡ is_none_yet (ids_below mask p)
    → next ≡ pen ++ id_text first (members_of mask p) p → next ≡ start ++ joined_by_commas (ids_below mask (p + 1))
text_more start pen next mask p first is first_is next_is =
    let more : p + 1 ≡ suc p = omega arith in
    next_is ∙ ap (λ front. front ++ id_text first (members_of mask p) p) is
    ∙ append_assoc start (joined_by_commas (ids_below mask p)) (id_text first (members_of mask p) p)
    ∙ ap (λ back. start ++ back)
    (ap (λ f. joined_by_commas (ids_below mask p) ++ id_text f (members_of mask p) p) first_is ∙ sym (joined_step (ids_below mask p) (members_of mask p) p)
    ∙ ap (λ n. joined_by_commas (ids_below mask n)) (sym more))

pub first_more : (mask p : ℕ) (first next : Bool) → first ≡ is_none_yet (ids_below mask p) → next ≡ (first && not (members_of mask p)) → next ≡ is_none_yet (ids_below mask (p + 1))
first_more mask p first next first_is next_is =
    let more : p + 1 ≡ suc p = omega arith in
    next_is ∙ ap (λ f. f && not (members_of mask p)) first_is ∙ none_step (ids_below mask p) (members_of mask p) p ∙ ap (λ n. is_none_yet (ids_below mask n)) (sym more)
