-- The n-th of two lists one after the other.
use Rattle.std.proofs.Common.{◌≡◌, ◌∙◌, refl, sym, ap, arith, ℕ, zero, suc, ◌+◌, ◌-◌, ◌<◌, ◌≤◌, List, [], ◌∷◌, ◌++◌, length, drop, get_or}
use Rattle.std.proofs.lemmas.List.{drop_all, drop_more}
use Rattle.xm_conf.specs.declared.health.Event.{Event}
use Rattle.std.specs.Prelude.{flat_map, slice_get}
use Rattle.xmcf_reader.specs.declared.draft.Entry.{Entry}
use Rattle.xmcf_check.specs.Places.{place_nth, place_or_none}

-- one of the first list
got_first : (n : ℕ) (xs ys : List Entry) → n < length xs → slice_get (xs ++ ys) n ≡ slice_get xs n
got_first n [] ys inside = absurd (omega arith)
got_first zero (x ∷ xs) ys inside = refl
got_first (suc n) (x ∷ xs) ys inside = got_first n xs ys (omega (arith, inside))

-- one of the second list
got_second : (n : ℕ) (xs ys : List Entry) → length xs ≤ n → slice_get (xs ++ ys) n ≡ slice_get ys (n - length xs)
got_second n [] ys past = let e : n - 0 ≡ n = omega arith in rw e refl
got_second zero (x ∷ xs) ys past = absurd (omega arith)
got_second (suc n) (x ∷ xs) ys past = let e : suc n - length (x ∷ xs) ≡ n - length xs = omega arith in rw e (got_second n xs ys (omega (arith, past)))

-- the place of one of the first list
pub nth_first : (n : ℕ) (xs ys : List Entry) → n < length xs → place_nth n (xs ++ ys) ≡ place_nth n xs
unfolding place_nth
nth_first n xs ys inside = ap place_or_none (got_first n xs ys inside)

-- the place of one of the second list
pub nth_after : (n : ℕ) (xs ys : List Entry) → length xs ≤ n → place_nth n (xs ++ ys) ≡ place_nth (n - length xs) ys
unfolding place_nth
nth_after n xs ys past = ap place_or_none (got_second n xs ys past)

-- the place that is asked for, among what is left of the events
abbrev pub IsLeft : (Event → List Entry) → List Event → ℕ → ℕ → ℕ → Type 0
IsLeft f events i left n = place_nth left (flat_map f (drop i events)) ≡ place_nth n (flat_map f events)

-- it is among those of the next event
pub found_here : (f : Event → List Entry) (events : List Event) (i left n : ℕ) (d : Event) → i < length events → left < length (f (get_or events i d)) → IsLeft f events i left n
    → place_nth left (f (get_or events i d)) ≡ place_nth n (flat_map f events)
found_here f events i left n d more inside is =
    sym (nth_first left (f (get_or events i d)) (flat_map f (drop (i + 1) events)) inside) ∙ ap (λ (es : List Event). place_nth left (flat_map f es)) (sym (drop_more events i d more)) ∙ is

-- it is after those of the next event
pub found_later : (f : Event → List Entry) (events : List Event) (i left n : ℕ) (d : Event) → i < length events → length (f (get_or events i d)) ≤ left → IsLeft f events i left n
    → IsLeft f events (i + 1) (left - length (f (get_or events i d))) n
found_later f events i left n d more past is =
    sym (nth_after left (f (get_or events i d)) (flat_map f (drop (i + 1) events)) past) ∙ ap (λ (es : List Event). place_nth left (flat_map f es)) (sym (drop_more events i d more)) ∙ is

-- there is none left
pub found_nowhere : (f : Event → List Entry) (events : List Event) (i left n : ℕ) → length events ≤ i → IsLeft f events i left n → 0 ≡ place_nth n (flat_map f events)
unfolding place_nth
found_nowhere f events i left n all is = ap (λ (es : List Event). place_nth left (flat_map f es)) (sym (drop_all i events all)) ∙ is
