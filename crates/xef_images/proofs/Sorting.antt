-- A stable sort by address is the list sorted by address: there is one such list.
use Rattle.std.proofs.Common.{◌≡◌, ℕ, suc, ◌≤◌, ◌<◌, Bool, true, false, cond, List, [], ◌∷◌, refl, sym, ap, ◌∙◌, subst, inl, inr, arith}
use Rattle.std.specs.Prelude.{◌==◌, nat_le, ◌⊎◌}
use Rattle.std.specs.List.{filter, AllByRecursion}
use Rattle.std.specs.List.Sorted.{IsNonDecreasingBy, IsStableByKey, ties}
use Rattle.std.specs.Fn.{Called, ComputesKey}
use Rattle.std.specs.Ordering.{is_lt, nat_cmp}
use Rattle.std.proofs.lemmas.List.Sorted.{answers_always}
use denote.Param.Members.{Mut}
use denote.Ref.{Bor}
use Rattle.std.proofs.lemmas.Bool.{cases_lt}
use Rattle.std.proofs.lemmas.Bool.Decides.{Decides-eqb, nat_tests}
use Rattle.std.proofs.lemmas.List.Elements.{filter_agree, recursion_from_All}
use Rattle.xef_images.specs.Image.{Segment}
use Rattle.xef_images.specs.lemmas.ImageLemmas.{Decides-nat_le, above_lower}
use Rattle.xef_images.specs.Elf.{inserted_by_address, sorted}
use Rattle.xef_images.proofs.SortLemmas.{all_among}

-- whether a segment begins at the address
abbrev begins : ℕ → Segment → Bool
begins address segment = address == segment.address

-- no segment begins before those in front of it
abbrev IsOrdered : List Segment → Type 0
IsOrdered [] = Unit {0}
IsOrdered (segment ∷ later) = AllByRecursion (λ other. segment.address ≤ other.address) later × IsOrdered later

-- an address is itself
same_address : (address : ℕ) → (address == address) ≡ true
same_address address = (Decides-eqb address address).1 refl

-- no segment begins at an address that is below all of them
none_begins : (address : ℕ) (segments : List Segment) → AllByRecursion (λ other. address < other.address) segments → filter (begins address) segments ≡ []
none_begins address [] above = refl
none_begins address (segment ∷ later) above =
    let other : (address == segment.address) ≡ false = grind (arith, nat_tests, above.0) in
    rw other (none_begins address later above.1)

-- a lower address
lower : (low high : ℕ) (segments : List Segment) → low < high → AllByRecursion (λ other. high ≤ other.address) segments → AllByRecursion (λ other. low < other.address) segments
lower low high [] below above = tt
lower low high (segment ∷ later) below above = (omega (arith, above.0), lower low high later below above.1)

-- what is left after a segment that both have
tail_same : (test : Bool) (x : Segment) (xs ys : List Segment) → cond test (x ∷ xs) xs ≡ cond test (x ∷ ys) ys → xs ≡ ys
tail_same true x xs ys e = cc
tail_same false x xs ys e = e

-- the heads of two lists that are the same
head_same : {x y : Segment} (xs ys : List Segment) → x ∷ xs ≡ y ∷ ys → x ≡ y
head_same xs ys e = cc

-- no list that begins is empty
not_empty : (x : Segment) (xs : List Segment) → x ∷ xs ≡ [] → ⊥
not_empty x xs e = absurd cc

-- the first segment is found at its address
first_begins : (x : Segment) (xs : List Segment) → filter (begins x.address) (x ∷ xs) ≡ x ∷ filter (begins x.address) xs
first_begins x xs = rw (same_address x.address) refl

-- no first segment has an address below that of the other list
not_below : (x y : Segment) (xs ys : List Segment) → x.address < y.address → IsOrdered (y ∷ ys) → filter (begins x.address) (x ∷ xs) ≡ filter (begins x.address) (y ∷ ys) → ⊥
not_below x y xs ys below order same =
    not_empty x (filter (begins x.address) xs)
    (sym (first_begins x xs) ∙ same ∙ none_begins x.address (y ∷ ys) (below, lower x.address y.address ys below order.0))

-- ordered lists that have the same segments at each address are the same
one_order : (xs ys : List Segment) → IsOrdered xs → IsOrdered ys → ((address : ℕ) → filter (begins address) xs ≡ filter (begins address) ys) → xs ≡ ys
one_order [] [] first second same = refl
one_order [] (y ∷ ys) first second same = absurd (not_empty y (filter (begins y.address) ys) (sym (first_begins y ys) ∙ sym (same y.address)))
one_order (x ∷ xs) [] first second same = absurd (not_empty x (filter (begins x.address) xs) (sym (first_begins x xs) ∙ same x.address))
one_order (x ∷ xs) (y ∷ ys) first second same = at (cases_lt x.address y.address) (cases_lt y.address x.address) (one_order xs ys first.1 second.1)
  where
    heads : x.address ≡ y.address → x ≡ y
    heads e =
        let there : filter (begins x.address) (y ∷ ys) ≡ y ∷ filter (begins x.address) ys = subst (λ (a : ℕ). filter (begins a) (y ∷ ys) ≡ y ∷ filter (begins a) ys) (sym e) (first_begins y ys) in
        head_same (filter (begins x.address) xs) (filter (begins x.address) ys) (sym (first_begins x xs) ∙ same x.address ∙ there)

    at : (x.address < y.address) ⊎ (y.address ≤ x.address) → (y.address < x.address) ⊎ (x.address ≤ y.address)
        → (((address : ℕ) → filter (begins address) xs ≡ filter (begins address) ys) → xs ≡ ys) → x ∷ xs ≡ y ∷ ys
    at (inl below) other more = absurd (not_below x y xs ys below second (same x.address))
    at (inr above) (inl below) more = absurd (not_below y x ys xs below first (sym (same y.address)))
    at (inr above) (inr below) more =
        let e : x ≡ y = heads (omega arith) in
        let rest : xs ≡ ys = more (λ a. tail_same (begins a x) x (filter (begins a) xs) (filter (begins a) ys) (same a ∙ ap (λ z. cond (begins a z) (z ∷ filter (begins a) ys) (filter (begins a) ys)) (sym e))) in
        ap (λ z. z ∷ xs) e ∙ ap (λ zs. y ∷ zs) rest

-- what is put among others stands there at its address, before those that begin there
among_begins : (address : ℕ) (segment : Segment) (others : List Segment) → filter (begins address) (inserted_by_address segment others) ≡ filter (begins address) (segment ∷ others)
among_begins address segment [] = refl
among_begins address segment (other ∷ others) = at (nat_le segment.address other.address) refl (among_begins address segment others)
  where
    swap : (one two : Bool) (rest : List Segment) → (one ≡ true → two ≡ true → ⊥) → cond two (other ∷ cond one (segment ∷ rest) rest) (cond one (segment ∷ rest) rest) ≡ cond one (segment ∷ cond two (other ∷ rest) rest) (cond two (other ∷ rest) rest)
    swap true true rest apart = absurd (apart refl refl)
    swap true false rest apart = refl
    swap false true rest apart = refl
    swap false false rest apart = refl

    at : (test : Bool) → nat_le segment.address other.address ≡ test → filter (begins address) (inserted_by_address segment others) ≡ filter (begins address) (segment ∷ others)
        → filter (begins address) (cond test (segment ∷ other ∷ others) (other ∷ inserted_by_address segment others)) ≡ filter (begins address) (segment ∷ other ∷ others)
    at true is more = refl
    at false is more =
        ap (λ rest. cond (begins address other) (other ∷ rest) rest) more
        ∙ swap (begins address segment) (begins address other) (filter (begins address) others) (λ one two. differ ((Decides-eqb address segment.address).0 one) ((Decides-eqb address other.address).0 two) is)
      where
        differ : address ≡ segment.address → address ≡ other.address → nat_le segment.address other.address ≡ false → ⊥
        differ one two is = absurd (grind (arith, nat_tests))

-- sorting keeps those that begin at an address, in their order
sorted_begins : (address : ℕ) (segments : List Segment) → filter (begins address) (sorted segments) ≡ filter (begins address) segments
sorted_begins address [] = refl
sorted_begins address (segment ∷ others) =
    among_begins address segment (sorted others) ∙ ap (λ rest. cond (begins address segment) (segment ∷ rest) rest) (sorted_begins address others)

-- what is put among ordered segments is in order there
among_ordered : (segment : Segment) (others : List Segment) → IsOrdered others → IsOrdered (inserted_by_address segment others)
among_ordered segment [] order = (tt, tt)
among_ordered segment (other ∷ others) order = at (nat_le segment.address other.address) refl (among_ordered segment others order.1)
  where
    at : (test : Bool) → nat_le segment.address other.address ≡ test → IsOrdered (inserted_by_address segment others) → IsOrdered (cond test (segment ∷ other ∷ others) (other ∷ inserted_by_address segment others))
    at true is more =
        let before : segment.address ≤ other.address = (Decides-nat_le segment.address other.address).0 is in
        ((before, above_lower segment.address other.address others before order.0), order)
    at false is more =
        let following : other.address ≤ segment.address = grind (arith, nat_tests) in
        (all_among (λ z. other.address ≤ z.address) segment others following order.0, more)

-- what is sorted is in order
sorted_ordered : (segments : List Segment) → IsOrdered (sorted segments)
sorted_ordered [] = tt
sorted_ordered (segment ∷ others) = among_ordered segment (sorted others) (sorted_ordered others)

-- in order by places is in order
ordered_from : (segments : List Segment) → IsNonDecreasingBy (λ segment. segment.address) segments → IsOrdered segments
ordered_from [] rise = tt
ordered_from (segment ∷ later) rise = (
  recursion_from_All (λ other. segment.address ≤ other.address) later (λ k d below. rise 0 (suc k) d (omega arith) (omega (arith, below))),
  ordered_from later (λ i j d le below. rise (suc i) (suc j) d (omega (arith, le)) (omega (arith, below))),
)

-- those that tie begin at the same address
tie_begins : (segment other : Segment) → ties (λ x y. is_lt (nat_cmp x.address y.address)) segment other ≡ begins segment.address other
tie_begins segment other = grind (arith, nat_tests)

-- a stable sort by address
pub stable_sorted : (xs ys : List Segment) → IsNonDecreasingBy (λ segment. segment.address) ys → IsStableByKey (λ segment. segment.address) nat_cmp xs ys → ys ≡ sorted xs
stable_sorted xs ys rise stable =
    one_order ys (sorted xs) (ordered_from ys rise) (sorted_ordered xs)
    (λ a.
    let at_a : Segment = record { address = a; memory = 0; bytes = [] } in
    let tie : Segment → Bool = ties (λ x y. is_lt (nat_cmp x.address y.address)) at_a in
    sym (filter_agree tie (begins a) (tie_begins at_a) ys) ∙ stable at_a ∙ filter_agree tie (begins a) (tie_begins at_a) xs ∙ sym (sorted_begins a xs))

-- the clause of a sort by what a closure gives, where each call gives the address
pub stable_by_address : {F : Type 0} {g : Mut F (Bor Segment × Unit {0}) ℕ} {f : F} (xs ys : List Segment) → ((key : Segment → ℕ) → ComputesKey g key f → IsStableByKey key nat_cmp xs ys)
    → ((h : F) (a : Bor Segment × Unit {0}) (r : ℕ) (h' : F) → Called g h a r h' → r ≡ a.0.now.address) → IsStableByKey (λ segment. segment.address) nat_cmp xs ys
stable_by_address {g = g} {f = f} xs ys stable calls =
    stable (λ segment. segment.address) (answers_always g (λ a r. r ≡ a.0.now.address) f calls)
