-- Elements that are read one after another, by a loop.
use Rattle.std.proofs.Common.{◌≡◌, ℕ, suc, ◌+◌, ◌-◌, ◌<◌, ◌≤◌, List, [], ◌∷◌, ◌++◌, length, take, set, refl, sym, ◌∙◌, ap, arith, append_assoc}
use Rattle.std.specs.Prelude.{Ok, Err}
use Rattle.std.proofs.lemmas.List.{append-nil, take_all, take_more_set}
use Rattle.std.proofs.Math.ListN.{length-set}
use Rattle.xm_base.specs.Cursor.{Place}
use Rattle.file_headers.specs.Steps.{◌>>=◌}
use Rattle.bin_config.specs.Reading.{Read, elements_at}
use Rattle.bin_config.specs.Gives.{Fails}
use Rattle.bin_config.specs.lemmas.GivesTerms.{with_front}
use Rattle.fault_messages.specs.declared.fault.XmcFault.{XmcFault}
use Rattle.fault_messages.specs.declared.fault.XmcFault.TheVariants as fault

-- one more element after a prefix
pub with_front-more : {X : Type 0} (front : List X) (x : X) (read : Read (List X)) → with_front (front ++ x ∷ []) read ≡ with_front front (read >>= λ xs. Ok (x ∷ xs.0, xs.1))
with_front-more front x (Ok (xs, place)) = ap (λ all. Ok (all, place)) (append_assoc front (x ∷ []) xs)
with_front-more front x (Err f) = refl

-- no element stands before those that are read
with_front-none : {X : Type 0} (read : Read (List X)) → with_front [] read ≡ read
with_front-none (Ok (xs, place)) = refl
with_front-none (Err f) = refl

-- before the first element
pub elements_begin : {X : Type 0} (element : Place → Read X) (count : ℕ) (place : Place) (front : List X) → front ≡ []
    → with_front front (elements_at element (count - 0) place) ≡ elements_at element count place
elements_begin element count place front none =
    let all : count - 0 ≡ count = omega arith in
    ap (λ k. with_front front (elements_at element k place)) all ∙ ap (λ xs. with_front xs (elements_at element count place)) none ∙ with_front-none (elements_at element count place)

-- an element that is read
pub elements_more : {X : Type 0} (element : Place → Read X) (count n : ℕ) (old new : Place) (front : List X) (x : X) (r : Read (List X))
    → n < count → element old ≡ Ok (x, new) → with_front front (elements_at element (count - n) old) ≡ r → with_front (front ++ x ∷ []) (elements_at element (count - (n + 1)) new) ≡ r
elements_more element count n old new front x r below read sofar =
    let one : suc (count - (n + 1)) ≡ count - n = omega arith in
    with_front-more front x (elements_at element (count - (n + 1)) new)
    ∙ ap (λ first. with_front front (first >>= λ y. elements_at element (count - (n + 1)) y.1 >>= λ ys. Ok (y.0 ∷ ys.0, ys.1))) (sym read)
    ∙ ap (λ k. with_front front (elements_at element k old)) one
    ∙ sofar

-- an element that is a fault
pub elements_fault : {X : Type 0} (element : Place → Read X) (count n : ℕ) (old : Place) (front : List X) (f : XmcFault) (r : Read (List X))
    → n < count → element old ≡ Err f → with_front front (elements_at element (count - n) old) ≡ r → r ≡ Err f
elements_fault element count n old front f r below read sofar =
    let one : suc (count - (n + 1)) ≡ count - n = omega arith in
    sym sofar
    ∙ ap (λ k. with_front front (elements_at element k old)) (sym one)
    ∙ ap (λ first. with_front front (first >>= λ y. elements_at element (count - (n + 1)) y.1 >>= λ ys. Ok (y.0 ∷ ys.0, ys.1))) read

-- what a loop fails with at an element
pub elements_fails : {X : Type 0} (element : Place → Read X) (count n : ℕ) (old : Place) (front : List X) (f : XmcFault) (r : Read (List X))
    → n < count → Fails f (element old) → with_front front (elements_at element (count - n) old) ≡ r → Fails f r
elements_fails element count n old front fault.Memory r below read sofar = tt
elements_fails element count n old front other r below read sofar = elements_fault element count n old front other r below read sofar

-- after the last element
pub elements_all : {X : Type 0} (element : Place → Read X) (count n : ℕ) (place : Place) (front : List X) (r : Read (List X))
    → count ≤ n → with_front front (elements_at element (count - n) place) ≡ r → r ≡ Ok (front, place)
elements_all element count n place front r past sofar =
    let none : count - n ≡ 0 = omega arith in
    sym sofar
    ∙ ap (λ k. with_front front (elements_at element k place)) none
    ∙ ap (λ all. Ok (all, place)) (append-nil front)

-- an element that is read into its place
pub elements_set : {X : Type 0} (element : Place → Read X) (places : List X) (n : ℕ) (old new : Place) (x : X) (r : Read (List X))
    → n < length places → element old ≡ Ok (x, new) → with_front (take n places) (elements_at element (length places - n) old) ≡ r
    → with_front (take (n + 1) (set places n x)) (elements_at element (length (set places n x) - (n + 1)) new) ≡ r
elements_set element places n old new x r below read sofar =
    ap (λ front. with_front front (elements_at element (length (set places n x) - (n + 1)) new)) (take_more_set places n x below)
    ∙ ap (λ k. with_front (take n places ++ x ∷ []) (elements_at element (k - (n + 1)) new)) (length-set places n x)
    ∙ elements_more element (length places) n old new (take n places) x r below read sofar

-- all places are filled
pub elements_filled : {X : Type 0} (element : Place → Read X) (places : List X) (n : ℕ) (place : Place) (r : Read (List X))
    → length places ≤ n → with_front (take n places) (elements_at element (length places - n) place) ≡ r → r ≡ Ok (places, place)
elements_filled element places n place r past sofar =
    elements_all element (length places) n place (take n places) r past sofar ∙ ap (λ all. Ok (all, place)) (take_all n places past)

-- the outcome of a loop over places
pub ruleset elements_fill = (elements_set, elements_fails, elements_filled)
