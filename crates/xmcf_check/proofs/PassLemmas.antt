-- Passes over the entries: what one entry more adds, and what is capped where it is found.
use Rattle.std.proofs.Common.{◌≡◌, ◌∙◌, refl, sym, ap, arith, ℕ, zero, suc, ◌+◌, ◌≤◌, List, [], ◌∷◌, ◌++◌, map, take, length, append-nil, append_assoc, Option, Some, None}
use Rattle.std.specs.Prelude.{slice_get}
use Rattle.std.specs.List.{cons_option}
use Rattle.std.proofs.lemmas.List.{take_all}
use Rattle.xm_base.specs.Options.{on}
use Rattle.xm_conf.specs.Along.{added_by_each, each_from, head_of}
use Rattle.xmcf_reader.specs.declared.draft.Element.{Element}
use Rattle.xmcf_reader.specs.declared.draft.Entry.{Entry}
use Rattle.xmcf_check.specs.Described.{among, first_among}
use Rattle.xmcf_check.specs.lemmas.Families.{picked}

-- what is found and then changed is what is changed where it is found
pub among-on : {X Y : Type 0} (f : X → Y) (pick : Element → Option X) (entries : List Entry) → among (λ element. on f (pick element)) entries ≡ map f (among pick entries)
among-on f pick [] = refl
among-on {X} {Y} f pick (entry ∷ entries) = at (pick entry.what) (among-on f pick entries)
  where
    at : (found : Option X) → among (λ element. on f (pick element)) entries ≡ map f (among pick entries)
        → cons_option (on f found) (among (λ element. on f (pick element)) entries) ≡ map f (cons_option found (among pick entries))
    at None more = more
    at (Some x) more = ap (λ ys. f x ∷ ys) more

-- the first that is found and then changed is what is changed where it is found
pub first_among-on : {X Y : Type 0} (f : X → Y) (pick : Element → Option X) (entries : List Entry) → first_among (λ element. on f (pick element)) entries ≡ on f (first_among pick entries)
first_among-on {X} {Y} f pick entries = ap (λ (ys : List Y). head_of ys) (among-on f pick entries) ∙ at (among pick entries)
  where
    at : (xs : List X) → head_of (map f xs) ≡ on f (head_of xs)
    at [] = refl
    at (x ∷ xs) = refl

-- what an entry adds is what is made of that which its element adds
abbrev pub Makes : {X Y : Type 0} → (ℕ → Entry → List Y) → (ℕ → Option X → List Y) → (Element → Option X) → Type 0
Makes {X} {Y} f made pick = ((n : ℕ) (entry : Entry) → f n entry ≡ made n (pick entry.what)) × ((n : ℕ) → made n None ≡ [])

-- one entry more
pub each_from-more : {X Y : Type 0} (f : ℕ → Entry → List Y) (made : ℕ → Option X → List Y) (pick : Element → Option X) (n i : ℕ) (entries : List Entry) → Makes f made pick
    → each_from f n (take (suc i) entries) ≡ each_from f n (take i entries) ++ made (n + i) (picked pick (slice_get entries i))
each_from-more f made pick n i [] makes = rw (take_all {A = Entry} i [] (omega arith)) (sym (makes.1 (n + i)))
each_from-more f made pick n zero (entry ∷ entries) makes = let e : n + 0 ≡ n = omega arith in rw e (append-nil (f n entry) ∙ makes.0 n entry)
each_from-more f made pick n (suc i) (entry ∷ entries) makes =
    let e : (n + 1) + i ≡ n + suc i = omega arith in
    ap (λ ys. f n entry ++ ys) (each_from-more f made pick (n + 1) i entries makes)
    ∙ ap (λ k. f n entry ++ (each_from f (n + 1) (take i entries) ++ made k (picked pick (slice_get entries i)))) e
    ∙ sym (append_assoc (f n entry) (each_from f (n + 1) (take i entries)) (made (n + suc i) (picked pick (slice_get entries i))))

-- one entry more, counted from 0
pub each-more : {X Y : Type 0} (f : ℕ → Entry → List Y) (made : ℕ → Option X → List Y) (pick : Element → Option X) (i : ℕ) (entries : List Entry) → Makes f made pick
    → added_by_each f (take (i + 1) entries) ≡ added_by_each f (take i entries) ++ made i (picked pick (slice_get entries i))
each-more f made pick i entries makes =
    let one : i + 1 ≡ suc i = omega arith in
    let none : 0 + i ≡ i = omega arith in
    ap (λ k. added_by_each f (take k entries)) one ∙ each_from-more f made pick 0 i entries makes ∙ ap (λ k. added_by_each f (take i entries) ++ made k (picked pick (slice_get entries i))) none

-- all entries
pub each-all : {Y : Type 0} (f : ℕ → Entry → List Y) (i : ℕ) (entries : List Entry) → length entries ≤ i → added_by_each f (take i entries) ≡ added_by_each f entries
each-all f i entries all = ap (added_by_each f) (take_all i entries all)

-- the images of a list with more after it
pub map-more : {X Y : Type 0} (f : X → Y) (xs ys : List X) → map f (xs ++ ys) ≡ map f xs ++ map f ys
map-more f [] ys = refl
map-more f (x ∷ xs) ys = ap (λ zs. f x ∷ zs) (map-more f xs ys)

-- one entry more in a pass whose results are changed
pub one_pass : {X Y Z : Type 0} (g : Y → Z) (f : ℕ → Entry → List Y) (made : ℕ → Option X → List Y) (pick : Element → Option X) (i : ℕ) (entries : List Entry) (old new : List Z) → Makes f made pick
    → old ≡ map g (added_by_each f (take i entries)) → new ≡ old ++ map g (made i (picked pick (slice_get entries i))) → new ≡ map g (added_by_each f (take (i + 1) entries))
one_pass g f made pick i entries old new makes before now =
    now ∙ ap (λ ys. ys ++ map g (made i (picked pick (slice_get entries i)))) before
    ∙ sym (map-more g (added_by_each f (take i entries)) (made i (picked pick (slice_get entries i)))) ∙ ap (map g) (sym (each-more f made pick i entries makes))

-- one entry more in a pass
pub plain_pass : {X Y : Type 0} (f : ℕ → Entry → List Y) (made : ℕ → Option X → List Y) (pick : Element → Option X) (i : ℕ) (entries : List Entry) (old new : List Y) → Makes f made pick
    → old ≡ added_by_each f (take i entries) → new ≡ old ++ made i (picked pick (slice_get entries i)) → new ≡ added_by_each f (take (i + 1) entries)
plain_pass f made pick i entries old new makes before now = now ∙ ap (λ ys. ys ++ made i (picked pick (slice_get entries i))) before ∙ sym (each-more f made pick i entries makes)

-- what is seen of a list with one more
pub seen_more : {V W : Type 0} (see : V → W) (old new : List V) (one : V) (more : List W) → new ≡ old ++ one ∷ [] → see one ∷ [] ≡ more → map see new ≡ map see old ++ more
seen_more {V} {W} see old new one more now is = ap (λ (vs : List V). map see vs) now ∙ map-more see old (one ∷ []) ∙ ap (λ (ws : List W). map see old ++ ws) is
