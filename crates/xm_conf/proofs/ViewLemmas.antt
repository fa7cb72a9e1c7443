-- The channel of a port has that port as an end, and where there is none no channel has.
use Rattle.std.proofs.Common.{◌≡◌, ℕ, suc, ◌+◌, ◌-◌, ◌≤◌, Bool, true, false, cond, ◌&&◌, List, [], ◌∷◌, Option, Some, None, refl, ◌∙◌, ap, subst, arith}
use Rattle.std.specs.Prelude.{◌==◌, ◌↔◌, Decides, All, Any, Contains, IfSome, IsNone, IsSomeAnd, is_some, slice_get}
use Rattle.std.specs.List.{find, list_any, position_from}
use Rattle.xm_base.specs.Options.{on}
use Rattle.std.proofs.lemmas.Bool.Decides.{Decides-and, Decides-or, Decides-eqb, Decides-like, Decides-not}
use Rattle.std.proofs.lemmas.List.{get_or_default}
use Rattle.std.proofs.lemmas.List.Elements.{All-cons, All-head, All-tail}
use Rattle.xm_conf.specs.Configuration.{Chan, Conf}
use Rattle.xm_conf.specs.View.{HasEnd, IsLinkOf, is_link_of, is_port, has_end, channel_of, link_of}
use Rattle.xm_conf.specs.declared.channel.End.{End}
use Rattle.xm_conf.specs.declared.link.Link.{Link}
use Rattle.xm_conf.proofs.DecidesLemmas.{decides-any}
use Rattle.xm_conf.proofs.SaysLemmas.{position-none}

-- an end is a port
pub decides-port : (part port : ℕ) (end : End) → Decides (is_port part port end) (end ≡ record { part = part; port = port })
unfolding is_port
decides-port part port end =
    Decides-like (end.part == part && end.port == port) (λ t. λ i. record { part = t.0 i; port = t.1 i }) (λ e. (ap (λ (x : End). x.part) e, ap (λ (x : End). x.port) e))
    (Decides-and _ _ (Decides-eqb end.part part) (Decides-eqb end.port port))

-- an element with a fact that says which it is
pub contains-any : {X : Type 0} (xs : List X) (y : X) → Any (λ x. x ≡ y) xs → Contains xs y
contains-any xs y any = (any.0, any.2, get_or_default xs any.0 y any.1 any.2 ∙ any.3 ∙ any.4)

-- an element that is there
pub any-contains : {X : Type 0} (xs : List X) (y : X) → Contains xs y → Any (λ x. x ≡ y) xs
any-contains xs y contains = (contains.0, y, contains.1, contains.2, refl)

-- a channel has an end
pub decides-has_end : (part port : ℕ) (chan : Chan) → Decides (has_end part port chan) (HasEnd part port chan)
unfolding has_end
decides-has_end part port chan =
    let end : End = record { part = part; port = port } in
    Decides-or (is_port part port chan.source) (list_any (is_port part port) chan.dests) (decides-port part port chan.source)
    (Decides-like (list_any (is_port part port) chan.dests) (contains-any chan.dests end) (any-contains chan.dests end)
    (decides-any {P = λ x. x ≡ end} (is_port part port) (decides-port part port) chan.dests))

-- the first place that passes a test has an element with the fact
pub position-found : {X : Type 0} {P : X → Type 0} (test : X → Bool) → ((x : X) → Decides (test x) (P x)) → (k : ℕ) (xs : List X)
    → IfSome (position_from test k xs) (λ n. (k ≤ n) × IsSomeAnd (slice_get xs (n - k)) P)
position-found test d k [] = tt
position-found {X} {P} test d k (x ∷ xs) = at (test x) (d x) (position_from test (k + 1) xs) (position-found test d (k + 1) xs)
  where
    at : (b : Bool) → Decides b (P x) → (found : Option ℕ) → IfSome found (λ n. (k + 1 ≤ n) × IsSomeAnd (slice_get xs (n - (k + 1))) P)
        → IfSome (cond b (Some k) found) (λ n. (k ≤ n) × IsSomeAnd (slice_get (x ∷ xs) (n - k)) P)
    at true here found later = let e : 0 ≡ k - k = omega arith in (omega arith, subst (λ (m : ℕ). IsSomeAnd (slice_get (x ∷ xs) m) P) e (here.0 refl))
    at false here None later = tt
    at false here (Some n) later =
        let past : k + 1 ≤ n = later.0 in
        let e : suc (n - (k + 1)) ≡ n - k = omega arith in
        (omega arith, subst (λ (m : ℕ). IsSomeAnd (slice_get (x ∷ xs) m) P) e later.1)

-- the channel that is found has the end
pub channel_of_found : (conf : Conf) (part port : ℕ) → IfSome (channel_of conf part port) (λ c. IsSomeAnd (slice_get conf.chans c) (HasEnd part port))
unfolding channel_of
channel_of_found conf part port = at (position_from (has_end part port) 0 conf.chans) (position-found {P = HasEnd part port} (has_end part port) (decides-has_end part port) 0 conf.chans)
  where
    at : (found : Option ℕ) → IfSome found (λ n. (0 ≤ n) × IsSomeAnd (slice_get conf.chans (n - 0)) (HasEnd part port)) → IfSome found (λ n. IsSomeAnd (slice_get conf.chans n) (HasEnd part port))
    at None h = tt
    at (Some n) h = let e : n - 0 ≡ n = omega arith in subst (λ (m : ℕ). IsSomeAnd (slice_get conf.chans m) (HasEnd part port)) e h.1

-- no channel is found exactly where none has the end
pub channel_of_none : (conf : Conf) (part port : ℕ) → IsNone (channel_of conf part port) ↔ All (λ chan. ¬ (HasEnd part port chan)) conf.chans
unfolding channel_of
channel_of_none conf part port =
    let h = position-none {R = λ chan. ¬ (HasEnd part port chan)} (has_end part port) (λ chan. Decides-not (has_end part port chan) (decides-has_end part port chan)) 0 conf.chans in
    (λ none. h.0 (is_none_none (position_from (has_end part port) 0 conf.chans) none), λ all. ap is_some (h.1 all))
  where
    is_none_none : (o : Option ℕ) → IsNone o → o ≡ None
    is_none_none None h = refl
    is_none_none (Some n) h = absurd (let never : ⊥ = cc in never)

-- a link is a partition's, of a number
pub decides-link_of : (part number : ℕ) (link : Link) → Decides (is_link_of part number link) (IsLinkOf part number link)
unfolding is_link_of
decides-link_of part number link = Decides-and (link.source == part) (link.number == number) (Decides-eqb link.source part) (Decides-eqb link.number number)

-- the first element that passes a test has the fact, and is in the list
pub find-found : {X : Type 0} {P : X → Type 0} (test : X → Bool) → ((x : X) → Decides (test x) (P x)) → (xs : List X) → IfSome (find test xs) (λ x. P x × Contains xs x)
find-found test d [] = tt
find-found {X} {P} test d (x ∷ xs) = at (test x) (d x) (find test xs) (find-found test d xs)
  where
    at : (b : Bool) → Decides b (P x) → (found : Option X) → IfSome found (λ y. P y × Contains xs y) → IfSome (cond b (Some x) found) (λ y. P y × Contains (x ∷ xs) y)
    at true here found later = (here.0 refl, (0, omega arith, refl))
    at false here None later = tt
    at false here (Some y) later = (later.0, (suc later.1.0, omega (arith, later.1.1), later.1.2))

-- no element passes a test exactly where each fails it
pub find-none : {X : Type 0} {P : X → Type 0} (test : X → Bool) → ((x : X) → Decides (test x) (P x)) → (xs : List X)
    → (find test xs ≡ None → All (λ x. ¬ (P x)) xs) × (All (λ x. ¬ (P x)) xs → find test xs ≡ None)
find-none test d [] = (λ none n e below. absurd (omega arith), λ all. refl)
find-none {X} {P} test d (x ∷ xs) = at (test x) (d x) (find-none test d xs)
  where
    at : (b : Bool) → Decides b (P x) → (find test xs ≡ None → All (λ y. ¬ (P y)) xs) × (All (λ y. ¬ (P y)) xs → find test xs ≡ None)
        → (cond b (Some x) (find test xs) ≡ None → All (λ y. ¬ (P y)) (x ∷ xs)) × (All (λ y. ¬ (P y)) (x ∷ xs) → cond b (Some x) (find test xs) ≡ None)
    at true here more = (λ none. absurd (let no : ⊥ = cc in no), λ all. absurd (All-head (λ y. ¬ (P y)) x xs all (here.0 refl)))
    at false here more = (
      λ none. All-cons (λ y. ¬ (P y)) x xs (λ p. let e : false ≡ true = here.1 p in let no : ⊥ = cc in no) (more.0 none),
      λ all. more.1 (All-tail (λ y. ¬ (P y)) x xs all),
    )

-- where a link goes that is found: there is one from the partition, of the number, to there
pub link_of_found : (conf : Conf) (part number : ℕ) → IfSome (link_of conf part number) (λ dest. Contains conf.links (record { number = number; source = part; dest = dest }))
unfolding link_of
link_of_found conf part number = at (find (is_link_of part number) conf.links) (find-found {P = IsLinkOf part number} (is_link_of part number) (decides-link_of part number) conf.links)
  where
    at : (found : Option Link) → IfSome found (λ link. IsLinkOf part number link × Contains conf.links link)
        → IfSome (on (λ (link : Link). link.dest) found) (λ dest. Contains conf.links (record { number = number; source = part; dest = dest }))
    at None h = tt
    at (Some link) h =
        let is : link ≡ record { number = number; source = part; dest = link.dest } = λ i. record { number = h.0.1 i; source = h.0.0 i; dest = link.dest } in
        subst (λ (of : Link). Contains conf.links of) is h.1

-- no link is found exactly where none is from the partition, of the number
pub link_of_none : (conf : Conf) (part number : ℕ) → IsNone (link_of conf part number) ↔ All (λ link. ¬ (IsLinkOf part number link)) conf.links
unfolding link_of
link_of_none conf part number =
    let h = find-none {P = IsLinkOf part number} (is_link_of part number) (decides-link_of part number) conf.links in
    (λ none. h.0 (none_found (find (is_link_of part number) conf.links) none), λ all. ap (λ found. is_some (on (λ (link : Link). link.dest) found)) (h.1 all))
  where
    none_found : (found : Option Link) → IsNone (on (λ (link : Link). link.dest) found) → found ≡ None
    none_found None h = refl
    none_found (Some link) h = absurd (let never : ⊥ = cc in never)
