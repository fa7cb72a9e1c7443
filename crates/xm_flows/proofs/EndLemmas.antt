-- Each port is the end of one channel at most: where it stands, and by what name its partition calls it.
use Rattle.std.proofs.Common.{◌≡◌, ℕ, zero, suc, ◌<◌, ◌≤◌, ◌+◌, Bool, true, false, cond, List, [], ◌∷◌, ◌++◌, length, Option, None, Some, refl, sym, ap, ◌∙◌, arith, subst}
use Rattle.std.specs.Prelude.{slice_get, slice_index_or, ◌==◌, ◌≢◌, ◌||◌, if◌then◌else◌, nat_lt, AllPairs}
use Rattle.std.specs.List.{list_any, position_from}
use Rattle.std.proofs.lemmas.Bool.{eqb-true}
use Rattle.std.proofs.lemmas.Bool.Decides.{nat_tests}
use Rattle.std.proofs.lemmas.Option.{get_or_from_slice_get, same_Some, slice_get_within}
use Rattle.xm_conf.specs.Along.{each_from}
use Rattle.xm_conf.specs.Configuration.{Chan, Conf}
use Rattle.xm_conf.specs.Description.{described}
use Rattle.xm_conf.specs.Fits.{Fits}
use Rattle.xm_conf.specs.Rules.{chan_ends, dest_item}
use Rattle.xm_conf.specs.View.{channel_of, has_end, is_port}
use Rattle.xm_conf.specs.declared.channel.End.{End}
use Rattle.xm_conf.specs.declared.item.Item.{Item}
use Rattle.xm_conf.specs.declared.item.Item.TheVariants as item
use Rattle.machine_model.specs.lemmas.EndLemmas.{end_is, found_from}
use Rattle.machine_model.specs.lemmas.NameLemmas.{same_number}
use Rattle.machine_model.specs.Lists.{is_number}
use Rattle.machine_model.specs.View.{name_from, name_of, part_of}

-- where an element passes, a first one is found
finds : {X : Type 0} (test : X → Bool) (k : ℕ) (xs : List X) (c : ℕ) (x : X) → slice_get xs c ≡ Some x → test x ≡ true → (e : ℕ) × (position_from test k xs ≡ Some e)
finds test k [] c x is passes = absurd cc
finds test k (y ∷ xs) zero x is passes = (k, ap (λ b. cond b (Some k) (position_from test (k + 1) xs)) (ap test (same_Some y x is) ∙ passes))
finds test k (y ∷ xs) (suc c) x is passes = by (test y) (finds test (k + 1) xs c x is passes)
  where
    by : (b : Bool) → ((e : ℕ) × (position_from test (k + 1) xs ≡ Some e)) → (e : ℕ) × (cond b (Some k) (position_from test (k + 1) xs) ≡ Some e)
    by true further = (k, refl)
    by false further = further

-- an end is the port that it is
pub its_port : (end : End) → is_port end.part end.port end ≡ true
unfolding is_port
its_port end = grind (arith, nat_tests)

-- one of two tests that hold
pub either_true : {P : Type 0} (a b : Bool) → (a || b) ≡ true → (a ≡ true → P) → (b ≡ true → P) → P
either_true true b said one other = one refl
either_true false b said one other = other said

-- an element of a list that is followed by another
get_first : {X : Type 0} (xs ys : List X) (i : ℕ) (x : X) → slice_get xs i ≡ Some x → slice_get (xs ++ ys) i ≡ Some x
get_first [] ys i x is = absurd cc
get_first (y ∷ xs) ys zero x is = is
get_first (y ∷ xs) ys (suc i) x is = get_first xs ys i x is

get_later : {X : Type 0} (xs ys : List X) (j : ℕ) (y : X) → slice_get ys j ≡ Some y → (k : ℕ) × (slice_get (xs ++ ys) k ≡ Some y) × (length xs ≤ k)
get_later [] ys j y is = (j, is, omega arith)
get_later (x ∷ xs) ys j y is =
    let further = get_later xs ys j y is in
    let past : length xs ≤ further.0 = further.2 in
    (suc further.0, further.1, omega (arith, past))

-- what holds of each pair holds of two elements, and of each pair of the rest
pair_of : {X : Type 0} (R : X → X → Type 0) (xs : List X) (i j : ℕ) (x y : X) → AllPairs R xs → slice_get xs i ≡ Some x → slice_get xs j ≡ Some y → i < j → R x y
pair_of R xs i j x y all first second before =
    subst (λ b. R x b) (get_or_from_slice_get xs j y x second)
    (subst (λ a. R a (slice_index_or xs j x)) (get_or_from_slice_get xs i x x first) (all i j x before (slice_get_within xs j y second)))

pairs_rest : {X : Type 0} (R : X → X → Type 0) (xs ys : List X) → AllPairs R (xs ++ ys) → AllPairs R ys
pairs_rest R [] ys all = all
pairs_rest R (x ∷ xs) ys all = pairs_rest R xs ys (λ i j d before within. all (suc i) (suc j) d (omega (arith, before)) (omega (arith, within)))

-- an end of a channel is among the ends of the configuration, with an item
record IsAmong (ends : List (Item × End)) (p r : ℕ) : Type 0 where
  place : ℕ
  it : Item
  is : slice_get ends place ≡ Some (it, record { part = p; port = r })

dest_among : (n k p r : ℕ) (dests : List End) → list_any (is_port p r) dests ≡ true → IsAmong (each_from (dest_item n) k dests) p r
dest_among n k p r [] is = absurd cc
dest_among n k p r (end ∷ dests) is =
    either_true (is_port p r end) (list_any (is_port p r) dests) is
    (λ its. record { place = 0; it = item.End n (k + 1); is = ap (λ e. Some (item.End n (k + 1), e)) (end_is p r end its) })
    (λ further. let found = dest_among n (k + 1) p r dests further in record { place = suc found.place; it = found.it; is = found.is })

end_among : (n p r : ℕ) (chan : Chan) → has_end p r chan ≡ true → IsAmong (chan_ends n chan) p r
unfolding chan_ends has_end
end_among n p r chan is =
    either_true (is_port p r chan.source) (list_any (is_port p r) chan.dests) is
    (λ its. record { place = 0; it = item.End n 0; is = ap (λ e. Some (item.End n 0, e)) (end_is p r chan.source its) })
    (λ further. let found = dest_among n 0 p r chan.dests further in record { place = suc found.place; it = found.it; is = found.is })

ends_among : (n : ℕ) (chans : List Chan) (c : ℕ) (chan : Chan) (p r : ℕ) → slice_get chans c ≡ Some chan → has_end p r chan ≡ true → IsAmong (each_from chan_ends n chans) p r
ends_among n [] c chan p r there ends = absurd cc
ends_among n (x ∷ chans) zero chan p r there ends =
    let found = end_among n p r x (ap (has_end p r) (same_Some x chan there) ∙ ends) in
    record { place = found.place; it = found.it; is = get_first (chan_ends n x) (each_from chan_ends (n + 1) chans) found.place (found.it, record { part = p; port = r }) found.is }
ends_among n (x ∷ chans) (suc c) chan p r there ends =
    let found = ends_among (n + 1) chans c chan p r there ends in
    let later = get_later (chan_ends n x) (each_from chan_ends (n + 1) chans) found.place (found.it, record { part = p; port = r }) found.is in
    record { place = later.0; it = found.it; is = later.1 }

-- two channels have no end in common
abbrev OtherEnds : (Item × End) → (Item × End) → Type 0
OtherEnds a b = a.1 ≢ b.1

ends_apart : (n : ℕ) (chans : List Chan) → AllPairs OtherEnds (each_from chan_ends n chans) → (c d : ℕ) (chan other : Chan) (p r : ℕ) → slice_get chans c ≡ Some chan
    → slice_get chans d ≡ Some other → has_end p r chan ≡ true → has_end p r other ≡ true → c < d → ⊥
ends_apart n [] apart c d chan other p r first second ends ends_too before = absurd cc
ends_apart n (x ∷ chans) apart c zero chan other p r first second ends ends_too before = absurd (omega (arith, before))
ends_apart n (x ∷ chans) apart zero (suc d) chan other p r first second ends ends_too before =
    let one = end_among n p r x (ap (has_end p r) (same_Some x chan first) ∙ ends) in
    let found = ends_among (n + 1) chans d other p r second ends_too in
    let later = get_later (chan_ends n x) (each_from chan_ends (n + 1) chans) found.place (found.it, record { part = p; port = r }) found.is in
    let within : one.place < length (chan_ends n x) = slice_get_within (chan_ends n x) one.place (one.it, record { part = p; port = r }) one.is in
    let past : length (chan_ends n x) ≤ later.0 = later.2 in
    pair_of OtherEnds (chan_ends n x ++ each_from chan_ends (n + 1) chans) one.place later.0 (one.it, record { part = p; port = r }) (found.it, record { part = p; port = r }) apart
    (get_first (chan_ends n x) (each_from chan_ends (n + 1) chans) one.place (one.it, record { part = p; port = r }) one.is) later.1 (omega (arith, within, past)) refl
ends_apart n (x ∷ chans) apart (suc c) (suc d) chan other p r first second ends ends_too before =
    ends_apart (n + 1) chans (pairs_rest OtherEnds (chan_ends n x) (each_from chan_ends (n + 1) chans) apart) c d chan other p r first second ends ends_too (omega (arith, before))

-- so a port is an end of one channel
pub one_channel : (conf : Conf) → Fits (described conf) → (c d : ℕ) (chan other : Chan) (p r : ℕ) → slice_get conf.chans c ≡ Some chan → slice_get conf.chans d ≡ Some other
    → has_end p r chan ≡ true → has_end p r other ≡ true → c ≡ d
unfolding described
one_channel conf fits c d chan other p r first second ends ends_too = by (nat_lt c d) (nat_lt d c) refl refl
  where
    by : (a b : Bool) → nat_lt c d ≡ a → nat_lt d c ≡ b → c ≡ d
    by true b before after = absurd (ends_apart 0 conf.chans fits.ends_differ c d chan other p r first second ends ends_too (grind (arith, nat_tests)))
    by false true before after = absurd (ends_apart 0 conf.chans fits.ends_differ d c other chan p r second first ends_too ends (grind (arith, nat_tests)))
    by false false before after = grind (arith, nat_tests)

-- the channel of a port
pub record IsItsChannel (conf : Conf) (p r c : ℕ) : Type 0 where
  pub chan : Chan
  pub there : slice_get conf.chans c ≡ Some chan
  pub ends : has_end p r chan ≡ true

pub its_channel : (conf : Conf) (p r c : ℕ) → channel_of conf p r ≡ Some c → IsItsChannel conf p r c
unfolding channel_of
its_channel conf p r c is =
    let found = found_from (has_end p r) 0 conf.chans c is in
    let place : c ≡ 0 + found.place = found.at in
    let same : found.place ≡ c = omega (arith, place) in
    record { chan = found.element; there = ap (slice_get conf.chans) (sym same) ∙ found.there; ends = found.passes }

pub channel_is : (conf : Conf) → Fits (described conf) → (c : ℕ) (chan : Chan) (p r : ℕ) → slice_get conf.chans c ≡ Some chan → has_end p r chan ≡ true → channel_of conf p r ≡ Some c
unfolding channel_of
channel_is conf fits c chan p r there ends =
    let first = finds (has_end p r) 0 conf.chans c chan there ends in
    let its = its_channel conf p r first.0 first.1 in
    first.1 ∙ ap Some (one_channel conf fits first.0 c its.chan chan p r its.there there its.ends ends)

-- whether a port is on a channel is whether it is an end of it
pub is_its_channel : (conf : Conf) → Fits (described conf) → (c : ℕ) (chan : Chan) (p r : ℕ) → slice_get conf.chans c ≡ Some chan → is_number (channel_of conf p r) c ≡ has_end p r chan
is_its_channel conf fits c chan p r there = by (has_end p r chan) refl
  where
    numbered : (o : Option ℕ) → channel_of conf p r ≡ o → has_end p r chan ≡ false → is_number o c ≡ false
    numbered None is fails = refl
    numbered (Some e) is fails = test (e == c) refl
      where
        test : (b : Bool) → (e == c) ≡ b → b ≡ false
        test false other = refl
        test true same =
            let its = its_channel conf p r c (is ∙ ap Some (eqb-true e c same)) in
            let one : its.chan ≡ chan = same_Some its.chan chan (sym its.there ∙ there) in
            let ends : has_end p r chan ≡ true = sym (ap (has_end p r) one) ∙ its.ends in
            absurd cc

    by : (b : Bool) → has_end p r chan ≡ b → is_number (channel_of conf p r) c ≡ b
    by true ends = ap (λ o. is_number o c) (channel_is conf fits c chan p r there ends) ∙ grind (arith)
    by false fails = numbered (channel_of conf p r) refl fails

-- a channel of a port of the partition has a name
name_from_there : (conf : Conf) (p c r : ℕ) → channel_of conf p r ≡ Some c → (count first : ℕ) → first ≤ r → r < first + count → (q : ℕ) × (name_from conf p c count first ≡ Some q)
name_from_there conf p c r is zero first low high = absurd (omega (arith, low, high))
name_from_there conf p c r is (suc count) first low high =
    by (is_number (channel_of conf p first) c) refl (λ past. name_from_there conf p c r is count (suc first) past (omega (arith, high)))
  where
    later : is_number (channel_of conf p first) c ≡ false → suc first ≤ r
    later fails = test (nat_lt first r) refl
      where
        test : (b : Bool) → nat_lt first r ≡ b → suc first ≤ r
        test true before = grind (arith, nat_tests)
        test false not_before =
            let same : first ≡ r = grind (arith, nat_tests) in
            let holds : is_number (channel_of conf p first) c ≡ true = ap (λ o. is_number o c) (ap (channel_of conf p) same ∙ is) ∙ same_number c in
            absurd cc

    by : (b : Bool) → is_number (channel_of conf p first) c ≡ b → (suc first ≤ r → (q : ℕ) × (name_from conf p c count (suc first) ≡ Some q))
        → (q : ℕ) × ((if b then Some first else name_from conf p c count (suc first)) ≡ Some q)
    by true found further = (first, refl)
    by false fails further = further (later fails)

pub name_there : (conf : Conf) (p c r : ℕ) → channel_of conf p r ≡ Some c → r < length (part_of conf p).ports → (q : ℕ) × (name_of conf p c ≡ Some q)
unfolding name_of
name_there conf p c r is below = name_from_there conf p c r is (length (part_of conf p).ports) 0 (omega arith) (omega (arith, below))
