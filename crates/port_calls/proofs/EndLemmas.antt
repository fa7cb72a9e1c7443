-- A partition at none of a channel's destinations hears nothing of it.
use Rattle.std.proofs.Common.{◌≡◌, ℕ, zero, suc, ◌+◌, ◌<◌, Bool, true, false, cond, ◌&&◌, List, [], ◌∷◌, Option, None, Some, refl, sym, ap, subst, ◌∙◌, arith}
use Rattle.std.specs.Prelude.{◌==◌, ◌||◌, IfSome, IsSome, length, slice_get, slice_index_or}
use Rattle.std.specs.List.{list_any, position_from}
use Rattle.std.proofs.lemmas.Bool.Decides.{nat_tests}
use Rattle.std.proofs.lemmas.Option.{slice_get-get_or, slice_get_within}
use Rattle.xm_conf.specs.Configuration.{Chan, Conf, Part}
use Rattle.xm_conf.specs.Description.{described}
use Rattle.xm_conf.specs.Fits.{Fits, HasPorts, IsEnd, SuitsPorts}
use Rattle.xm_conf.specs.Rules.{port_at, port_of}
use Rattle.xm_conf.specs.View.{channel_of, has_end, is_port}
use Rattle.xm_conf.specs.declared.channel.End.{End}
use Rattle.xm_conf.specs.declared.port.Port.{Port}
use Rattle.xm_conf.specs.declared.port.Way.TheVariants as way
use Rattle.xm_ports.specs.Ports.{is_made}
use Rattle.machine_model.specs.lemmas.EndLemmas.{all_at, end_is, part_port}
use Rattle.machine_model.specs.Lists.{is_number}
use Rattle.machine_model.specs.Partition.{PartitionState}
use Rattle.machine_model.specs.Traffic.{is_destination}
use Rattle.machine_model.specs.View.{no_part, part_of}
use Rattle.port_calls.specs.lemmas.Traffic.{dests_of, hears_in, is_on}
use Rattle.port_calls.proofs.MessageLemmas.{either_false}
use Rattle.port_calls.proofs.TradeLemmas.{none_hears}

-- two numbers of which one is less
differs_below : (n c : ℕ) → c < n → (n == c) ≡ false
differs_below n c below = grind (arith, nat_tests)

differs_above : (n c : ℕ) → n < c → (n == c) ≡ false
differs_above n c above = grind (arith, nat_tests)

-- a place that is another one, or after which another one is found
unless_here : (b : Bool) (n c : ℕ) (rest : Option ℕ) → (b ≡ true → (n == c) ≡ false) → is_number rest c ≡ false → is_number (cond b (Some n) rest) c ≡ false
unless_here true n c rest here later = here refl
unless_here false n c rest here later = later

-- a place before those that are searched is not found
before : (test : Chan → Bool) (n c : ℕ) (chans : List Chan) → c < n → is_number (position_from test n chans) c ≡ false
before test n c [] below = refl
before test n c (chan ∷ chans) below =
    unless_here (test chan) n c (position_from test (n + 1) chans) (λ here. differs_below n c below) (before test (n + 1) c chans (omega (arith, below)))

-- nor is one at which the test does not hold
missed : (test : Chan → Bool) (n c i : ℕ) (chans : List Chan) → c ≡ n + i → IfSome (slice_get chans i) (λ chan. test chan ≡ false) → is_number (position_from test n chans) c ≡ false
missed test n c i [] is none = refl
missed test n c zero (chan ∷ chans) is none =
    unless_here (test chan) n c (position_from test (n + 1) chans) (λ here. absurd (let never : ⊥ = cc in never)) (before test (n + 1) c chans (omega (arith, is)))
missed test n c (suc i) (chan ∷ chans) is none =
    unless_here (test chan) n c (position_from test (n + 1) chans) (λ here. differs_above n c (omega (arith, is))) (missed test (n + 1) c i chans (omega (arith, is)) none)

-- whether an end is in partition q
abbrev pub is_in : ℕ → End → Bool
is_in q end = end.part == q

or_false : (a b : Bool) → a ≡ false → b ≡ false → (a || b) ≡ false
or_false true b none others = absurd cc
or_false false b none others = others

-- an end in another partition is no port of this one
no_port_at : (q r : ℕ) (end : End) → is_in q end ≡ false → is_port q r end ≡ false
unfolding is_port
no_port_at q r end none = ap (λ b. b && end.port == r) none

no_port_among : (q r : ℕ) (ends : List End) → list_any (is_in q) ends ≡ false → list_any (is_port q r) ends ≡ false
no_port_among q r [] none = refl
no_port_among q r (end ∷ ends) none =
    let both = either_false (is_in q end) (list_any (is_in q) ends) none in
    or_false (is_port q r end) (list_any (is_port q r) ends) (no_port_at q r end both.0) (no_port_among q r ends both.1)

-- a port on a channel, of which no destination is in the partition, is the channel's source
no_end : (q r : ℕ) (chan : Chan) → list_any (is_in q) chan.dests ≡ false → is_port q r chan.source ≡ false → has_end q r chan ≡ false
unfolding has_end
no_end q r chan none other = or_false (is_port q r chan.source) (list_any (is_port q r) chan.dests) other (no_port_among q r chan.dests none)

-- and that is no destination
source_way : (parts : List Part) (chan : Chan) (q r : ℕ) (port : Port) → SuitsPorts parts chan → is_port q r chan.source ≡ true
    → slice_get (slice_index_or parts q no_part).ports r ≡ Some port → is_destination port.way ≡ false
unfolding port_at
source_way parts chan q r port suits source there =
    let at = subst (λ (end : End). IfSome (port_at parts end) (IsEnd chan.kind way.Source)) (end_is q r chan.source source) suits.source in
    ap is_destination (subst (λ (o : Option Port). IfSome o (IsEnd chan.kind way.Source)) (part_port parts q r port there) at).way_is

-- so no port of the partition is a destination on the channel
neither : (d made b : Bool) → b ≡ false → (d && (made && b)) ≡ false
neither true true b none = none
neither true false b none = refl
neither false made b none = refl

nowhere : (d b : Bool) → d ≡ false → (d && b) ≡ false
nowhere true b none = absurd cc
nowhere false b none = refl

pub unconcerned : (conf : Conf) (q chan : ℕ) (ps : PartitionState) → Fits (described conf) → list_any (is_in q) (dests_of (slice_get conf.chans chan)) ≡ false → hears_in conf q chan ps ≡ false
unfolding channel_of described hears_in is_on part_of
unconcerned conf q chan ps fits none =
    none_hears (is_on conf q chan ps.made) 0 (part_of conf q).ports (λ k j port is there. of_port j port (moved j k port is there) (slice_get conf.chans chan) refl none)
  where
    moved : (j k : ℕ) (port : Port) → j ≡ 0 + k → slice_get (part_of conf q).ports k ≡ Some port → slice_get (part_of conf q).ports j ≡ Some port
    moved j k port is there = let same : j ≡ k = omega (arith, is) in ap (slice_get (part_of conf q).ports) same ∙ there

    on_none : (j : ℕ) → IfSome (slice_get conf.chans chan) (λ one. has_end q j one ≡ false) → is_number (channel_of conf q j) chan ≡ false
    on_none j all = missed (has_end q j) 0 chan chan conf.chans (omega arith) all

    by_source : (j : ℕ) (port : Port) (one : Chan) (b : Bool) → is_port q j one.source ≡ b → slice_get (part_of conf q).ports j ≡ Some port → slice_get conf.chans chan ≡ Some one
        → list_any (is_in q) one.dests ≡ false → (is_destination port.way && (is_made j ps.made && is_number (channel_of conf q j) chan)) ≡ false
    by_source j port one true source there at others =
        nowhere (is_destination port.way) (is_made j ps.made && is_number (channel_of conf q j) chan)
        (source_way conf.parts one q j port (all_at (SuitsPorts conf.parts) conf.chans chan one at fits.ends_suit) source there)
    by_source j port one false source there at others =
        neither (is_destination port.way) (is_made j ps.made) (is_number (channel_of conf q j) chan)
        (on_none j (subst (λ (o : Option Chan). IfSome o (λ one. has_end q j one ≡ false)) (sym at) (no_end q j one others source)))

    of_port : (j : ℕ) (port : Port) → slice_get (part_of conf q).ports j ≡ Some port → (o : Option Chan) → slice_get conf.chans chan ≡ o
        → list_any (is_in q) (dests_of o) ≡ false → (is_destination port.way && (is_made j ps.made && is_number (channel_of conf q j) chan)) ≡ false
    of_port j port there None at others =
        neither (is_destination port.way) (is_made j ps.made) (is_number (channel_of conf q j) chan)
        (on_none j (subst (λ (o : Option Chan). IfSome o (λ one. has_end q j one ≡ false)) (sym at) tt))
    of_port j port there (Some one) at others = by_source j port one (is_port q j one.source) refl there at others

-- a destination is in a partition of the configuration
pub dest_within : (conf : Conf) (chan k : ℕ) (d : End) → Fits (described conf) → k < length (dests_of (slice_get conf.chans chan))
    → (slice_index_or (dests_of (slice_get conf.chans chan)) k d).part < length conf.parts
unfolding described port_at
dest_within conf chan k d fits below = of_chan (slice_get conf.chans chan) refl below
  where
    of_part : (q r : ℕ) (o : Option Part) → slice_get conf.parts q ≡ o → IsSome (port_of r o) → q < length conf.parts
    of_part q r None is some = absurd cc
    of_part q r (Some part) is some = slice_get_within conf.parts q part is

    of_chan : (o : Option Chan) → slice_get conf.chans chan ≡ o → k < length (dests_of o) → (slice_index_or (dests_of o) k d).part < length conf.parts
    of_chan None there below = absurd (omega (arith, below))
    of_chan (Some one) there below =
        let end = slice_index_or one.dests k d in
        let ends = (all_at (HasPorts conf.parts) conf.chans chan one there fits.ends_exist).dests in
        of_part end.part end.port (slice_get conf.parts end.part) refl
        (all_at (λ end. IsSome (port_at conf.parts end)) one.dests k end (slice_get-get_or one.dests k d below) ends)
