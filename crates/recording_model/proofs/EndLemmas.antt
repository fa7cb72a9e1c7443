-- The ends of a channel: who hears of a message that is put there, and of one that is taken.
use Rattle.std.proofs.Common.{◌≡◌, ℕ, zero, suc, ◌<◌, ◌≤◌, ◌+◌, Bool, true, false, List, [], ◌∷◌, length, Option, None, Some, refl, sym, ap, ◌∙◌, arith, subst}
use Rattle.std.specs.Prelude.{slice_get, slice_index_or, ◌==◌, ◌&&◌, ◌||◌, if◌then◌else◌, IfSome, All}
use Rattle.std.specs.List.{list_any}
use Rattle.std.proofs.lemmas.Bool.Decides.{nat_tests}
use Rattle.std.proofs.lemmas.List.Elements.{All-head, All-tail}
use Rattle.std.proofs.lemmas.Option.{same_Some}
use Rattle.xm_base.specs.Bytes.{AreBytes}
use Rattle.xm_conf.specs.Configuration.{Chan, Conf, Part}
use Rattle.xm_conf.specs.Description.{described}
use Rattle.xm_conf.specs.Fits.{Fits, IsChan, IsEnd, IsKind, IsOfKind, SuitsPorts}
use Rattle.xm_conf.specs.Rules.{port_at}
use Rattle.xm_conf.specs.View.{channel_of, has_end, is_port}
use Rattle.xm_conf.specs.declared.channel.ChanKind.{ChanKind}
use Rattle.xm_conf.specs.declared.channel.ChanKind.TheVariants as chan_kind
use Rattle.xm_conf.specs.declared.channel.End.{End}
use Rattle.xm_conf.specs.declared.port.Kind.{Kind}
use Rattle.xm_conf.specs.declared.port.Kind.TheVariants as kind
use Rattle.xm_conf.specs.declared.port.Port.{Port}
use Rattle.xm_conf.specs.declared.port.Way.{Way}
use Rattle.xm_conf.specs.declared.port.Way.TheVariants as way
use Rattle.xm_ports.specs.Channels.{Content, IsMessage as IsMessageOf, Shape, shape_of}
use Rattle.machine_model.specs.lemmas.NameLemmas.{number_is, named_is}
use Rattle.machine_model.specs.lemmas.EndLemmas.{all_at, any_end, end_is, found_from, its_channel_is, view_channel, view_port}
use Rattle.machine_model.specs.Lists.{is_number}
use Rattle.machine_model.specs.OwnActs.{HasPortOn, IsPutting, IsTaking}
use Rattle.machine_model.specs.View.{System, name_from, name_of, named, no_part, part_of, view_of}
use Rattle.cue_scripts.specs.Script.{IsHeardMessage, numbered_chan, chan_called, gives_in, gives_queue, heard_in, is_length, is_queue, most_heard}

-- a number is itself
itself : (n : ℕ) → (n == n) ≡ true
itself n = grind (arith)

-- a partition's name for a channel is one of its ports on it
record IsNameFrom (conf : Conf) (p c most q : ℕ) : Type 0 where
  found : channel_of conf p q ≡ Some c
  below : q < most

name_from_is : (conf : Conf) (p c count r q : ℕ) → name_from conf p c count r ≡ Some q → IsNameFrom conf p c (r + count) q
name_from_is conf p c zero r q is = absurd cc
name_from_is conf p c (suc count) r q is = at (is_number (channel_of conf p r) c) refl is (name_from_is conf p c count (suc r) q)
  where
    at : (b : Bool) → is_number (channel_of conf p r) c ≡ b → (if b then Some r else name_from conf p c count (suc r)) ≡ Some q
        → (name_from conf p c count (suc r) ≡ Some q → IsNameFrom conf p c (suc r + count) q) → IsNameFrom conf p c (r + suc count) q
    at true found said further =
        let same : r ≡ q = same_Some r q said in
        record { found = ap (channel_of conf p) (sym same) ∙ number_is (channel_of conf p r) c found; below = omega (arith, same) }
    at false other said further =
        let more = further said in
        let below : q < suc r + count = more.below in
        record { found = more.found; below = omega (arith, below) }

name_is : (conf : Conf) (p c q : ℕ) → name_of conf p c ≡ Some q → IsNameFrom conf p c (length (part_of conf p).ports) q
unfolding name_of
name_is conf p c q is =
    let from = name_from_is conf p c (length (part_of conf p).ports) 0 q is in
    let below : q < 0 + length (part_of conf p).ports = from.below in
    record { found = from.found; below = omega (arith, below) }

-- the channel with the name is the one that the partition calls so
named_so : (conf : Conf) (p c q : ℕ) → name_of conf p c ≡ Some q → named conf p q ≡ Some c
unfolding named
named_so conf p c q is =
    let found : channel_of conf p q ≡ Some c = (name_is conf p c q is).found in
    let its : is_number (name_of conf p c) q ≡ true = ap (λ (o : Option ℕ). is_number o q) is ∙ itself q in
    rw (found, its) refl

-- a name is a byte, since a partition has no more than 32 ports
few_ports : (parts : List Part) (p : ℕ) → All (λ part. length part.ports ≤ 32) parts → length (slice_index_or parts p no_part).ports ≤ 32
few_ports [] p all = omega arith
few_ports (part ∷ parts) zero all = All-head (λ part. length part.ports ≤ 32) part parts all
few_ports (part ∷ parts) (suc p) all = few_ports parts p (All-tail (λ part. length part.ports ≤ 32) part parts all)

pub name_small : (conf : Conf) (p c q : ℕ) → Fits (described conf) → name_of conf p c ≡ Some q → q < 256
unfolding described part_of
name_small conf p c q fits is =
    let below : q < length (part_of conf p).ports = (name_is conf p c q is).below in
    let few : length (part_of conf p).ports ≤ 32 = few_ports conf.parts p fits.counts.ports in
    omega (arith, below, few)

-- the channel of a partition's port
record IsOn (conf : Conf) (p r c : ℕ) : Type 0 where
  chan : Chan
  there : slice_get conf.chans c ≡ Some chan
  is_end : has_end p r chan ≡ true

on_channel : (conf : Conf) (p r c : ℕ) → channel_of conf p r ≡ Some c → IsOn conf p r c
unfolding channel_of
on_channel conf p r c is =
    let found = found_from (has_end p r) 0 conf.chans c is in
    let place : c ≡ 0 + found.place = found.at in
    let same : found.place ≡ c = omega (arith, place) in
    record { chan = found.element; there = subst (λ (k : ℕ). slice_get conf.chans k ≡ Some found.element) same found.there; is_end = found.passes }

-- the same, of the channel that is there
is_end_of : (conf : Conf) (p r c : ℕ) (chan : Chan) → channel_of conf p r ≡ Some c → slice_get conf.chans c ≡ Some chan → has_end p r chan ≡ true
is_end_of conf p r c chan found there =
    let on = on_channel conf p r c found in
    subst (λ (one : Chan). has_end p r one ≡ true) (same_Some on.chan chan (sym on.there ∙ there)) on.is_end

or_true : (a b : Bool) → b ≡ true → (a || b) ≡ true
or_true true b is = refl
or_true false b is = is

part_any : (p r : ℕ) (ends : List End) → list_any (is_port p r) ends ≡ true → list_any (λ end. end.part == p) ends ≡ true
part_any p r [] is = absurd cc
part_any p r (end ∷ ends) is = by (is_port p r end) refl is (part_any p r ends)
  where
    by : (b : Bool) → is_port p r end ≡ b → (b || list_any (is_port p r) ends) ≡ true → (list_any (is_port p r) ends ≡ true → list_any (λ end. end.part == p) ends ≡ true)
        → ((end.part == p) || list_any (λ end. end.part == p) ends) ≡ true
    by true its said further =
        let same : (end.part == p) ≡ true = ap (λ (e : End). e.part == p) (end_is p r end its) ∙ itself p in
        ap (λ (b : Bool). b || list_any (λ end. end.part == p) ends) same
    by false its said further = or_true (end.part == p) (list_any (λ end. end.part == p) ends) (further said)

-- an end has a part
source_or_dest : (X : Type 0) (p r : ℕ) (chan : Chan) → has_end p r chan ≡ true → (is_port p r chan.source ≡ true → X) → (list_any (is_port p r) chan.dests ≡ true → X) → X
unfolding has_end
source_or_dest X p r chan is source dest = by (is_port p r chan.source) refl is
  where
    by : (b : Bool) → is_port p r chan.source ≡ b → (b || list_any (is_port p r) chan.dests) ≡ true → X
    by true its said = source its
    by false its said = dest said

-- the ways of a source end and of another one
source_way : (parts : List Part) (chan : Chan) (p r : ℕ) (port : Port) → SuitsPorts parts chan → is_port p r chan.source ≡ true → port_at parts (record { part = p; port = r }) ≡ Some port
    → IsEnd chan.kind way.Source port
source_way parts chan p r port suits is there =
    let at = subst (λ (end : End). IfSome (port_at parts end) (IsEnd chan.kind way.Source)) (end_is p r chan.source is) suits.source in
    subst (λ (o : Option Port). IfSome o (IsEnd chan.kind way.Source)) there at

dest_way : (parts : List Part) (chan : Chan) (p r : ℕ) (port : Port) → SuitsPorts parts chan → list_any (is_port p r) chan.dests ≡ true → port_at parts (record { part = p; port = r }) ≡ Some port
    → IsEnd chan.kind way.Destination port
dest_way parts chan p r port suits is there =
    let at = any_end (λ end. IfSome (port_at parts end) (IsEnd chan.kind way.Destination)) p r chan.dests is suits.dests in
    subst (λ (o : Option Port). IfSome o (IsEnd chan.kind way.Destination)) there at

ways_differ : {X : Type 0} → way.Source ≡ way.Destination → X
ways_differ is = absurd cc

-- a source port of a partition is the source of its channel, and a destination port is one of its destinations
put_source : (parts : List Part) (chan : Chan) (p r : ℕ) (port : Port) → SuitsPorts parts chan → has_end p r chan ≡ true → port_at parts (record { part = p; port = r }) ≡ Some port
    → port.way ≡ way.Source → chan.source.part ≡ p
put_source parts chan p r port suits is_end there way_is =
    source_or_dest (chan.source.part ≡ p) p r chan is_end (λ its. ap (λ (e : End). e.part) (end_is p r chan.source its))
    (λ its. ways_differ (sym way_is ∙ (dest_way parts chan p r port suits its there).way_is))

record IsDest (p r : ℕ) (chan : Chan) (one : Kind) : Type 0 where
  among : list_any (is_port p r) chan.dests ≡ true
  kind_is : IsOfKind chan.kind one

take_dest : (parts : List Part) (chan : Chan) (p r : ℕ) (port : Port) → SuitsPorts parts chan → has_end p r chan ≡ true → port_at parts (record { part = p; port = r }) ≡ Some port
    → port.way ≡ way.Destination → IsDest p r chan port.kind
take_dest parts chan p r port suits is_end there way_is =
    source_or_dest (IsDest p r chan port.kind) p r chan is_end
    (λ its. ways_differ (sym (source_way parts chan p r port suits its there).way_is ∙ way_is))
    (λ its. record { among = its; kind_is = (dest_way parts chan p r port suits its there).kind_is })

-- another partition with a port on a channel is a destination of it, where the source is this one's
heard_by : (chan : Chan) (p other q : ℕ) → chan.source.part ≡ other → (other == p) ≡ false → has_end p q chan ≡ true → list_any (λ end. end.part == p) chan.dests ≡ true
heard_by chan p other q source differ is_end =
    source_or_dest (list_any (λ end. end.part == p) chan.dests ≡ true) p q chan is_end
    (λ its. absurd (let same : other ≡ p = sym source ∙ ap (λ (e : End). e.part) (end_is p q chan.source its) in let t : (other == p) ≡ true = ap (λ (n : ℕ). n == p) same ∙ itself p in cc))
    (λ its. part_any p q chan.dests its)

-- and it is the source, where this one is the only destination
one_dest : (p q other r : ℕ) (ends : List End) → length ends ≡ 1 → list_any (is_port p q) ends ≡ true → list_any (is_port other r) ends ≡ true → p ≡ other
one_dest p q other r [] one first second = absurd cc
one_dest p q other r (end ∷ []) one first second = by (is_port p q end) (is_port other r end) refl refl first second
  where
    by : (a b : Bool) → is_port p q end ≡ a → is_port other r end ≡ b → (a || false) ≡ true → (b || false) ≡ true → p ≡ other
    by true true a_is b_is a_said b_said = ap (λ (e : End). e.part) (sym (end_is p q end a_is) ∙ end_is other r end b_is)
    by true false a_is b_is a_said b_said = absurd cc
    by false b a_is b_is a_said b_said = absurd cc
one_dest p q other r (end ∷ next ∷ ends) one first second = absurd (omega (arith, one))

gives_to : (chan : Chan) (p other q r : ℕ) → length chan.dests ≡ 1 → list_any (is_port other r) chan.dests ≡ true → (other == p) ≡ false → has_end p q chan ≡ true → (chan.source.part == p) ≡ true
gives_to chan p other q r one among differ is_end =
    source_or_dest ((chan.source.part == p) ≡ true) p q chan is_end
    (λ its. ap (λ (e : End). e.part == p) (end_is p q chan.source its) ∙ itself p)
    (λ its. absurd (let same : p ≡ other = one_dest p q other r chan.dests one its among in let t : (other == p) ≡ true = ap (λ (n : ℕ). n == p) (sym same) ∙ itself p in cc))

-- a queue has one destination
queue_kind : (of : ChanKind) (dests : List End) → IsOfKind of kind.Queuing → IsKind of dests → (is_queue of ≡ true) × (length dests ≡ 1)
queue_kind (chan_kind.Sampling refresh) dests is fits = absurd cc
queue_kind (chan_kind.Queuing most) dests is fits = (refl, fits.0)

-- a channel by a port of another partition, by the number that it has in the system
record IsTraded (system : System) (other c : ℕ) (the_way : Way) (name : ℕ) (port : HasPortOn (view_of system other) the_way name) : Type 0 where
  chan : Chan
  there : slice_get system.conf.chans c ≡ Some chan
  shape_is : shape_of chan ≡ port.channel.shape
  is_end : has_end other port.number chan ≡ true
  port_is : port_at system.conf.parts (record { part = other; port = port.number }) ≡ Some port.port
  fits : IsChan chan
  suits : SuitsPorts system.conf.parts chan

traded : (system : System) (other c name : ℕ) (the_way : Way) → Fits (described system.conf) → (port : HasPortOn (view_of system other) the_way name) → named system.conf other name ≡ Some c
    → IsTraded system other c the_way name port
unfolding described
traded system other c name the_way fits port is =
    let its = its_channel_is system.conf other port.number port.channel (view_channel system other port.number port.channel port.channel_there) in
    let one : channel_of system.conf other port.channel.name ≡ Some its.number = (name_is system.conf other its.number port.channel.name its.named_so).found in
    let two : channel_of system.conf other name ≡ Some c = (name_is system.conf other c name (named_is system.conf other name c is)).found in
    let same : its.number ≡ c = same_Some its.number c (sym one ∙ ap (channel_of system.conf other) port.name_is ∙ two) in
    let there : slice_get system.conf.chans c ≡ Some its.chan = subst (λ (k : ℕ). slice_get system.conf.chans k ≡ Some its.chan) same its.there in
    record {
      chan = its.chan;
      there = there;
      shape_is = its.shape_is;
      is_end = is_end_of system.conf other port.number its.number its.chan its.found its.there;
      port_is = view_port system other port.number port.port port.port_there;
      fits = all_at IsChan system.conf.chans c its.chan there fits.messages;
      suits = all_at (SuitsPorts system.conf.parts) system.conf.chans c its.chan there fits.ends_suit;
    }

-- the channel that a partition calls so
called_is : (conf : Conf) (p c q : ℕ) (chan : Chan) → name_of conf p c ≡ Some q → slice_get conf.chans c ≡ Some chan → chan_called conf p q ≡ Some chan
unfolding chan_called
called_is conf p c q chan is there = ap (numbered_chan conf) (named_so conf p c q is) ∙ there

length_fits : (most count : ℕ) → 1 ≤ count → count ≤ most → is_length (Some most) count ≡ true
length_fits most count some fit = grind (arith, nat_tests)

-- a message that another partition puts is one that p may hear
pub put_heard : (system : System) (p other c q name : ℕ) (bytes : List ℕ) (contents : List (Option Content)) → Fits (described system.conf) → IsPutting (view_of system other) contents name bytes → named system.conf other name ≡ Some c
    → (other == p) ≡ false → name_of system.conf p c ≡ Some q → AreBytes bytes → IsHeardMessage (most_heard system.conf p q) q bytes
unfolding most_heard
put_heard system p other c q name bytes contents fits put named_other differ is each =
    let its = traded system other c name way.Source fits put.on named_other in
    let source = put_source system.conf.parts its.chan other put.on.number put.on.port its.suits its.is_end its.port_is put.on.way_is in
    let is_end = is_end_of system.conf p q c its.chan (name_is system.conf p c q is).found its.there in
    let among = heard_by its.chan p other q source differ is_end in
    let most : heard_in p (chan_called system.conf p q) ≡ Some its.chan.length =
    ap (heard_in p) (called_is system.conf p c q its.chan is its.there) ∙ ap (λ (b : Bool). if b then Some its.chan.length else None) among in
    let message = subst (λ (shape : Shape). IsMessageOf shape.length bytes) (sym its.shape_is) put.message in
    let some : 1 ≤ length bytes = message.some in
    let fit : length bytes ≤ its.chan.length = message.fit in
    let longest : its.chan.length ≤ 4096 = its.fits.most in
    record {
      called = name_small system.conf p c q fits is;
      fits = ap (λ (o : Option ℕ). is_length o (length bytes)) most ∙ length_fits its.chan.length (length bytes) some fit;
      short = omega (arith, fit, longest);
      spelled = each;
    }

-- a message that another partition takes is one that p gave
pub take_heard : (system : System) (p other c q name : ℕ) (contents : List (Option Content)) → Fits (described system.conf) → IsTaking (view_of system other) contents name → named system.conf other name ≡ Some c → (other == p) ≡ false
    → name_of system.conf p c ≡ Some q → (q < 256) × (gives_queue system.conf p q ≡ true)
unfolding gives_queue
take_heard system p other c q name contents fits take named_other differ is =
    let its = traded system other c name way.Destination fits take.on named_other in
    let dest = take_dest system.conf.parts its.chan other take.on.number take.on.port its.suits its.is_end its.port_is take.on.way_is in
    let queue = queue_kind its.chan.kind its.chan.dests (subst (λ (k : Kind). IsOfKind its.chan.kind k) take.kind_is dest.kind_is) its.fits.kind in
    let is_end = is_end_of system.conf p q c its.chan (name_is system.conf p c q is).found its.there in
    let source = gives_to its.chan p other q take.on.number queue.1 dest.among differ is_end in (
      name_small system.conf p c q fits is,
      ap (gives_in p) (called_is system.conf p c q its.chan is its.there) ∙ ap (λ (b : Bool). b && (its.chan.source.part == p)) queue.0 ∙ source,
    )
