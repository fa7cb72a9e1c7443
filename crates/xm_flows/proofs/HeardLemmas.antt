-- What a partition outside of a closed set does on its channels and links, no member meets.
use Rattle.std.proofs.Common.{◌≡◌, ℕ, zero, suc, ◌<◌, true, false, List, [], ◌∷◌, length, Option, None, Some, refl, sym, ap, ◌∙◌, subst}
use Rattle.std.specs.Prelude.{slice_get, slice_index_or, ◌||◌, is_some, All, IfSome, IsSome}
use Rattle.std.specs.List.{list_any}
use Rattle.std.proofs.lemmas.List.Elements.{All-head, All-tail}
use Rattle.std.proofs.lemmas.Option.{same_Some, slice_get_within}
use Rattle.xm_conf.specs.Configuration.{Chan, Conf, Part}
use Rattle.xm_conf.specs.Description.{described}
use Rattle.xm_conf.specs.Fits.{Fits, HasPorts, IsEnd, IsOfKind, SuitsPorts}
use Rattle.xm_conf.specs.Rules.{port_at, port_of}
use Rattle.xm_conf.specs.View.{channel_of, has_end, is_port}
use Rattle.xm_conf.specs.declared.channel.ChanKind.{ChanKind}
use Rattle.xm_conf.specs.declared.channel.ChanKind.TheVariants as chan_kind
use Rattle.xm_conf.specs.declared.channel.End.{End}
use Rattle.xm_conf.specs.declared.port.Kind.TheVariants as kind
use Rattle.xm_conf.specs.declared.port.Port.{Port}
use Rattle.xm_conf.specs.declared.port.Way.TheVariants as way
use Rattle.machine_model.specs.lemmas.EndLemmas.{end_is, view_channel, view_port}
use Rattle.machine_model.specs.lemmas.NameLemmas.{name_is, named_is}
use Rattle.machine_model.specs.Emission as emission
use Rattle.machine_model.specs.Emission.{Act, OwnPuts, OwnSignals, OwnStill, OwnTakes}
use Rattle.machine_model.specs.Traffic.{heard_as, own_puts_at, own_takes_at, puts_at, takes_at, traffic_as, traffic_of}
use Rattle.machine_model.specs.View.{PortChannel, System, name_of, named, no_part, part_of, port_channel, view_of, with_its_name, with_name}
use Rattle.xm_flows.specs.Groups.{HasItsPeers, KeepsLink, KeepsRule, KeepsIn, Members, has_dest_in, has_end_in, is_in}
use Rattle.machine_model.specs.OwnActs.{HasPortOn}
use Rattle.xm_flows.specs.Rights.{IsByRight, ReceivesFrom}
use Rattle.xm_flows.proofs.EndLemmas.{either_true, its_channel}
use Rattle.xm_flows.proofs.LinkLemmas.{its_source, no_signal}
use Rattle.xm_flows.proofs.PairLemmas.{end_in}

-- what holds of each element of a list holds of one that is there
pub all_at : {X : Type 0} (P : X → Type 0) (xs : List X) (k : ℕ) (x : X) → slice_get xs k ≡ Some x → All P xs → P x
all_at P [] k x is all = absurd cc
all_at P (one ∷ xs) zero x is all = subst P (same_Some one x is) (All-head P one xs all)
all_at P (one ∷ xs) (suc k) x is all = all_at P xs k x is (All-tail P one xs all)

-- the number of a channel that a port of a partition is on, and by which name the partition calls it
record IsNumbered (conf : Conf) (p r : ℕ) (channel : PortChannel) : Type 0 where
  number : ℕ
  found : channel_of conf p r ≡ Some number
  named_so : name_of conf p number ≡ Some channel.name

numbered : (conf : Conf) (p r : ℕ) (channel : PortChannel) → port_channel conf p r ≡ Some channel → IsNumbered conf p r channel
unfolding port_channel
numbered conf p r channel is = by (channel_of conf p r) refl is
  where
    with_both : (c : ℕ) → channel_of conf p r ≡ Some c → (chan : Option Chan) (name : Option ℕ) → name_of conf p c ≡ name → with_name chan name ≡ Some channel → IsNumbered conf p r channel
    with_both c found None name named_so said = absurd cc
    with_both c found (Some chan) None named_so said = absurd cc
    with_both c found (Some chan) (Some q) named_so said =
        record { number = c; found = found; named_so = named_so ∙ ap (λ (x : PortChannel). Some x.name) (same_Some _ channel said) }

    by : (o : Option ℕ) → channel_of conf p r ≡ o → with_its_name conf p o ≡ Some channel → IsNumbered conf p r channel
    by None found said = absurd cc
    by (Some c) found said = with_both c found (slice_get conf.chans c) (name_of conf p c) refl said

-- a port on a channel that its partition calls by a name is on the channel of that name
on_named : (system : System) (q number name c : ℕ) (channel : PortChannel) → slice_index_or (view_of system q).channels number None ≡ Some channel → channel.name ≡ name
    → named system.conf q name ≡ Some c → channel_of system.conf q number ≡ Some c
on_named system q number name c channel there name_said is =
    let its = numbered system.conf q number channel (view_channel system q number channel there) in
    let one : channel_of system.conf q name ≡ Some its.number = name_is system.conf q its.number name (its.named_so ∙ ap Some name_said) in
    let other : channel_of system.conf q name ≡ Some c = name_is system.conf q c name (named_is system.conf q name c is) in
    its.found ∙ sym one ∙ other

-- where a port is an end: the source, or one of the destinations
any_end : (P : End → Type 0) (p r : ℕ) (ends : List End) → list_any (is_port p r) ends ≡ true → All P ends → P (record { part = p; port = r })
any_end P p r [] is all = absurd cc
any_end P p r (end ∷ ends) is all =
    either_true (is_port p r end) (list_any (is_port p r) ends) is
    (λ its. subst P (end_is p r end its) (All-head P end ends all))
    (λ further. any_end P p r ends further (All-tail P end ends all))

-- a source port is the source of its channel
is_source : (parts : List Part) (chan : Chan) (p r : ℕ) (port : Port) → SuitsPorts parts chan → has_end p r chan ≡ true → port_at parts (record { part = p; port = r }) ≡ Some port
    → port.way ≡ way.Source → chan.source.part ≡ p
unfolding has_end
is_source parts chan p r port suits ends there source =
    either_true (is_port p r chan.source) (list_any (is_port p r) chan.dests) ends
    (λ its. ap (λ end. end.part) (end_is p r chan.source its))
    (λ further.
    let at = any_end (λ end. IfSome (port_at parts end) (IsEnd chan.kind way.Destination)) p r chan.dests further suits.dests in
    let destination : port.way ≡ way.Destination = (subst (λ (o : Option Port). IfSome o (IsEnd chan.kind way.Destination)) there at).way_is in
    absurd (let same : way.Source ≡ way.Destination = sym source ∙ destination in cc))

-- a port is of the kind of its channel
is_of_kind : (parts : List Part) (chan : Chan) (p r : ℕ) (port : Port) → SuitsPorts parts chan → has_end p r chan ≡ true → port_at parts (record { part = p; port = r }) ≡ Some port
    → IsOfKind chan.kind port.kind
unfolding has_end
is_of_kind parts chan p r port suits ends there =
    either_true (is_port p r chan.source) (list_any (is_port p r) chan.dests) ends
    (λ its.
    let at = subst (λ (end : End). IfSome (port_at parts end) (IsEnd chan.kind way.Source)) (end_is p r chan.source its) suits.source in
    (subst (λ (o : Option Port). IfSome o (IsEnd chan.kind way.Source)) there at).kind_is)
    (λ further.
    let at = any_end (λ end. IfSome (port_at parts end) (IsEnd chan.kind way.Destination)) p r chan.dests further suits.dests in
    (subst (λ (o : Option Port). IfSome o (IsEnd chan.kind way.Destination)) there at).kind_is)

-- in a set with its peers the source of a channel with an end at a member is a member
source_in : (members : Members) (the_kind : ChanKind) (source : End) (dests : List End) → KeepsIn members the_kind source dests
    → (is_in members source || has_dest_in members dests) ≡ true → is_in members source ≡ true
source_in members (chan_kind.Sampling refresh) source dests keeps ends =
    either_true (is_in members source) (has_dest_in members dests) ends (λ its. its) keeps
source_in members (chan_kind.Queuing most) source dests keeps ends = (keeps ends).0

pub member_is_source : (conf : Conf) (members : Members) → HasItsPeers conf members → (c : ℕ) (chan : Chan) → slice_get conf.chans c ≡ Some chan → has_end_in members chan ≡ true → is_in members chan.source ≡ true
member_is_source conf members peers c chan there ends =
    source_in members chan.kind chan.source chan.dests (all_at (KeepsRule members) conf.chans c chan there peers.channels) ends

-- and so is each end of a queue with an end at a member
queue_in : (members : Members) (the_kind : ChanKind) (source : End) (dests : List End) → KeepsIn members the_kind source dests → IsOfKind the_kind kind.Queuing
    → (is_in members source || has_dest_in members dests) ≡ true → (q r : ℕ) → (is_port q r source || list_any (is_port q r) dests) ≡ true → members q ≡ true
queue_in members (chan_kind.Sampling refresh) source dests keeps queuing ends q r its = absurd (let fails : kind.Queuing ≡ kind.Sampling = queuing in cc)
queue_in members (chan_kind.Queuing most) source dests keeps queuing ends q r its =
    let all = keeps ends in
    either_true (is_port q r source) (list_any (is_port q r) dests) its
    (λ is. ap (λ (e : End). members e.part) (sym (end_is q r source is)) ∙ all.0)
    (λ is. any_end (λ end. is_in members end ≡ true) q r dests is all.1)

-- a channel of a partition that is no member, on which no member has a port, has no name for a member
unnamed : (conf : Conf) (p c : ℕ) → ((r : ℕ) → channel_of conf p r ≡ Some c → ⊥) → name_of conf p c ≡ None
unnamed conf p c none = by (name_of conf p c) refl
  where
    by : (o : Option ℕ) → name_of conf p c ≡ o → o ≡ None
    by None is = refl
    by (Some q) is = absurd (none q (name_is conf p c q is))

-- the channels on which a partition may put, or from which it may take, where it is no member
put_unnamed : (system : System) (members : Members) → Fits (described system.conf) → HasItsPeers system.conf members → (p q name c : ℕ) → members p ≡ true → members q ≡ false
    → HasPortOn (view_of system q) way.Source name → named system.conf q name ≡ Some c → name_of system.conf p c ≡ None
unfolding described
put_unnamed system members fits peers p q name c member stranger on is = unnamed system.conf p c (λ r found.
    let its = its_channel system.conf q on.number c (on_named system q on.number name c on.channel on.channel_there on.name_is is) in
    let other = its_channel system.conf p r c found in
    let same : other.chan ≡ its.chan = same_Some other.chan its.chan (sym other.there ∙ its.there) in
    let ends : has_end_in members its.chan ≡ true = end_in members p r its.chan member (sym (ap (has_end p r) same) ∙ other.ends) in
    let source : members its.chan.source.part ≡ true = member_is_source system.conf members peers c its.chan its.there ends in
    let owner : its.chan.source.part ≡ q =
    is_source system.conf.parts its.chan q on.number on.port (all_at (SuitsPorts system.conf.parts) system.conf.chans c its.chan its.there fits.ends_suit) its.ends
    (view_port system q on.number on.port on.port_there) on.way_is
    in
    let holds : members q ≡ true = ap members (sym owner) ∙ source in
    absurd cc)

take_unnamed : (system : System) (members : Members) → Fits (described system.conf) → HasItsPeers system.conf members → (p q name c : ℕ) → members p ≡ true → members q ≡ false
    → ReceivesFrom (view_of system q) name → named system.conf q name ≡ Some c → name_of system.conf p c ≡ None
unfolding described has_end
take_unnamed system members fits peers p q name c member stranger receives is = unnamed system.conf p c (λ r found.
    let on = receives.on in
    let its = its_channel system.conf q on.number c (on_named system q on.number name c on.channel on.channel_there on.name_is is) in
    let other = its_channel system.conf p r c found in
    let same : other.chan ≡ its.chan = same_Some other.chan its.chan (sym other.there ∙ its.there) in
    let ends : has_end_in members its.chan ≡ true = end_in members p r its.chan member (sym (ap (has_end p r) same) ∙ other.ends) in
    let of_kind : IsOfKind its.chan.kind on.port.kind =
    is_of_kind system.conf.parts its.chan q on.number on.port (all_at (SuitsPorts system.conf.parts) system.conf.chans c its.chan its.there fits.ends_suit) its.ends
    (view_port system q on.number on.port on.port_there)
    in
    let holds : members q ≡ true =
    queue_in members its.chan.kind its.chan.source its.chan.dests (all_at (KeepsRule members) system.conf.chans c its.chan its.there peers.channels)
    (subst (IsOfKind its.chan.kind) receives.kind_is of_kind) ends q on.number its.ends
    in
    absurd cc)

-- so a member hears nothing of the traffic of a partition that is no member
puts_unheard : (conf : Conf) (p : ℕ) (bytes : List ℕ) (o : Option ℕ) → ((c : ℕ) → o ≡ Some c → name_of conf p c ≡ None) → heard_as conf p (puts_at o bytes) ≡ OwnStill
puts_unheard conf p bytes None none = refl
puts_unheard conf p bytes (Some c) none = ap (λ o. own_puts_at o bytes) (none c refl)

takes_unheard : (conf : Conf) (p : ℕ) (o : Option ℕ) → ((c : ℕ) → o ≡ Some c → name_of conf p c ≡ None) → heard_as conf p (takes_at o) ≡ OwnStill
takes_unheard conf p None none = refl
takes_unheard conf p (Some c) none = ap own_takes_at (none c refl)

pub unheard : (system : System) (members : Members) → Fits (described system.conf) → HasItsPeers system.conf members → (p q : ℕ) → members p ≡ true → members q ≡ false
    → (act : Act) → IsByRight (view_of system q) act → heard_as system.conf p (traffic_as system.conf q (traffic_of act)) ≡ OwnStill
unheard system members fits peers p q member stranger emission.Nothing right = refl
unheard system members fits peers p q member stranger (emission.Trades OwnStill) right = refl
unheard system members fits peers p q member stranger (emission.Trades (OwnPuts name bytes)) right =
    puts_unheard system.conf p bytes (named system.conf q name) (λ c is. put_unnamed system members fits peers p q name c member stranger right is)
unheard system members fits peers p q member stranger (emission.Trades (OwnTakes name)) right =
    takes_unheard system.conf p (named system.conf q name) (λ c is. take_unnamed system members fits peers p q name c member stranger right is)
unheard system members fits peers p q member stranger (emission.Trades (OwnSignals number)) right =
    no_signal system.conf p q number (λ is.
    let its = its_source system.conf p q number is in
    let source : members its.link.source ≡ true =
    all_at (KeepsLink members) system.conf.links its.place its.link its.there peers.links (ap members its.dest_is ∙ member)
    in
    let holds : members q ≡ true = ap members (sym its.source_is) ∙ source in
    let fails : true ≡ false = sym holds ∙ stranger in
    cc)
unheard system members fits peers p q member stranger (emission.Upon id order) right = refl
unheard system members fits peers p q member stranger (emission.Plans change) right = refl
unheard system members fits peers p q member stranger (emission.UponAll event) right = refl

-- the source of a channel is a port that its partition has
port_within : (parts : List Part) (p r : ℕ) → IsSome (port_of r (slice_get parts p)) → r < length (slice_index_or parts p no_part).ports
port_within [] p r is = absurd cc
port_within (part ∷ parts) zero r is = within (slice_get part.ports r) refl is
  where
    within : (o : Option Port) → slice_get part.ports r ≡ o → is_some o ≡ true → r < length part.ports
    within None there is = absurd cc
    within (Some port) there is = slice_get_within part.ports r port there
port_within (part ∷ parts) (suc p) r is = port_within parts p r is

pub source_within : (conf : Conf) → Fits (described conf) → (c : ℕ) (chan : Chan) → slice_get conf.chans c ≡ Some chan → chan.source.port < length (part_of conf chan.source.part).ports
unfolding described part_of port_at
source_within conf fits c chan there = port_within conf.parts chan.source.part chan.source.port (all_at (HasPorts conf.parts) conf.chans c chan there fits.ends_exist).source
