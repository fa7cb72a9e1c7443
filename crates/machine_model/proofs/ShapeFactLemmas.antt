-- Each channel holds what its shape allows.
use Rattle.std.proofs.Common.{◌≡◌, ℕ, zero, suc, ◌<◌, ◌≤◌, ◌+◌, Bool, true, false, List, [], ◌∷◌, ◌++◌, length, Option, None, Some, refl, sym, ap, ◌∙◌, arith, subst}
use Rattle.std.specs.Prelude.{slice_get, slice_index_or, ◌==◌, ◌||◌, if◌then◌else◌, map, IfSome, IsSome, drop}
use Rattle.std.specs.List.{list_any}
use Rattle.std.proofs.lemmas.Bool.{eqb-true}
use Rattle.std.proofs.lemmas.List.{length-map}
use Rattle.std.proofs.lemmas.List.Elements.{All-append, All-cons, All-nil, All-tail}
use Rattle.std.proofs.lemmas.Option.{same_Some}
use Rattle.xm_base.specs.Options.{on}
use Rattle.xm_conf.specs.Configuration.{Chan, Conf, Part}
use Rattle.xm_conf.specs.Description.{described}
use Rattle.xm_conf.specs.Fits.{Fits, IsOfKind, SuitsPorts}
use Rattle.xm_conf.specs.Fits.{IsEnd as IsEndOf}
use Rattle.xm_conf.specs.Rules.{port_at}
use Rattle.xm_conf.specs.View.{channel_of, has_end, is_port}
use Rattle.xm_conf.specs.declared.channel.ChanKind.{ChanKind}
use Rattle.xm_conf.specs.declared.channel.ChanKind.TheVariants as chan_kind
use Rattle.xm_conf.specs.declared.channel.End.{End}
use Rattle.xm_conf.specs.declared.port.Kind.{Kind}
use Rattle.xm_conf.specs.declared.port.Port.{Port}
use Rattle.xm_conf.specs.declared.port.Way.TheVariants as way
use Rattle.xm_ports.specs.Channels.{Content, IsMessage, IsQueue, Queuing, Sampling, Shape, Suits, SuitsKind, cleared, empty, empty_of, first_message, put, shape_of, shapes_of, first_taken}
use Rattle.machine_model.specs.lemmas.TickLemmas.{step_halted, step_runs}
use Rattle.machine_model.specs.Allowed.{TakesMore}
use Rattle.machine_model.specs.lemmas.EndLemmas.{all_at, any_end, end_is, found_from, IsItsChannel, its_channel_is, part_port, table_some, view_channel}
use Rattle.machine_model.specs.Facts.{BootsWithShapes, HasShapes, KeepsShapes, PortsHaveKinds, RunsWithShapes}
use Rattle.machine_model.specs.Lists.{each}
use Rattle.machine_model.specs.Machine.{Machine, SlotTurn, act_of, after, channel_after, copies, happened, happened_by, local, local_in, local_of, run, sight_of_state, start, step, system_traffic, taken_by, turn_of}
use Rattle.machine_model.specs.OwnActs.{HasPortRoom, IsPutting, IsTaking, IsWithinOwn}
use Rattle.machine_model.specs.Partition.{PartitionState, takes_turns}
use Rattle.machine_model.specs.Emission as emission
use Rattle.machine_model.specs.Emission.{Act, OwnPuts, OwnSignals, OwnStill, OwnTakes}
use Rattle.machine_model.specs.Traffic.{Puts, Signals, Still, Takes, Traffic, after_traffic, content_if, copies_of, puts_at, takes_at, traffic_as, traffic_of}
use Rattle.machine_model.specs.View.{PortChannel, System, name_of, named, part_of, view_of}
use Rattle.machine_model.specs.Whole.{AllHalted, AllReset, NoEvent, WholeEvent, content_after}
use Rattle.machine_model.proofs.WithinLemmas.{are_names, local_within, named_so}
use Rattle.machine_model.specs.lemmas.ListLemmas.{each_counted, get_each, get_map}
use Rattle.machine_model.specs.lemmas.NameLemmas.{has_name_named}
use Rattle.machine_model.proofs.RunLemmas.{step_system}
use Rattle.machine_model.proofs.TrafficLemmas.{same_channel, view_has}

-- a content without messages suits its shape
empty_suits : (of : ChanKind) (room : ℕ) → SuitsKind of room (empty_of of)
empty_suits (chan_kind.Sampling refresh) room = tt
empty_suits (chan_kind.Queuing most) room = record { few = omega arith; each = All-nil (IsMessage room) }

cleared_suits : (of : ChanKind) (room : ℕ) (content : Content) → SuitsKind of room content → SuitsKind of room (cleared content)
unfolding cleared
cleared_suits (chan_kind.Sampling refresh) room (Sampling sample) suits = tt
cleared_suits (chan_kind.Sampling refresh) room (Queuing messages) suits = absurd suits
cleared_suits (chan_kind.Queuing most) room (Sampling sample) suits = absurd suits
cleared_suits (chan_kind.Queuing most) room (Queuing messages) suits = record { few = omega arith; each = All-nil (IsMessage room) }

-- the first message is taken
shorter : (most room : ℕ) (messages : List (List ℕ)) → IsQueue room most messages → IsQueue room most (drop 1 messages)
shorter most room [] queue = queue
shorter most room (message ∷ messages) queue =
    let few : suc (length messages) ≤ most = queue.few in
    record { few = omega (arith, few); each = All-tail (IsMessage room) message messages queue.each }

taken_suits : (of : ChanKind) (room : ℕ) (content : Content) → SuitsKind of room content → SuitsKind of room (first_taken content)
unfolding first_taken
taken_suits (chan_kind.Sampling refresh) room (Sampling sample) suits = suits
taken_suits (chan_kind.Sampling refresh) room (Queuing messages) suits = absurd suits
taken_suits (chan_kind.Queuing most) room (Sampling sample) suits = absurd suits
taken_suits (chan_kind.Queuing most) room (Queuing messages) suits = shorter most room messages suits

-- a message is put
one_longer : (messages : List (List ℕ)) (bytes : List ℕ) → length (messages ++ bytes ∷ []) ≡ length messages + 1
one_longer [] bytes = refl
one_longer (message ∷ messages) bytes = let more = one_longer messages bytes in omega (arith, more)

put_suits : (of : ChanKind) (room time : ℕ) (bytes : List ℕ) (content : Content) → IsMessage room bytes → TakesMore of content → SuitsKind of room content → SuitsKind of room (put time bytes content)
unfolding TakesMore put
put_suits (chan_kind.Sampling refresh) room time bytes (Sampling sample) message more suits = message
put_suits (chan_kind.Sampling refresh) room time bytes (Queuing messages) message more suits = absurd suits
put_suits (chan_kind.Queuing most) room time bytes (Sampling sample) message more suits = absurd suits
put_suits (chan_kind.Queuing most) room time bytes (Queuing messages) message more suits =
    let longer = one_longer messages bytes in
    let below : length messages < most = more in
    record {
      few = omega (arith, longer, below);
      each = All-append (IsMessage room) messages (bytes ∷ []) suits.each (All-cons (IsMessage room) bytes [] message (All-nil (IsMessage room)));
    }

-- room by the kind of a port is room by the kind of its channel
takes_more : (of : ChanKind) (one : Kind) (content : Content) → IsOfKind of one → HasPortRoom one of content → TakesMore of content
unfolding TakesMore
takes_more (chan_kind.Sampling refresh) one content is room = tt
takes_more (chan_kind.Queuing most) one content is room = subst (λ (k : Kind). HasPortRoom k (chan_kind.Queuing most) content) is room

-- a port that is an end of a channel is of its kind
end_kind : (parts : List Part) (chan : Chan) (p r : ℕ) (port : Port) → SuitsPorts parts chan → has_end p r chan ≡ true → port_at parts (record { part = p; port = r }) ≡ Some port
    → IsOfKind chan.kind port.kind
unfolding has_end
end_kind parts chan p r port suits is there = by (is_port p r chan.source) refl is
  where
    by : (b : Bool) → is_port p r chan.source ≡ b → (b || list_any (is_port p r) chan.dests) ≡ true → IsOfKind chan.kind port.kind
    by true source said =
        let at = subst (λ (end : End). IfSome (port_at parts end) (IsEndOf chan.kind way.Source)) (end_is p r chan.source source) suits.source in
        (subst (λ (o : Option Port). IfSome o (IsEndOf chan.kind way.Source)) there at).kind_is
    by false source said =
        let at = any_end (λ end. IfSome (port_at parts end) (IsEndOf chan.kind way.Destination)) p r chan.dests said suits.dests in
        (subst (λ (o : Option Port). IfSome o (IsEndOf chan.kind way.Destination)) there at).kind_is

pub copy_there : (g : Machine) (p q : ℕ) (content : Content) → slice_index_or (copies g p) q None ≡ Some content → content_if g.channels (named g.system.conf p q) ≡ Some content
unfolding copies copies_of
copy_there g p q content is = table_some (λ k. content_if g.channels (named g.system.conf p k)) (length (part_of g.system.conf p).ports) q content is

-- what traffic on the system's channels fits
unfoldable pub FitsChannels : Conf → List Content → Traffic → Type 0
FitsChannels conf channels Still = Unit {0}
FitsChannels conf channels (Puts c bytes) =
    (chan : Chan) (content : Content) → slice_get conf.chans c ≡ Some chan → slice_get channels c ≡ Some content → IsMessage chan.length bytes × TakesMore chan.kind content
FitsChannels conf channels (Takes c) = (content : Content) → slice_get channels c ≡ Some content → IsSome (first_message content)
FitsChannels conf channels (Signals source number) = Unit {0}

view_port : (system : System) (p r : ℕ) (port : Port) → slice_get (view_of system p).part.ports r ≡ Some port → slice_get (part_of system.conf p).ports r ≡ Some port
unfolding view_of
view_port system p r port is = is

-- a port of the partition is of the kind of its channel
port_kind : (conf : Conf) (p r : ℕ) (port : Port) (channel : PortChannel) → Fits (described conf) → slice_get (part_of conf p).ports r ≡ Some port
    → (its : IsItsChannel conf p r channel) → IsOfKind its.chan.kind port.kind
unfolding channel_of described part_of port_at
port_kind conf p r port channel fits there its =
    let found = found_from (has_end p r) 0 conf.chans its.number its.found in
    let place : its.number ≡ 0 + found.place = found.at in
    let same_place : found.place ≡ its.number = omega (arith, place) in
    let same : found.element ≡ its.chan = same_Some found.element its.chan (sym found.there ∙ ap (slice_get conf.chans) same_place ∙ its.there) in
    let is_end : has_end p r its.chan ≡ true = sym (ap (has_end p r) same) ∙ found.passes in
    end_kind conf.parts its.chan p r port (all_at (SuitsPorts conf.parts) conf.chans its.number its.chan its.there fits.ends_suit) is_end (part_port conf.parts p r port there)

-- a put by a partition fits the channel of the system that it names
put_fits : (g : Machine) (p q : ℕ) (bytes : List ℕ) (c : ℕ) → Fits (described g.system.conf) → IsPutting (view_of g.system p) (copies g p) q bytes → named g.system.conf p q ≡ Some c
    → name_of g.system.conf p c ≡ Some q → FitsChannels g.system.conf g.channels (Puts c bytes)
unfolding FitsChannels
put_fits g p q bytes c fits putting named_so name_is chan content chan_there content_there =
    let its = its_channel_is g.system.conf p putting.on.number putting.on.channel (view_channel g.system p putting.on.number putting.on.channel putting.on.channel_there) in
    let same : its.number ≡ c = same_channel g.system.conf p q its.number c (its.named_so ∙ ap Some putting.on.name_is) name_is in
    let same_chan : its.chan ≡ chan = same_Some its.chan chan (sym its.there ∙ ap (slice_get g.system.conf.chans) same ∙ chan_there) in
    let its_shape : putting.on.channel.shape ≡ shape_of chan = sym its.shape_is ∙ ap shape_of same_chan in
    let same_content : putting.content ≡ content = same_Some putting.content content
    (sym (copy_there g p q putting.content putting.held) ∙ ap (content_if g.channels) named_so ∙ content_there) in
    let of_kind : IsOfKind chan.kind putting.on.port.kind = subst (λ (x : Chan). IsOfKind x.kind putting.on.port.kind) same_chan
    (port_kind g.system.conf p putting.on.number putting.on.port putting.on.channel fits (view_port g.system p putting.on.number putting.on.port putting.on.port_there) its) in
    let room : HasPortRoom putting.on.port.kind chan.kind content = subst (λ (x : Content). HasPortRoom putting.on.port.kind chan.kind x) same_content
    (subst (λ (shape : Shape). HasPortRoom putting.on.port.kind shape.kind putting.content) its_shape putting.room) in
    (subst (λ (shape : Shape). IsMessage shape.length bytes) its_shape putting.message, takes_more chan.kind putting.on.port.kind content of_kind room)

-- and a message that it takes waits there
take_fits : (g : Machine) (p q c : ℕ) → IsTaking (view_of g.system p) (copies g p) q → named g.system.conf p q ≡ Some c → FitsChannels g.system.conf g.channels (Takes c)
unfolding FitsChannels
take_fits g p q c taking named_so content there =
    let same : taking.content ≡ content = same_Some taking.content content (sym (copy_there g p q taking.content taking.held) ∙ ap (content_if g.channels) named_so ∙ there) in
    subst (λ (x : Content). IsSome (first_message x)) same taking.waits

-- the traffic of an act under the system's numbers
act_fits : (g : Machine) (p : ℕ) (act : Act) → Fits (described g.system.conf) → IsWithinOwn (view_of g.system p) (copies g p) act
    → FitsChannels g.system.conf g.channels (traffic_as g.system.conf p (traffic_of act))
unfolding FitsChannels
act_fits g p emission.Nothing fits within = tt
act_fits g p (emission.Trades OwnStill) fits within = tt
act_fits g p (emission.Trades (OwnPuts q bytes)) fits within =
    let its = has_name_named g.system.conf p q (view_has g.system p q (named_so (view_of g.system p) _ q (are_names g.system p) within.on)) in
    subst (λ (o : Option ℕ). FitsChannels g.system.conf g.channels (puts_at o bytes)) (sym its.1) (put_fits g p q bytes its.0 fits within its.1 its.2)
act_fits g p (emission.Trades (OwnTakes q)) fits within =
    let its = has_name_named g.system.conf p q (view_has g.system p q (named_so (view_of g.system p) _ q (are_names g.system p) within.on)) in
    subst (λ (o : Option ℕ). FitsChannels g.system.conf g.channels (takes_at o)) (sym its.1) (take_fits g p q its.0 within its.1)
act_fits g p (emission.Trades (OwnSignals number)) fits within = tt
act_fits g p (emission.Upon id order) fits within = tt
act_fits g p (emission.Plans change) fits within = tt
act_fits g p (emission.UponAll event) fits within = tt

-- the traffic of a tick
taken_traffic : (g : Machine) (p : ℕ) (first : Bool) (o : Option PartitionState) → Fits (described g.system.conf)
    → FitsChannels g.system.conf g.channels (traffic_as g.system.conf p (traffic_of (act_of (taken_by g p first o))))
unfolding FitsChannels local_of
taken_traffic g p first None fits = tt
taken_traffic g p first (Some ps) fits = at (takes_turns ps.state)
  where
    at : (b : Bool) → FitsChannels g.system.conf g.channels (traffic_as g.system.conf p (traffic_of (act_of (if b then Some (local_of g p first ps) else None))))
    at true = act_fits g p (local_of g p first ps).act fits (local_within g.system p ps (copies g p) g.ticks g.time first (sight_of_state g p first ps))
    at false = tt

turn_traffic : (g : Machine) (o : Option SlotTurn) → Fits (described g.system.conf) → FitsChannels g.system.conf g.channels (system_traffic g.system.conf o (traffic_of (act_of (local_in g o))))
unfolding FitsChannels
turn_traffic g None fits = tt
turn_traffic g (Some turn) fits = taken_traffic g turn.part turn.first (slice_get g.parts turn.part) fits

pub tick_traffic : (g : Machine) → Fits (described g.system.conf) → FitsChannels g.system.conf g.channels (happened g).traffic
unfolding happened happened_by local
tick_traffic g fits = turn_traffic g (turn_of g) fits

-- what traffic leaves of a channel
traffic_suits : (conf : Conf) (channels : List Content) (time : ℕ) (traffic : Traffic) (c : ℕ) (chan : Chan) (content : Content) → FitsChannels conf channels traffic
    → slice_get conf.chans c ≡ Some chan → slice_get channels c ≡ Some content → SuitsKind chan.kind chan.length content → SuitsKind chan.kind chan.length (after_traffic time traffic c content)
unfolding FitsChannels
traffic_suits conf channels time Still c chan content fits chan_there there suits = suits
traffic_suits conf channels time (Puts d bytes) c chan content fits chan_there there suits = at (d == c) refl
  where
    at : (b : Bool) → (d == c) ≡ b → SuitsKind chan.kind chan.length (if b then put time bytes content else content)
    at true same =
        let its : d ≡ c = eqb-true d c same in
        let fit = fits chan content (ap (slice_get conf.chans) its ∙ chan_there) (ap (slice_get channels) its ∙ there) in
        put_suits chan.kind chan.length time bytes content fit.0 fit.1 suits
    at false other = suits
traffic_suits conf channels time (Takes d) c chan content fits chan_there there suits = at (d == c)
  where
    at : (b : Bool) → SuitsKind chan.kind chan.length (if b then first_taken content else content)
    at true = taken_suits chan.kind chan.length content suits
    at false = suits
traffic_suits conf channels time (Signals source number) c chan content fits chan_there there suits = suits

event_suits : (e : WholeEvent) (of : ChanKind) (room : ℕ) (content : Content) → SuitsKind of room content → SuitsKind of room (content_after e content)
event_suits NoEvent of room content suits = suits
event_suits (AllReset mode) of room content suits = cleared_suits of room content suits
event_suits AllHalted of room content suits = suits

after_shapes : (g : Machine) → Fits (described g.system.conf) → HasShapes g → HasShapes (after g (happened g))
unfolding after channel_after
after_shapes g fits shapes = record {
  counted = each_counted (channel_after g.time (happened g)) g.channels ∙ shapes.counted;
  suited = λ c chan content chan_there there. by c chan content (slice_get g.channels c) refl chan_there there;
}
  where
    by : (c : ℕ) (chan : Chan) (content : Content) (o : Option Content) → slice_get g.channels c ≡ o → slice_get g.system.conf.chans c ≡ Some chan
        → slice_get (each (channel_after g.time (happened g)) g.channels) c ≡ Some content → Suits (shape_of chan) content
    by c chan content None is chan_there there =
        absurd (let none = sym (get_each (channel_after g.time (happened g)) g.channels c ∙ ap (on (channel_after g.time (happened g) c)) is) ∙ there in cc)
    by c chan content (Some before) is chan_there there =
        let same : channel_after g.time (happened g) c before ≡ content =
        same_Some _ content (sym (get_each (channel_after g.time (happened g)) g.channels c ∙ ap (on (channel_after g.time (happened g) c)) is) ∙ there) in
        subst (Suits (shape_of chan)) same (record {
          held = event_suits (happened g).event chan.kind chan.length (after_traffic g.time (happened g).traffic c before)
              (traffic_suits g.system.conf g.channels g.time (happened g).traffic c chan before (tick_traffic g fits) chan_there is (shapes.suited c chan before chan_there is).held);
        })

pub keeps_shapes : KeepsShapes
keeps_shapes g fits shapes = at g.halted refl
  where
    at : (b : Bool) → g.halted ≡ b → HasShapes (step g)
    at true halts = subst HasShapes (sym (step_halted g halts)) shapes
    at false runs = subst HasShapes (sym (step_runs g runs)) (after_shapes g fits shapes)

start_contents : (chans : List Chan) (c : ℕ) (chan : Chan) (content : Content) → slice_get chans c ≡ Some chan → slice_get (map empty (map shape_of chans)) c ≡ Some content
    → Suits (shape_of chan) content
start_contents chans c chan content chan_there there =
    let found : slice_get (map empty (map shape_of chans)) c ≡ Some (empty (shape_of chan)) =
    get_map empty (map shape_of chans) c ∙ ap (on empty) (get_map shape_of chans c ∙ ap (on shape_of) chan_there) in
    let same : empty (shape_of chan) ≡ content = same_Some (empty (shape_of chan)) content (sym found ∙ there) in
    subst (Suits (shape_of chan)) same (record { held = empty_suits chan.kind chan.length })

pub boots_with_shapes : BootsWithShapes
unfolding shapes_of start
boots_with_shapes system = record {
  counted = length-map (map shape_of system.conf.chans) empty ∙ length-map system.conf.chans shape_of;
  suited = start_contents system.conf.chans;
}

run_shapes : (count : ℕ) (g : Machine) → Fits (described g.system.conf) → HasShapes g → HasShapes (run g count)
run_shapes zero g fits shapes = shapes
run_shapes (suc count) g fits shapes =
    run_shapes count (step g) (subst (λ (system : System). Fits (described system.conf)) (sym (step_system g)) fits) (keeps_shapes g fits shapes)

start_fits : (system : System) → Fits (described system.conf) → Fits (described (start system).system.conf)
unfolding start
start_fits system fits = fits

pub runs_with_shapes : RunsWithShapes
runs_with_shapes system count fits = run_shapes count (start system) (start_fits system fits) (boots_with_shapes system)

pub ports_have_kinds : PortsHaveKinds
ports_have_kinds system p r port channel fits port_there channel_there =
    let its = its_channel_is system.conf p r channel (view_channel system p r channel channel_there) in
    subst (λ (shape : Shape). IsOfKind shape.kind port.kind) its.shape_is (port_kind system.conf p r port channel fits (view_port system p r port port_there) its)
