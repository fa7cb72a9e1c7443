-- A made port as it is found in the configuration is the one of the machine.
use Rattle.std.proofs.Common.{◌≡◌, ℕ, zero, suc, ◌+◌, ◌<◌, ◌≤◌, Bool, true, false, List, [], ◌∷◌, length, Option, None, Some, refl, sym, ap, ◌∙◌, arith, subst}
use Rattle.std.specs.Prelude.{slice_get, slice_index_or, if◌then◌else◌, map, unwrap_or}
use Rattle.std.proofs.lemmas.Option.{same_Some, slice_get-get_or, slice_get_within}
use Rattle.xm_conf.specs.Configuration.{Chan, Conf}
use Rattle.xm_conf.specs.Description.{described}
use Rattle.xm_conf.specs.Fits.{Fits, IsOfKind}
use Rattle.xm_conf.specs.View.{channel_of}
use Rattle.xm_conf.specs.declared.channel.ChanKind.{ChanKind}
use Rattle.xm_conf.specs.declared.channel.ChanKind.TheVariants as chan_kind
use Rattle.xm_conf.specs.declared.port.Kind.{Kind}
use Rattle.xm_conf.specs.declared.port.Kind.TheVariants as kind
use Rattle.xm_conf.specs.declared.port.Port.{Port}
use Rattle.xm_conf.specs.declared.port.Way.{Way}
use Rattle.xm_ports.specs.Channels.{ChannelTable, Content, IsTable, Queuing, content_at, shape_of, shapes_of}
use Rattle.xm_ports.specs.Ports.{are_same_kind, is_made}
use Rattle.machine_model.specs.lemmas.ListLemmas.{table_at}
use Rattle.machine_model.specs.lemmas.NameLemmas.{number_is, same_number}
use Rattle.machine_model.specs.Caller.{Caller, a_of}
use Rattle.machine_model.specs.Facts.{PortsHaveKinds}
use Rattle.machine_model.specs.Lists.{and_then, is_number, then_some}
use Rattle.machine_model.specs.Machine.{copies}
use Rattle.machine_model.specs.PortEffects.{MadePort, made_port, with_channel}
use Rattle.machine_model.specs.Traffic.{content_if, copies_of}
use Rattle.machine_model.specs.View.{PortChannel, System, if_named, name_from, name_of, named, part_of, port_channel, view_of, with_its_name, with_name}
use Rattle.port_calls.specs.lemmas.MadePortsTerms.{HasKind, IsMade, found_end, found_in, found_port, found_with, port_in}
use Rattle.port_calls.specs.MadePorts.{table_in}
use Rattle.system_state.specs.Serving.{caller_of}
use Rattle.system_state.specs.State.{SysState}
use Rattle.system_state.specs.declared.call_site.CallSite.{CallSite}
use Rattle.port_calls.specs.declared.made_ports.MadePort as found

-- the lowest of this many ports on a channel, from port r on
record IsName (conf : Conf) (p c count r : ℕ) : Type 0 where
  name : ℕ
  is : name_from conf p c count r ≡ Some name
  below : name < r + count
  its : channel_of conf p name ≡ Some c

-- a channel of a port has a name
has_name : (conf : Conf) (p c count r q : ℕ) → channel_of conf p q ≡ Some c → r ≤ q → q < r + count → IsName conf p c count r
has_name conf p c zero r q at from below = absurd (omega (arith, from, below))
has_name conf p c (suc count) r q at from below = by (is_number (channel_of conf p r) c) refl (has_name conf p c count (suc r) q at)
  where
    by : (b : Bool) → is_number (channel_of conf p r) c ≡ b → (suc r ≤ q → q < suc r + count → IsName conf p c count (suc r)) → IsName conf p c (suc count) r
    by true here further = record {
      name = r;
      is = ap (λ b. if b then Some r else name_from conf p c count (suc r)) here;
      below = omega arith;
      its = number_is (channel_of conf p r) c here;
    }
    by false other further =
        let apart : (r ≡ q) → ⊥ = λ same. absurd (let two : is_number (channel_of conf p r) c ≡ true = ap (λ k. is_number (channel_of conf p k) c) same ∙ ap (λ o. is_number o c) at ∙ same_number c in cc) in
        let later = further (omega (arith, from, apart)) (omega (arith, below)) in
        let bound : later.name < suc r + count = later.below in
        record { name = later.name; is = ap (λ b. if b then Some r else name_from conf p c count (suc r)) other ∙ later.is; below = omega (arith, bound); its = later.its }

-- the name of the channel of a port, by which the partition calls the channel
pub record IsNamed (conf : Conf) (p c : ℕ) : Type 0 where
  pub name : ℕ
  pub is : name_of conf p c ≡ Some name
  pub below : name < length (part_of conf p).ports
  pub called : named conf p name ≡ Some c

pub name_there : (conf : Conf) (p c r : ℕ) → channel_of conf p r ≡ Some c → r < length (part_of conf p).ports → IsNamed conf p c
unfolding name_of named
name_there conf p c r at below =
    let found = has_name conf p c (length (part_of conf p).ports) 0 r at (omega arith) (omega (arith, below)) in
    let bound : found.name < 0 + length (part_of conf p).ports = found.below in
    record {
      name = found.name;
      is = found.is;
      below = omega (arith, bound);
      called = ap (if_named conf p found.name) found.its
          ∙ ap (λ o. then_some (is_number o found.name) c) found.is
          ∙ ap (λ b. then_some b c) (same_number found.name);
    }

-- the channel of a port in the view
pub view_channel : (system : System) (p r : ℕ) → r < length (part_of system.conf p).ports → slice_index_or (view_of system p).channels r None ≡ with_its_name system.conf p (channel_of system.conf p r)
unfolding view_of port_channel
view_channel system p r below = table_at (port_channel system.conf p) (length (part_of system.conf p).ports) r below

-- all that a port has that is found
record IsFound (conf : Conf) (p r : ℕ) (the_kind : Kind) (port : found.MadePort) : Type 0 where
  entry : Port
  chan : Chan
  there : slice_get (part_of conf p).ports r ≡ Some entry
  of_kind : entry.kind ≡ the_kind
  at : channel_of conf p r ≡ Some port.chan
  chan_there : slice_get conf.chans port.chan ≡ Some chan
  same : port ≡ record { way = entry.way; chan = port.chan; kind = chan.kind; length = chan.length }
  its : IsNamed conf p port.chan

same_kind : (a b : Kind) → are_same_kind a b ≡ true → a ≡ b
same_kind kind.Sampling kind.Sampling is = refl
same_kind kind.Sampling kind.Queuing is = absurd cc
same_kind kind.Queuing kind.Sampling is = absurd cc
same_kind kind.Queuing kind.Queuing is = refl

is_found : (conf : Conf) (p r : ℕ) (the_kind : Kind) (port : found.MadePort) → found_in conf p r the_kind ≡ Some port → IsFound conf p r the_kind port
unfolding found_in
is_found conf p r the_kind port is = by_port (slice_get (part_of conf p).ports r) refl is
  where
    by_chan : (entry : Port) → slice_get (part_of conf p).ports r ≡ Some entry → are_same_kind entry.kind the_kind ≡ true → (c : ℕ) → channel_of conf p r ≡ Some c
        → (o : Option Chan) → slice_get conf.chans c ≡ o → found_with entry.way c o ≡ Some port → IsFound conf p r the_kind port
    by_chan entry there of_kind c at None chan_there said = absurd cc
    by_chan entry there of_kind c at (Some chan) chan_there said =
        let same : record { way = entry.way; chan = c; kind = chan.kind; length = chan.length } ≡ port = same_Some _ port said in
        subst (IsFound conf p r the_kind) same (record {
          entry = entry;
          chan = chan;
          there = there;
          of_kind = same_kind entry.kind the_kind of_kind;
          at = at;
          chan_there = chan_there;
          same = refl;
          its = name_there conf p c r at (slice_get_within (part_of conf p).ports r entry there);
        })

    by_number : (entry : Port) → slice_get (part_of conf p).ports r ≡ Some entry → are_same_kind entry.kind the_kind ≡ true
        → (o : Option ℕ) → channel_of conf p r ≡ o → found_end conf entry.way o ≡ Some port → IsFound conf p r the_kind port
    by_number entry there of_kind None at said = absurd cc
    by_number entry there of_kind (Some c) at said = by_chan entry there of_kind c at (slice_get conf.chans c) refl said

    by_kind : (entry : Port) → slice_get (part_of conf p).ports r ≡ Some entry → (b : Bool) → are_same_kind entry.kind the_kind ≡ b
        → (if b then found_end conf entry.way (channel_of conf p r) else None) ≡ Some port → IsFound conf p r the_kind port
    by_kind entry there true of_kind said = by_number entry there of_kind (channel_of conf p r) refl said
    by_kind entry there false other said = absurd cc

    by_port : (o : Option Port) → slice_get (part_of conf p).ports r ≡ o → found_port conf p r the_kind o ≡ Some port → IsFound conf p r the_kind port
    by_port None none said = absurd cc
    by_port (Some entry) there said = by_kind entry there (are_same_kind entry.kind the_kind) refl said

-- a port of a kind, as the caller has it
pub AtPort : Kind → Caller → ℕ → Option MadePort
AtPort the_kind caller r = and_then (slice_get caller.view.part.ports r) (λ port. with_channel caller the_kind port (slice_index_or caller.view.channels r None))

-- it is there, or one of four things is not
there : (the_kind : Kind) (caller : Caller) (r : ℕ) (entry : Port) (channel : PortChannel) (content : Content) → slice_get caller.view.part.ports r ≡ Some entry
    → slice_index_or caller.view.channels r None ≡ Some channel → are_same_kind entry.kind the_kind ≡ true → slice_index_or caller.contents channel.name None ≡ Some content
    → AtPort the_kind caller r ≡ Some (record { way = entry.way; shape = channel.shape; name = channel.name; content = content })
unfolding AtPort
there the_kind caller r entry channel content port_there channel_there of_kind held = rw (port_there, channel_there, of_kind, held) refl

other_kind : (the_kind : Kind) (caller : Caller) (entry : Port) (o : Option PortChannel) → are_same_kind entry.kind the_kind ≡ false → with_channel caller the_kind entry o ≡ None
other_kind the_kind caller entry None of_kind = refl
other_kind the_kind caller entry (Some channel) of_kind = rw of_kind refl

no_name : (conf : Conf) (p c : ℕ) (way : Way) (o : Option Chan) → found_with way c o ≡ None → with_name o (name_of conf p c) ≡ None
no_name conf p c way None none = refl
no_name conf p c way (Some chan) none = absurd cc

no_channel : (conf : Conf) (p : ℕ) (way : Way) (o : Option ℕ) → found_end conf way o ≡ None → with_its_name conf p o ≡ None
no_channel conf p way None none = refl
no_channel conf p way (Some c) none = no_name conf p c way (slice_get conf.chans c) none

-- a port that is not found is none of the caller's
pub none_found : (sys : SysState) (site : CallSite) (the_kind : Kind) (r : ℕ) → found_in sys.machine.system.conf site.part r the_kind ≡ None → AtPort the_kind (caller_of site sys) r ≡ None
unfolding found_in caller_of view_of port_channel AtPort
none_found sys site the_kind r none = by_port (slice_get (part_of sys.machine.system.conf site.part).ports r) refl none
  where
    by_kind : (entry : Port) → r < length (part_of sys.machine.system.conf site.part).ports → (b : Bool) → are_same_kind entry.kind the_kind ≡ b
        → (if b then found_end sys.machine.system.conf entry.way (channel_of sys.machine.system.conf site.part r) else None) ≡ None
        → with_channel (caller_of site sys) the_kind entry (slice_index_or (caller_of site sys).view.channels r None) ≡ None
    by_kind entry below true of_kind said =
        ap (with_channel (caller_of site sys) the_kind entry)
        (view_channel sys.machine.system site.part r below ∙ no_channel sys.machine.system.conf site.part entry.way (channel_of sys.machine.system.conf site.part r) said)
    by_kind entry below false of_kind said = other_kind the_kind (caller_of site sys) entry (slice_index_or (caller_of site sys).view.channels r None) of_kind

    by_port : (o : Option Port) → slice_get (part_of sys.machine.system.conf site.part).ports r ≡ o → found_port sys.machine.system.conf site.part r the_kind o ≡ None
        → and_then o (λ port. with_channel (caller_of site sys) the_kind port (slice_index_or (caller_of site sys).view.channels r None)) ≡ None
    by_port None is said = refl
    by_port (Some entry) is said = by_kind entry (slice_get_within (part_of sys.machine.system.conf site.part).ports r entry is) (are_same_kind entry.kind the_kind) refl said

-- what the caller has of the channel that it calls q
copy_at : (sys : SysState) (site : CallSite) (q c : ℕ) → q < length (part_of sys.machine.system.conf site.part).ports → named sys.machine.system.conf site.part q ≡ Some c
    → slice_index_or (caller_of site sys).contents q None ≡ slice_get sys.machine.channels c
unfolding caller_of copies copies_of
copy_at sys site q c below is =
    table_at (λ k. content_if sys.machine.channels (named sys.machine.system.conf site.part k)) (length (part_of sys.machine.system.conf site.part).ports) q below
    ∙ ap (content_if sys.machine.channels) is

-- the channel of a port that is found, in the view
channel_at : (system : System) (p r : ℕ) (the_kind : Kind) (port : found.MadePort) → (f : IsFound system.conf p r the_kind port)
    → slice_index_or (view_of system p).channels r None ≡ Some (record { shape = shape_of f.chan; name = f.its.name })
channel_at system p r the_kind port f =
    view_channel system p r (slice_get_within (part_of system.conf p).ports r f.entry f.there)
    ∙ ap (with_its_name system.conf p) f.at
    ∙ ap (λ o. with_name o (name_of system.conf p port.chan)) f.chan_there
    ∙ ap (with_name (Some f.chan)) f.its.is

kind_is_one : (the_kind : Kind) → are_same_kind the_kind the_kind ≡ true
kind_is_one kind.Sampling = refl
kind_is_one kind.Queuing = refl

-- a channel that is there holds something
held_at : (sys : SysState) (c : ℕ) → c < length sys.machine.channels → slice_get sys.machine.channels c ≡ Some (content_at c (table_in sys))
held_at sys c below =
    let is = slice_get-get_or sys.machine.channels c (Queuing []) below in
    is ∙ ap (λ o. Some (unwrap_or o (Queuing []))) (sym is)

-- the caller's view is its partition's
pub port_seen : (system : System) (p r : ℕ) (entry : Port) → slice_get (part_of system.conf p).ports r ≡ Some entry → slice_get (view_of system p).part.ports r ≡ Some entry
unfolding view_of
port_seen system p r entry is = is

pub caller_seen : (sys : SysState) (site : CallSite) → view_of sys.machine.system site.part ≡ (caller_of site sys).view
unfolding caller_of
caller_seen sys site = refl

-- a port that is found is the caller's
pub port_found : (sys : SysState) (site : CallSite) (the_kind : Kind) (r : ℕ) (port : found.MadePort) → found_in sys.machine.system.conf site.part r the_kind ≡ Some port
    → port.chan < length sys.machine.channels → AtPort the_kind (caller_of site sys) r ≡ Some (port_in site.part sys port)
port_found sys site the_kind r port is below =
    let f = is_found sys.machine.system.conf site.part r the_kind port is in
    there the_kind (caller_of site sys) r f.entry (record { shape = shape_of f.chan; name = f.its.name }) (content_at port.chan (table_in sys)) (ap (λ view. slice_get view.part.ports r) (sym (caller_seen sys site)) ∙ port_seen sys.machine.system site.part r f.entry f.there)
    (ap (λ view. slice_index_or view.channels r None) (sym (caller_seen sys site)) ∙ channel_at sys.machine.system site.part r the_kind port f)
    (ap (λ one. are_same_kind one the_kind) f.of_kind ∙ kind_is_one the_kind)
    (copy_at sys site f.its.name port.chan f.its.below f.its.called ∙ held_at sys port.chan below)
    ∙ ap Some (sym (ap (port_in site.part sys) f.same ∙ named_so f.entry f.chan f.its.name f.its.is))
  where
    named_so : (entry : Port) (chan : Chan) (name : ℕ) → name_of sys.machine.system.conf site.part port.chan ≡ Some name
        → port_in site.part sys (record { way = entry.way; chan = port.chan; kind = chan.kind; length = chan.length })
        ≡ record { way = entry.way; shape = shape_of chan; name = name; content = content_at port.chan (table_in sys) }
    named_so entry chan name is = ap (λ (o : Option ℕ). record { way = entry.way; shape = shape_of chan; name = unwrap_or o 0; content = content_at port.chan (table_in sys) }) is

-- a map, read at a place
get_map : {X Y : Type 0} (f : X → Y) (xs : List X) (k : ℕ) (x : X) → slice_get xs k ≡ Some x → slice_get (map f xs) k ≡ Some (f x)
get_map f [] k x is = absurd cc
get_map f (one ∷ xs) zero x is = ap Some (ap f (same_Some one x is))
get_map f (one ∷ xs) (suc k) x is = get_map f xs k x is

-- the table's shape of the channel of a port that is found
shape_there : (sys : SysState) (p r : ℕ) (the_kind : Kind) (port : found.MadePort) → sys.shapes ≡ shapes_of sys.machine.system.conf → (f : IsFound sys.machine.system.conf p r the_kind port)
    → slice_get sys.shapes port.chan ≡ Some (record { kind = port.kind; length = port.length })
unfolding shapes_of
shape_there sys p r the_kind port shapes f =
    ap (λ all. slice_get all port.chan) shapes
    ∙ get_map shape_of sys.machine.system.conf.chans port.chan f.chan f.chan_there
    ∙ ap (λ one. Some (record { kind = one.kind; length = one.length })) (sym f.same)

of_kind : (of : ChanKind) (the_kind : Kind) (long c : ℕ) (all : ChannelTable) → slice_get all.shapes c ≡ Some (record { kind = of; length = long }) → IsOfKind of the_kind → HasKind the_kind c all
of_kind (chan_kind.Sampling refresh) kind.Sampling long c all is of = rw is tt
of_kind (chan_kind.Sampling refresh) kind.Queuing long c all is of = absurd cc
of_kind (chan_kind.Queuing most) kind.Sampling long c all is of = absurd cc
of_kind (chan_kind.Queuing most) kind.Queuing long c all is of = rw is tt

-- the table has the channel of a port that is found
pub kind_found : PortsHaveKinds → (sys : SysState) (p r : ℕ) (the_kind : Kind) (port : found.MadePort) → Fits (described sys.machine.system.conf) → sys.shapes ≡ shapes_of sys.machine.system.conf
    → found_in sys.machine.system.conf p r the_kind ≡ Some port → HasKind the_kind port.chan (table_in sys)
kind_found law sys p r the_kind port fits shapes is =
    let f = is_found sys.machine.system.conf p r the_kind port is in
    let channel : PortChannel = record { shape = shape_of f.chan; name = f.its.name } in
    let its : IsOfKind f.chan.kind f.entry.kind = law sys.machine.system p r f.entry channel fits (port_seen sys.machine.system p r f.entry f.there) (channel_at sys.machine.system p r the_kind port f) in
    of_kind port.kind the_kind port.length port.chan (table_in sys) (shape_there sys p r the_kind port shapes f)
    (subst (λ (of : ChanKind). IsOfKind of the_kind) (sym (ap (λ one. one.kind) f.same)) (subst (IsOfKind f.chan.kind) f.of_kind its))

-- a table has a content for each shape
pub chan_held : (sys : SysState) (p r : ℕ) (the_kind : Kind) (port : found.MadePort) → sys.shapes ≡ shapes_of sys.machine.system.conf → IsTable (table_in sys)
    → found_in sys.machine.system.conf p r the_kind ≡ Some port → port.chan < length sys.machine.channels
chan_held sys p r the_kind port shapes counts is =
    let below = slice_get_within sys.shapes port.chan _ (shape_there sys p r the_kind port shapes (is_found sys.machine.system.conf p r the_kind port is)) in
    let counted : length sys.machine.channels ≡ length sys.shapes = counts.counted in
    omega (arith, below, counted)

-- all that holds of a port that is found
pub made_found : PortsHaveKinds → (sys : SysState) (p r : ℕ) (the_kind : Kind) (port : found.MadePort) → Fits (described sys.machine.system.conf) → sys.shapes ≡ shapes_of sys.machine.system.conf
    → IsTable (table_in sys) → port.chan < 64 → found_in sys.machine.system.conf p r the_kind ≡ Some port → IsMade the_kind p sys port
made_found law sys p r the_kind port fits shapes counts few is =
    let f = is_found sys.machine.system.conf p r the_kind port is in
    record {
      named = ap (λ o. named sys.machine.system.conf p (unwrap_or o 0)) f.its.is ∙ f.its.called;
      shaped = shape_there sys p r the_kind port shapes f;
      held = held_at sys port.chan (chan_held sys p r the_kind port shapes counts is);
      of_kind = kind_found law sys p r the_kind port fits shapes is;
      few = few;
      table = counts;
    }

-- the made port that a call names, where it is made
pub port_made : (the_kind : Kind) (caller : Caller) → made_port the_kind caller ≡ and_then (then_some (is_made (a_of caller) caller.state.made) (a_of caller)) (AtPort the_kind caller)
unfolding made_port AtPort
port_made the_kind caller = by (is_made (a_of caller) caller.state.made)
  where
    by : (b : Bool) → (if b then AtPort the_kind caller (a_of caller) else None) ≡ and_then (then_some b (a_of caller)) (AtPort the_kind caller)
    by true = refl
    by false = refl

-- the table that is lent is the system's
pub table_is : (all : ChannelTable) (sys : SysState) → all.contents ≡ sys.machine.channels → all.shapes ≡ sys.shapes → all ≡ table_in sys
table_is all sys contents shapes = λ i. record { shapes = shapes i; contents = contents i }
