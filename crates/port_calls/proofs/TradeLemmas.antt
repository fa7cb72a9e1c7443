-- A message that is put or taken, and a signal, as the code does them and as the machine has them.
use Rattle.std.proofs.Common.{◌≡◌, ℕ, zero, suc, ◌+◌, ◌<◌, ◌≢◌, Bool, true, false, List, [], ◌∷◌, length, get_or, set, Option, None, Some, refl, sym, ap, ◌∙◌, arith, subst}
use Rattle.std.specs.Prelude.{◌==◌, ◌&&◌, if◌then◌else◌, option_map, slice_get, IsSomeAnd}
use Rattle.std.proofs.lemmas.Bool.{eqb-true}
use Rattle.std.proofs.lemmas.Bool.Decides.{nat_tests}
use Rattle.std.proofs.lemmas.Option.{same_Some, slice_get-map}
use Rattle.xm_conf.specs.Configuration.{Chan, Conf}
use Rattle.xm_conf.specs.View.{channel_of}
use Rattle.xm_conf.specs.declared.port.Port.{Port}
use Rattle.xm_conf.specs.declared.channel.ChanKind.{ChanKind}
use Rattle.xm_conf.specs.declared.channel.ChanKind.TheVariants as chan_kind
use Rattle.xm_ports.specs.Channels.{ChannelTable, Content, HasQueue, HasSampling, IsQueuing, IsSampling, Shape, changed, put, shape_of, shapes_of, first_taken, with_content}
use Rattle.xm_ports.specs.Ports.{is_made}
use Rattle.machine_model.specs.lemmas.NameLemmas.{name_is}
use Rattle.machine_model.specs.Lists.{each, is_number, table, then_some}
use Rattle.machine_model.specs.Machine.{Machine, booted_part}
use Rattle.machine_model.specs.Partition.{PartitionState, link_signal}
use Rattle.machine_model.specs.Emission.{OwnSignals}
use Rattle.machine_model.specs.Traffic.{Puts, Signals, Takes, after_message, after_traffic, first_heard, heard_as, heard_from, hearing, hears, interrupt_of, interrupted, is_destination, own_puts_at, own_signals_at, own_takes_at}
use Rattle.machine_model.specs.View.{PortChannel, linked, name_from, name_of, part_of, port_channel, view_of, with_its_name, with_name}
use Rattle.span_model.specs.Passes.{with_traffic}
use Rattle.port_calls.specs.MadePorts.{table_in}
use Rattle.system_state.specs.State.{SysState, part_at, with_machine, with_part, with_table}
use Rattle.port_calls.specs.lemmas.Traffic.{Brings, heard_at, hears_from, hears_in, is_on, notified}

-- two passes that do the same to each element
pub each_alike : {X : Type 0} (f g : ℕ → X → X) (xs : List X) → ((k : ℕ) (x : X) → f k x ≡ g k x) → each f xs ≡ each g xs
each_alike f g [] same = refl
each_alike f g (x ∷ xs) same = rw (same 0 x, each_alike (λ k. f (suc k)) (λ k. g (suc k)) xs (λ k. same (suc k))) refl

-- a pass over elements none of which the test is for
each_kept : {X : Type 0} (f : X → X) (test : ℕ → Bool) (xs : List X) → ((k : ℕ) → test k ≡ false) → each (λ k x. if test k then f x else x) xs ≡ xs
each_kept f test [] none = refl
each_kept f test (x ∷ xs) none = rw (none 0, each_kept f (λ k. test (suc k)) xs (λ k. none (suc k))) refl

-- one element changed is a pass that changes the one of a number
changed_pass : {X : Type 0} (f : X → X) (test : ℕ → Bool) (n : ℕ) (xs : List X) → test n ≡ true → ((k : ℕ) → k ≢ n → test k ≡ false)
    → changed f n xs ≡ each (λ k x. if test k then f x else x) xs
changed_pass f test n [] here others = refl
changed_pass f test zero (x ∷ xs) here others = rw (here, each_kept f (λ k. test (suc k)) xs (λ k. others (suc k) (omega arith))) refl
changed_pass f test (suc n) (x ∷ xs) here others =
    rw (others 0 (omega arith), changed_pass f (λ k. test (suc k)) n xs here (λ k differs. others (suc k) (omega (arith, differs)))) refl

-- a number is itself, and no other
itself : (n : ℕ) → (n == n) ≡ true
itself n = grind (arith)

other_number : (n k : ℕ) → k ≢ n → (n == k) ≡ false
other_number n k differs = grind (arith, nat_tests)

-- what a message that is put leaves of the channels, and one that is taken
pub put_pass : (time chan : ℕ) (bytes : List ℕ) (contents : List Content) → changed (put time bytes) chan contents ≡ each (after_traffic time (Puts chan bytes)) contents
put_pass time chan bytes contents = changed_pass (put time bytes) (λ k. chan == k) chan contents (itself chan) (λ k differs. other_number chan k differs)

pub taken_pass : (time chan : ℕ) (contents : List Content) → changed first_taken chan contents ≡ each (after_traffic time (Takes chan)) contents
taken_pass time chan contents = changed_pass first_taken (λ k. chan == k) chan contents (itself chan) (λ k differs. other_number chan k differs)

-- no port of these is a destination for which the test holds
pub none_hears : (test : ℕ → Bool) (r : ℕ) (ports : List Port) → ((k j : ℕ) (port : Port) → j ≡ r + k → slice_get ports k ≡ Some port → (is_destination port.way && test j) ≡ false)
    → hears_from test r ports ≡ false
none_hears test r [] none = refl
none_hears test r (port ∷ ports) none =
    rw (none 0 r port (omega arith) refl) (none_hears test (suc r) ports (λ k j p is there. none (suc k) j p (omega (arith, is)) there))

-- a test that does not let a value through
then_none : (b : Bool) (n : ℕ) → None ≡ then_some b n → b ≡ false
then_none true n is = absurd cc
then_none false n is = refl

-- a port that is not made hears nothing
unmade : (m : ℕ) (port : Port) (o : Option PortChannel) → hears m port false o ≡ None
unmade m port None = refl
unmade m port (Some channel) = at (is_destination port.way)
  where
    at : (d : Bool) → (if d && false && channel.name == m then Some (interrupt_of channel.shape.kind) else None) ≡ None
    at true = refl
    at false = refl

-- the first interrupt of a port and those after it
first_of : (b c : Bool) (n : ℕ) → first_heard (then_some b n) (then_some c n) ≡ then_some (if b then true else c) n
first_of true c n = refl
first_of false c n = refl

-- the interrupt that ports hear, where each hears it by the test
heard_by : (m n : ℕ) (test : ℕ → Bool) (r : ℕ) (ports : List Port) (made : List Bool) (f : ℕ → Option PortChannel)
    → ((k j : ℕ) (port : Port) → j ≡ r + k → hears m port (is_made k made) (f k) ≡ then_some (is_destination port.way && test j) n)
    → heard_from m ports made (table f (length ports)) ≡ then_some (hears_from test r ports) n
heard_by m n test r [] made f each = refl
heard_by m n test r (port ∷ ports) [] f each =
    ap (λ b. then_some b n) (sym (none_hears test r (port ∷ ports) (λ k j p is below. then_none (is_destination p.way && test j) n (sym (unmade m p (f k)) ∙ each k j p is))))
heard_by m n test r (port ∷ ports) (one ∷ made) f each =
    ap (λ o. first_heard o (heard_from m ports made (table (λ k. f (suc k)) (length ports)))) (each 0 r port (omega arith))
    ∙ ap (first_heard (then_some (is_destination port.way && test r) n)) (heard_by m n test (suc r) ports made (λ k. f (suc k)) (λ k j p is. each (suc k) j p (omega (arith, is))))
    ∙ first_of (is_destination port.way && test r) (hears_from test (suc r) ports) n

-- a port on another channel
never : (d made : Bool) (n : ℕ) → None ≡ then_some (d && (made && false)) n
never true true n = refl
never true false n = refl
never false made n = refl

-- a port by what is tested of it
heard_so : (d made b : Bool) (i n : ℕ) → i ≡ n → (if d && made && b then Some i else None) ≡ then_some (d && (made && b)) n
heard_so true true true i n is = ap Some is
heard_so true true false i n is = refl
heard_so true false b i n is = refl
heard_so false made b i n is = refl

unheard_so : (d made : Bool) (i n : ℕ) → (if d && made && false then Some i else None) ≡ then_some (d && (made && false)) n
unheard_so true true i n = refl
unheard_so true false i n = refl
unheard_so false made i n = refl

-- a port on the channel hears by its name
on_it : (m n : ℕ) (port : Port) (made : Bool) (chan : Option Chan) → IsSomeAnd chan (λ (the_chan : Chan). interrupt_of the_chan.kind ≡ n)
    → hears m port made (with_name chan (Some m)) ≡ then_some (is_destination port.way && (made && true)) n
on_it m n port made None brings = absurd brings
on_it m n port made (Some chan) brings = rw (itself m) (heard_so (is_destination port.way) made true (interrupt_of chan.kind) n brings)

-- a port on another one does not
on_other : (m n : ℕ) (port : Port) (made : Bool) (chan : Option Chan) (name : Option ℕ) → name ≢ Some m
    → hears m port made (with_name chan name) ≡ then_some (is_destination port.way && (made && false)) n
on_other m n port made None name differs = never (is_destination port.way) made n
on_other m n port made (Some chan) None differs = never (is_destination port.way) made n
on_other m n port made (Some chan) (Some other) differs =
    rw (other_number other m (λ same. differs (ap Some (sym same)))) (unheard_so (is_destination port.way) made (interrupt_of chan.kind) n)

-- a port by its channel's number
by_number : (conf : Conf) (q chan m n : ℕ) (port : Port) (made : Bool) (o : Option ℕ) → name_of conf q chan ≡ Some m → Brings conf chan n
    → hears m port made (with_its_name conf q o) ≡ then_some (is_destination port.way && (made && is_number o chan)) n
by_number conf q chan m n port made None named brings = never (is_destination port.way) made n
by_number conf q chan m n port made (Some c) named brings = at (c == chan) refl
  where
    at : (b : Bool) → (c == chan) ≡ b → hears m port made (with_name (slice_get conf.chans c) (name_of conf q c)) ≡ then_some (is_destination port.way && (made && b)) n
    at true is =
        let same : chan ≡ c = sym (eqb-true c chan is) in
        ap (λ name. hears m port made (with_name (slice_get conf.chans c) name)) (ap (name_of conf q) (sym same) ∙ named)
        ∙ on_it m n port made (slice_get conf.chans c) (subst (λ d. IsSomeAnd (slice_get conf.chans d) (λ (the_chan : Chan). interrupt_of the_chan.kind ≡ n)) same brings)
    at false is =
        on_other m n port made (slice_get conf.chans c) (name_of conf q c)
        (λ other. let same : c ≡ chan = same_Some c chan (sym (name_is conf q c m other) ∙ name_is conf q chan m named) in
        absurd (cc (sym is ∙ ap (λ d. d == chan) same ∙ itself chan)))

-- each port of a partition
by_port : (conf : Conf) (q chan m n : ℕ) (made : List Bool) (k j : ℕ) (port : Port) → name_of conf q chan ≡ Some m → Brings conf chan n → k ≡ j
    → hears m port (is_made k made) (port_channel conf q k) ≡ then_some (is_destination port.way && is_on conf q chan made j) n
unfolding port_channel is_on
by_port conf q chan m n made k j port named brings is =
    by_number conf q chan m n port (is_made k made) (channel_of conf q k) named brings
    ∙ ap (λ i. then_some (is_destination port.way && (is_made i made && is_number (channel_of conf q i) chan)) n) is

-- a partition without a name for the channel hears nothing of it
no_port : (conf : Conf) (q chan : ℕ) (made : List Bool) (ports : List Port) (r : ℕ) → name_from conf q chan (length ports) r ≡ None → hears_from (is_on conf q chan made) r ports ≡ false
unfolding is_on
no_port conf q chan made [] r none = refl
no_port conf q chan made (port ∷ ports) r none = at (is_number (channel_of conf q r) chan) refl none (no_port conf q chan made ports (suc r))
  where
    off : (d one : Bool) → (d && (one && false)) ≡ false
    off true true = refl
    off true false = refl
    off false one = refl

    at : (b : Bool) → is_number (channel_of conf q r) chan ≡ b → (if b then Some r else name_from conf q chan (length ports) (suc r)) ≡ None
        → (name_from conf q chan (length ports) (suc r) ≡ None → hears_from (is_on conf q chan made) (suc r) ports ≡ false)
        → hears_from (is_on conf q chan made) r (port ∷ ports) ≡ false
    at true on none further = absurd cc
    at false other none further = rw (other, off (is_destination port.way) (is_made r made)) (further none)

-- an interrupt that is heard by a test
interrupt_if : (b : Bool) (n : ℕ) (ps : PartitionState) → (if b then interrupted (Some n) ps else ps) ≡ interrupted (then_some b n) ps
interrupt_if true n ps = refl
interrupt_if false n ps = refl

-- a partition that hears by its name for the channel
by_name : (g : Machine) (chan n q : ℕ) (ps : PartitionState) (m : ℕ) → name_of g.system.conf q chan ≡ Some m → Brings g.system.conf chan n
    → heard_at g.system.conf chan n q ps ≡ after_message (view_of g.system q) m ps
unfolding hears_in after_message view_of
by_name g chan n q ps m named brings =
    let conf = g.system.conf in
    interrupt_if (hears_from (is_on conf q chan ps.made) 0 (part_of conf q).ports) n ps
    ∙ ap (λ o. interrupted o ps) (sym (heard_by m n (is_on conf q chan ps.made) 0 (part_of conf q).ports ps.made (port_channel conf q) (λ k j port is. by_port conf q chan m n ps.made k j port named brings (omega (arith, is)))))

-- a partition that has no name for it
nameless : (conf : Conf) (chan n q : ℕ) (ps : PartitionState) → name_of conf q chan ≡ None → heard_at conf chan n q ps ≡ ps
unfolding hears_in name_of
nameless conf chan n q ps none = rw (no_port conf q chan ps.made (part_of conf q).ports 0 none) refl

-- each partition hears as the machine has it
hears_as : (g : Machine) (chan n : ℕ) (bytes : List ℕ) (q : ℕ) (ps : PartitionState) → Brings g.system.conf chan n
    → heard_at g.system.conf chan n q ps ≡ hearing (view_of g.system q) (heard_as g.system.conf q (Puts chan bytes)) ps
hears_as g chan n bytes q ps brings = at (name_of g.system.conf q chan) refl
  where
    at : (o : Option ℕ) → name_of g.system.conf q chan ≡ o → heard_at g.system.conf chan n q ps ≡ hearing (view_of g.system q) (own_puts_at o bytes) ps
    at None is = nameless g.system.conf chan n q ps is
    at (Some m) is = by_name g chan n q ps m is brings

-- nothing is heard of a message that is taken
takes_unheard : (g : Machine) (chan q : ℕ) (ps : PartitionState) → ps ≡ hearing (view_of g.system q) (heard_as g.system.conf q (Takes chan)) ps
takes_unheard g chan q ps = at (name_of g.system.conf q chan)
  where
    at : (o : Option ℕ) → ps ≡ hearing (view_of g.system q) (own_takes_at o) ps
    at None = refl
    at (Some m) = refl

-- a pass that leaves all as they are
each_same : {X : Type 0} (f : ℕ → X → X) (xs : List X) → ((k : ℕ) (x : X) → x ≡ f k x) → xs ≡ each f xs
each_same f [] same = refl
each_same f (x ∷ xs) same = ap (λ y. y ∷ xs) (same 0 x) ∙ ap (λ ys. f 0 x ∷ ys) (each_same (λ k. f (suc k)) xs (λ k. same (suc k)))

-- the machine after a message that is put
pub put_trades : (g : Machine) (chan n : ℕ) (bytes : List ℕ) → Brings g.system.conf chan n
    → notified chan n (record g { channels = changed (put g.time bytes) chan g.channels }) ≡ with_traffic (Puts chan bytes) g
put_trades g chan n bytes brings =
    ap (λ (contents : List Content). notified chan n (record g { channels = contents })) (put_pass g.time chan bytes g.channels)
    ∙ ap (λ (parts : List PartitionState). record g { parts = parts; channels = each (after_traffic g.time (Puts chan bytes)) g.channels })
    (each_alike (heard_at g.system.conf chan n) (λ q ps. hearing (view_of g.system q) (heard_as g.system.conf q (Puts chan bytes)) ps) g.parts (λ q ps. hears_as g chan n bytes q ps brings))

-- the machine after a message that is taken
pub take_trades : (g : Machine) (chan : ℕ) → record g { channels = changed first_taken chan g.channels } ≡ with_traffic (Takes chan) g
take_trades g chan =
    ap (λ (contents : List Content). record g { channels = contents }) (taken_pass g.time chan g.channels)
    ∙ ap (λ (parts : List PartitionState). record g { parts = parts; channels = each (after_traffic g.time (Takes chan)) g.channels })
    (each_same (λ q ps. hearing (view_of g.system q) (heard_as g.system.conf q (Takes chan)) ps) g.parts (λ q ps. takes_unheard g chan q ps))

-- the system after a message that is put
pub put_done : (old new : SysState) (before after : ChannelTable) (chan n : ℕ) (bytes : List ℕ) → before.contents ≡ old.machine.channels → before.shapes ≡ old.shapes → after ≡ with_content (put old.machine.time bytes) chan before → Brings old.machine.system.conf chan n
    → new ≡ with_machine (notified chan n (record old.machine { channels = after.contents })) (record { machine = record old.machine { channels = after.contents }; shapes = after.shapes })
    → new ≡ with_machine (with_traffic (Puts chan bytes) old.machine) old
put_done old new before after chan n bytes contents shapes after_is brings new_is =
    new_is
    ∙ ap (λ (t : ChannelTable). with_machine (notified chan n (record old.machine { channels = t.contents })) (record { machine = old.machine; shapes = t.shapes })) after_is
    ∙ ap (λ (held : List Content). with_machine (notified chan n (record old.machine { channels = changed (put old.machine.time bytes) chan held })) (record { machine = old.machine; shapes = before.shapes })) contents
    ∙ ap (λ (s : List Shape). with_machine (notified chan n (record old.machine { channels = changed (put old.machine.time bytes) chan old.machine.channels })) (record { machine = old.machine; shapes = s })) shapes
    ∙ ap (λ (g : Machine). with_machine g old) (put_trades old.machine chan n bytes brings)

-- one element that is put is one that is changed
put_changed : {X : Type 0} (f : X → X) (xs : List X) (n : ℕ) (d : X) → n < length xs → set xs n (f (get_or xs n d)) ≡ changed f n xs
put_changed f [] n d below = absurd (omega (arith, below))
put_changed f (x ∷ xs) zero d below = refl
put_changed f (x ∷ xs) (suc n) d below = ap (λ rest. x ∷ rest) (put_changed f xs n d (omega (arith, below)))

-- the machine after a signal over a link to a partition
pub signal_trades : (g : Machine) (p number dest : ℕ) → linked g.system.conf p number ≡ Some dest → dest < length g.parts
    → with_part dest (hearing (view_of g.system dest) (OwnSignals number) (part_at dest g)) g ≡ with_traffic (Signals p number) g
signal_trades g p number dest is below =
    ap (λ (parts : List PartitionState). record g { parts = parts })
    (put_changed raised_so g.parts dest (booted_part g.system dest) below
    ∙ changed_pass raised_so (λ q. dest == q) dest g.parts (grind (arith)) (λ k differs. grind (arith, nat_tests))
    ∙ each_alike (λ q ps. if dest == q then raised_so ps else ps) (λ q ps. hearing (view_of g.system q) (heard_as g.system.conf q (Signals p number)) ps) g.parts (λ q ps. heard q ps))
    ∙ ap (λ (contents : List Content). record g { parts = each (λ q ps. hearing (view_of g.system q) (heard_as g.system.conf q (Signals p number)) ps) g.parts; channels = contents })
    (each_same (after_traffic g.time (Signals p number)) g.channels (λ c content. refl))
  where
    raised_so : PartitionState → PartitionState
    raised_so ps = interrupted (Some (link_signal number)) ps

    by : (q : ℕ) (ps : PartitionState) (b : Bool) → (if b then raised_so ps else ps) ≡ hearing (view_of g.system q) (own_signals_at b number) ps
    by q ps true = refl
    by q ps false = refl

    heard : (q : ℕ) (ps : PartitionState) → (if dest == q then raised_so ps else ps) ≡ hearing (view_of g.system q) (heard_as g.system.conf q (Signals p number)) ps
    heard q ps = by q ps (dest == q) ∙ ap (λ o. hearing (view_of g.system q) (own_signals_at (is_number o q) number) ps) (sym is)

-- the interrupt of a kind of channel
of_sampling : (kind : ChanKind) → IsSampling kind → interrupt_of kind ≡ 3
of_sampling (chan_kind.Sampling refresh) is = refl
of_sampling (chan_kind.Queuing most) is = absurd is

of_queuing : (kind : ChanKind) → IsQueuing kind → interrupt_of kind ≡ 4
of_queuing (chan_kind.Sampling refresh) is = absurd is
of_queuing (chan_kind.Queuing most) is = refl

-- a channel of a kind brings its interrupt
brings_by : (P : ChanKind → Type 0) (n chan : ℕ) (conf : Conf) (shapes : List Shape) → ((kind : ChanKind) → P kind → interrupt_of kind ≡ n) → shapes ≡ shapes_of conf → IsSomeAnd (slice_get shapes chan) (λ shape. P shape.kind) → Brings conf chan n
unfolding shapes_of
brings_by P n chan conf shapes each shapes_is has =
    at (slice_get conf.chans chan) (subst (λ o. IsSomeAnd o (λ (shape : Shape). P shape.kind)) (ap (λ (s : List Shape). slice_get s chan) shapes_is ∙ slice_get-map shape_of conf.chans chan) has)
  where
    at : (o : Option Chan) → IsSomeAnd (option_map shape_of o) (λ shape. P shape.kind) → IsSomeAnd o (λ (the_chan : Chan). interrupt_of the_chan.kind ≡ n)
    at None is = absurd is
    at (Some the_chan) is = each the_chan.kind is

pub brings_sampling : (chan : ℕ) (conf : Conf) (table : ChannelTable) → table.shapes ≡ shapes_of conf → HasSampling chan table → Brings conf chan 3
brings_sampling chan conf table shapes has = brings_by IsSampling 3 chan conf table.shapes of_sampling shapes has

pub brings_queuing : (chan : ℕ) (conf : Conf) (table : ChannelTable) → table.shapes ≡ shapes_of conf → HasQueue chan table → Brings conf chan 4
brings_queuing chan conf table shapes has = brings_by IsQueuing 4 chan conf table.shapes of_queuing shapes has

-- the system after a message that is read from a partition's memory and put
pub put_read_done : (old mid new : SysState) (chan n : ℕ) (bytes : List ℕ) → mid ≡ with_table (with_content (put old.machine.time bytes) chan (table_in old)) old → Brings old.machine.system.conf chan n
    → new ≡ with_machine (notified chan n mid.machine) mid → new ≡ with_machine (with_traffic (Puts chan bytes) old.machine) old
put_read_done old mid new chan n bytes mid_is brings new_is =
    put_done old new (table_in old) (with_content (put old.machine.time bytes) chan (table_in old)) chan n bytes refl refl refl brings
    (new_is ∙ ap (λ (s : SysState). with_machine (notified chan n s.machine) s) mid_is)

-- the system after a message that is taken
pub take_done : (old new : SysState) (before after : ChannelTable) (chan : ℕ) → before.contents ≡ old.machine.channels → before.shapes ≡ old.shapes → after ≡ with_content first_taken chan before
    → new ≡ record { machine = record old.machine { channels = after.contents }; shapes = after.shapes } → new ≡ with_machine (with_traffic (Takes chan) old.machine) old
take_done old new before after chan contents shapes after_is new_is =
    new_is
    ∙ ap (λ (t : ChannelTable). record { machine = record old.machine { channels = t.contents }; shapes = t.shapes }) after_is
    ∙ ap (λ (held : List Content). record { machine = record old.machine { channels = changed first_taken chan held }; shapes = before.shapes }) contents
    ∙ ap (λ (s : List Shape). record { machine = record old.machine { channels = changed first_taken chan old.machine.channels }; shapes = s }) shapes
    ∙ ap (λ (g : Machine). with_machine g old) (take_trades old.machine chan)
