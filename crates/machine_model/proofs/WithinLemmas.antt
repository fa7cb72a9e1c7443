-- What a partition's work does beyond the partition is within what it has.
use Rattle.std.proofs.Common.{◌≡◌, ℕ, zero, suc, ◌+◌, Bool, true, false, List, [], ◌∷◌, length, Option, None, Some, Result, Ok, Err, inl, inr, refl, sym, ap, ◌∙◌, arith, subst}
use Rattle.std.specs.Prelude.{◌++◌, slice_get, slice_index_or, if◌then◌else◌, ◌==◌, ◌||◌, ◌≤◌, nat_lt, not, IsSome}
use Rattle.std.proofs.lemmas.Bool.Decides.{nat_tests}
use Rattle.guest_bus.specs.lemmas.MemoryLemmas.{length-bytes_at}
use Rattle.health_monitor.specs.Monitor.{action_in, effect_of, event_of_type}
use Rattle.sparc_step.specs.declared.outcome.Turn.{Turn}
use Rattle.sparc_step.specs.declared.outcome.Turn.TheVariants.{Went, Trap, Call}
use Rattle.virt_traps.specs.Delivery.{Delivered, Returned, delivered, returned}
use Rattle.virt_traps.specs.Moves.{move_made}
use Rattle.virt_traps.specs.Settled.{settled}
use Rattle.virt_traps.specs.Virtual.{due}
use Rattle.virt_traps.specs.declared.delivery.IretFault.{IretFault}
use Rattle.virt_traps.specs.declared.delivery.IretFault.TheVariants.{Stack, Unaligned}
use Rattle.virt_traps.specs.declared.windows.StackFault.{StackFault}
use Rattle.xm_base.specs.declared.partition.Order.{Order}
use Rattle.xm_base.specs.declared.partition.State.TheVariants.{Ready}
use Rattle.xm_conf.specs.Configuration.{Chan, Conf}
use Rattle.xm_conf.specs.View.{channel_of}
use Rattle.xm_conf.specs.declared.channel.ChanKind.{ChanKind}
use Rattle.xm_conf.specs.declared.health.Action.{Action}
use Rattle.xm_conf.specs.declared.health.Action.TheVariants as action
use Rattle.xm_conf.specs.declared.health.Event.{Event}
use Rattle.xm_conf.specs.declared.port.Kind.{Kind}
use Rattle.xm_conf.specs.declared.port.Kind.TheVariants as kind
use Rattle.xm_conf.specs.declared.port.Port.{Port}
use Rattle.xm_conf.specs.declared.port.Way.{Way}
use Rattle.xm_conf.specs.declared.port.Way.TheVariants as way
use Rattle.xm_ports.specs.Channels.{Content, HeldSample, IsMessage, Shape, first_message, sample_of}
use Rattle.xm_ports.specs.Ports.{created_over, are_same_kind, is_made}
use Rattle.xm_ports.specs.declared.ports.CreateFault.{CreateFault}
use Rattle.machine_model.specs.lemmas.ListLemmas.{table_at}
use Rattle.machine_model.specs.Caller.{Acts, Caller, Meets, Served, Test, Upshot, a_of, acting, b_of, caller_bytes, c_of, invalid_parameter, no_permission, not_allowed, not_available, refused_if, room, system_only, target, tested, text, with_written}
use Rattle.machine_model.specs.lemmas.CallLemmas.{every_effect}
use Rattle.machine_model.specs.Effects.{CallEffect, ChangesOwn, CreatesPort, DoesToAll, EntersTrace, GivesAnswer, GivesOrder, GoesBack, MeetsEvent, PrintsBytes, PutsBytes, RequestsPlan, SendsSignal, ShowsPort, ShowsSample, SpillsWindows, TakesMessage, UsesInput, comes_to, is_plan_missing, putting_bytes, queue_room, right_tests}
use Rattle.machine_model.specs.Health.{answered_by, by_interrupt, done_to_all, event_handled, interrupt_delivered, quiet, self_ordered, undelivered}
use Rattle.machine_model.specs.Hypercalls.{served}
use Rattle.machine_model.specs.Laws.{ActsWithinBounds}
use Rattle.machine_model.specs.OwnActs.{ActsWithinOwn, AsksWithin, ComesWithin, EffectsActWithinOwn, HasPortOn, HasPortRoom, IsPutting, IsWithinOwn}
use Rattle.machine_model.specs.Lists.{and_then, table}
use Rattle.machine_model.specs.LocalTick.{bounded, by_act, by_turn, by_upshot, called, clocked, delivered_or_executed, executed_in_tick, goes_on, has_name, local_tick, turned_state, with_interrupts, worked, worked_if}
use Rattle.machine_model.specs.Partition.{PartitionState, areas_of}
use Rattle.machine_model.specs.PortEffects.{MadePort, by_created, creating, destination_only, first_read, held_read, is_full, is_source, made_port, on_port, shape_at, size_fits, source_only, with_channel, port_with_content}
use Rattle.machine_model.specs.OwnEffects.{by_flush, by_return, flushed, input_read}
use Rattle.machine_model.specs.Emission as emission
use Rattle.machine_model.specs.Emission.{Act, OwnPuts, OwnSignals, OwnStill, OwnTakes, Sight}
use Rattle.machine_model.specs.View.{PartitionView, PortChannel, System, has_number, name_of, part_of, port_channel, view_of, with_its_name, with_name}
use Rattle.machine_model.specs.lemmas.NameLemmas.{name_is, of_name_below, same_number}

-- a name in a list of channels is that of the channel there
abbrev pub IsName : List (Option PortChannel) → ℕ → Type 0
IsName channels name = has_name (slice_index_or channels name None) name ≡ true

abbrev pub HasName : List (Option PortChannel) → Option PortChannel → Type 0
HasName channels None = Unit {0}
HasName channels (Some channel) = IsName channels channel.name

-- each channel in it has such a name
abbrev pub AreNames : List (Option PortChannel) → Type 0
AreNames channels = (r : ℕ) → HasName channels (slice_index_or channels r None)

-- a table of options, read with none after its end
table_has : {Y : Type 0} (P : Option Y → Type 0) (f : ℕ → Option Y) (n r : ℕ) → P None → ((k : ℕ) → P (f k)) → P (slice_index_or (table f n) r None)
table_has P f zero r none each = none
table_has P f (suc n) zero none each = each 0
table_has P f (suc n) (suc r) none each = table_has P (λ k. f (suc k)) n r none (λ k. each (suc k))

-- the channels of a partition of a system have such names
its_channel : (conf : Conf) (p c q : ℕ) (chan : Chan) → slice_get conf.chans c ≡ Some chan → name_of conf p c ≡ Some q → has_name (port_channel conf p q) q ≡ true
unfolding port_channel
its_channel conf p c q chan there is =
    ap (λ o. has_name (with_its_name conf p o) q) (name_is conf p c q is)
    ∙ ap (λ o. has_name (with_name o (name_of conf p c)) q) there
    ∙ ap (λ o. has_name (with_name (Some chan) o) q) is
    ∙ same_number q

named_by : (conf : Conf) (p c : ℕ) (chan : Option Chan) (name : Option ℕ) → slice_get conf.chans c ≡ chan → name_of conf p c ≡ name
    → HasName (table (port_channel conf p) (length (part_of conf p).ports)) (with_name chan name)
named_by conf p c None name there is = tt
named_by conf p c (Some chan) None there is = tt
named_by conf p c (Some chan) (Some q) there is =
    ap (λ o. has_name o q) (table_at (port_channel conf p) (length (part_of conf p).ports) q (of_name_below conf p c q is))
    ∙ its_channel conf p c q chan there is

named_at : (conf : Conf) (p : ℕ) (o : Option ℕ) → HasName (table (port_channel conf p) (length (part_of conf p).ports)) (with_its_name conf p o)
named_at conf p None = tt
named_at conf p (Some c) = named_by conf p c (slice_get conf.chans c) (name_of conf p c) refl refl

each_named : (conf : Conf) (p r : ℕ) → HasName (table (port_channel conf p) (length (part_of conf p).ports)) (port_channel conf p r)
unfolding port_channel
each_named conf p r = named_at conf p (channel_of conf p r)

pub are_names : (system : System) (p : ℕ) → AreNames (view_of system p).channels
unfolding view_of
are_names system p r =
    let channels : List (Option PortChannel) = table (port_channel system.conf p) (length (part_of system.conf p).ports) in
    table_has (HasName channels) (port_channel system.conf p) (length (part_of system.conf p).ports) r tt (each_named system.conf p)

-- two kinds that are one have the same room
same_room : (one other : Kind) (of : ChanKind) (content : Content) → are_same_kind one other ≡ true → HasPortRoom other of content → HasPortRoom one of content
same_room kind.Sampling kind.Sampling of content is has_room = tt
same_room kind.Sampling kind.Queuing of content is has_room = tt
same_room kind.Queuing kind.Sampling of content is has_room = absurd cc
same_room kind.Queuing kind.Queuing of content is has_room = has_room

-- a queue that is not full has room
not_full : (port : MadePort) → is_full port ≡ false → HasPortRoom kind.Queuing port.shape.kind port.content
not_full port free = grind (arith, nat_tests)

-- a call that is refused acts on nothing
tested_within : (view : PartitionView) (contents : List (Option Content)) (tests : List Test) (caller : Caller) (comes : Served) → ComesWithin view contents comes.upshot → ComesWithin view contents (tested tests caller comes).upshot
tested_within view contents [] caller comes within = within
tested_within view contents (Some code ∷ tests) caller comes within = tt
tested_within view contents (None ∷ tests) caller comes within = tested_within view contents tests caller comes within

-- a made port that a call names: the partition's port and its channel, and what the channel holds
record IsMadePort (caller : Caller) (the_kind : Kind) (made : MadePort) : Type 0 where
  port : Port
  port_there : slice_get caller.view.part.ports (a_of caller) ≡ Some port
  way_is : port.way ≡ made.way
  kind_is : are_same_kind port.kind the_kind ≡ true
  channel : PortChannel
  channel_there : slice_index_or caller.view.channels (a_of caller) None ≡ Some channel
  shape_is : made.shape ≡ channel.shape
  name_is : channel.name ≡ made.name
  held : slice_index_or caller.contents made.name None ≡ Some made.content

abbrev IsPort : Caller → Kind → Option MadePort → Type 0
IsPort caller the_kind None = Unit {0}
IsPort caller the_kind (Some made) = IsMadePort caller the_kind made

content_port : (caller : Caller) (the_kind : Kind) (port : Port) (channel : PortChannel) (o : Option Content) → slice_get caller.view.part.ports (a_of caller) ≡ Some port
    → are_same_kind port.kind the_kind ≡ true → slice_index_or caller.view.channels (a_of caller) None ≡ Some channel
    → slice_index_or caller.contents channel.name None ≡ o → IsPort caller the_kind (port_with_content port channel o)
content_port caller the_kind port channel None port_there kind_is channel_there held = tt
content_port caller the_kind port channel (Some content) port_there kind_is channel_there held = record {
  port = port;
  port_there = port_there;
  way_is = refl;
  kind_is = kind_is;
  channel = channel;
  channel_there = channel_there;
  shape_is = refl;
  name_is = refl;
  held = held;
}

channel_port : (caller : Caller) (the_kind : Kind) (port : Port) (o : Option PortChannel) → slice_get caller.view.part.ports (a_of caller) ≡ Some port
    → slice_index_or caller.view.channels (a_of caller) None ≡ o → IsPort caller the_kind (with_channel caller the_kind port o)
channel_port caller the_kind port None port_there channel_there = tt
channel_port caller the_kind port (Some channel) port_there channel_there = at (are_same_kind port.kind the_kind) refl
  where
    at : (b : Bool) → are_same_kind port.kind the_kind ≡ b → IsPort caller the_kind (if b then port_with_content port channel (slice_index_or caller.contents channel.name None) else None)
    at true kind_is = content_port caller the_kind port channel (slice_index_or caller.contents channel.name None) port_there kind_is channel_there refl
    at false kind_is = tt

made_port_is : (the_kind : Kind) (caller : Caller) → IsPort caller the_kind (made_port the_kind caller)
unfolding made_port
made_port_is the_kind caller = at (is_made (a_of caller) caller.state.made)
  where
    by : (o : Option Port) → slice_get caller.view.part.ports (a_of caller) ≡ o
        → IsPort caller the_kind (and_then o (λ port. with_channel caller the_kind port (slice_index_or caller.view.channels (a_of caller) None)))
    by None there = tt
    by (Some port) there = channel_port caller the_kind port (slice_index_or caller.view.channels (a_of caller) None) there refl

    at : (b : Bool) → IsPort caller the_kind (if b then and_then (slice_get caller.view.part.ports (a_of caller)) (λ port. with_channel caller the_kind port (slice_index_or caller.view.channels (a_of caller) None)) else None)
    at true = by (slice_get caller.view.part.ports (a_of caller)) refl
    at false = tt

on_port_within : (view : PartitionView) (contents : List (Option Content)) (the_kind : Kind) (o : Option MadePort) (caller : Caller) (call : MadePort → Served) → IsPort caller the_kind o
    → ((port : MadePort) → IsMadePort caller the_kind port → ComesWithin view contents (call port).upshot) → ComesWithin view contents (on_port o caller call).upshot
on_port_within view contents the_kind None caller call is within = tt
on_port_within view contents the_kind (Some port) caller call is within = within port is

-- what the tests of a call say that are passed
source_is : (a : Way) → refused_if (not (is_source a)) not_allowed ≡ None → a ≡ way.Source
source_is way.Source passed = refl
source_is way.Destination passed = absurd cc

destination_is : (a : Way) → refused_if (is_source a) not_allowed ≡ None → a ≡ way.Destination
destination_is way.Source passed = absurd cc
destination_is way.Destination passed = refl

is_queuing : (one : Kind) → are_same_kind one kind.Queuing ≡ true → one ≡ kind.Queuing
is_queuing kind.Sampling is = absurd cc
is_queuing kind.Queuing is = refl

size_is : (port : MadePort) (size : ℕ) → size_fits port size ≡ None → (1 ≤ size) × (size ≤ port.shape.length)
size_is port size fits = at (size == 0) (nat_lt port.shape.length size) refl refl fits
  where
    at : (a b : Bool) → (size == 0) ≡ a → nat_lt port.shape.length size ≡ b → refused_if (a || b) invalid_parameter ≡ None → (1 ≤ size) × (size ≤ port.shape.length)
    at true b zero_is more said = absurd cc
    at false true zero_is more said = absurd cc
    at false false zero_is more said = (grind (arith, nat_tests), grind (arith, nat_tests))

-- the port of a call, by its name for the channel
abbrev port_on : (caller : Caller) (the_kind : Kind) (the_way : Way) (made : MadePort) → IsMadePort caller the_kind made → made.way ≡ the_way → HasPortOn caller.view the_way made.name
port_on caller the_kind the_way made is way_is = record {
  number = a_of caller;
  port = is.port;
  port_there = is.port_there;
  way_is = is.way_is ∙ way_is;
  channel = is.channel;
  channel_there = is.channel_there;
  name_is = is.name_is;
}

-- a message of this many bytes at an address that fits its source port, and for a queue one that has room, is put so
putting_within : (the_kind : Kind) (address size : ℕ) (caller : Caller) (made : MadePort) → IsMadePort caller the_kind made → source_only made ≡ None → size_fits made size ≡ None
    → HasPortRoom the_kind made.shape.kind made.content → IsPutting caller.view caller.contents made.name (caller_bytes caller address size)
putting_within the_kind address size caller made is passed fits has_room =
    let within = size_is made size fits in
    let long : length (caller_bytes caller address size) ≡ size = length-bytes_at caller.state.memory address size in
    record {
      on = port_on caller the_kind way.Source made is (source_is made.way passed);
      content = made.content;
      held = is.held;
      message = subst (λ (shape : Shape). IsMessage shape.length (caller_bytes caller address size)) is.shape_is
          (record { some = subst (λ (n : ℕ). 1 ≤ n) (sym long) within.0; fit = subst (λ (n : ℕ). n ≤ made.shape.length) (sym long) within.1 });
      room = subst (λ (shape : Shape). HasPortRoom is.port.kind shape.kind made.content) is.shape_is (same_room is.port.kind the_kind made.shape.kind made.content is.kind_is has_room);
    }

-- the tests of a call that puts a message
put_tests : (view : PartitionView) (contents : List (Option Content)) (one size range : Test) (more : List Test) (caller : Caller) (comes : Served)
    → (one ≡ None → size ≡ None → ComesWithin view contents (tested more caller comes).upshot) → ComesWithin view contents (tested (one ∷ size ∷ range ∷ more) caller comes).upshot
put_tests view contents (Some code) size range more caller comes within = tt
put_tests view contents None (Some code) range more caller comes within = tt
put_tests view contents None None (Some code) more caller comes within = tt
put_tests view contents None None None more caller comes within = within refl refl

-- the test of a call that takes one
take_test : (view : PartitionView) (contents : List (Option Content)) (one : Test) (caller : Caller) (comes : Served) → (one ≡ None → ComesWithin view contents comes.upshot)
    → ComesWithin view contents (tested (one ∷ []) caller comes).upshot
take_test view contents (Some code) caller comes within = tt
take_test view contents None caller comes within = within refl

-- only a system partition passes a test for system partitions
system_test : (tests : List Test) (caller : Caller) (comes : Served) → (caller.view.part.system ≡ true → ComesWithin caller.view caller.contents (tested tests caller comes).upshot)
    → ComesWithin caller.view caller.contents (tested (system_only caller ∷ tests) caller comes).upshot
system_test tests caller comes within = at caller.view.part.system refl
  where
    at : (b : Bool) → caller.view.part.system ≡ b → ComesWithin caller.view caller.contents (tested (refused_if (not b) no_permission ∷ tests) caller comes).upshot
    at true is = within is
    at false is = tt

-- and only a system partition orders another one
order_within : (id : ℕ) (order : Order) (tests : List Test) (caller : Caller)
    → ComesWithin caller.view caller.contents (tested (target caller id ∷ tests) caller (comes_to (GivesOrder id order) caller)).upshot
order_within id order tests caller = at (id == caller.view.id) caller.view.part.system (nat_lt id caller.view.sees.parts) refl refl
  where
    passed : ((id == caller.view.id) ≡ false → caller.view.part.system ≡ true) → ComesWithin caller.view caller.contents (tested tests caller (comes_to (GivesOrder id order) caller)).upshot
    passed may = tested_within caller.view caller.contents tests caller (comes_to (GivesOrder id order) caller) may

    at : (own system there : Bool) → (id == caller.view.id) ≡ own → caller.view.part.system ≡ system
        → ComesWithin caller.view caller.contents (tested ((if own then None else if not system then Some no_permission else refused_if (not there) invalid_parameter) ∷ tests) caller (comes_to (GivesOrder id order) caller)).upshot
    at true system there its is = passed (λ other. absurd cc)
    at false true true its is = passed (λ other. is)
    at false true false its is = tt
    at false false there its is = tt

-- a signal goes over a link that is there
signal_within : (has : Bool) (tests : List Test) (number : ℕ) (caller : Caller) → has_number caller.view.links number ≡ has
    → ComesWithin caller.view caller.contents (tested (refused_if (not has) invalid_parameter ∷ tests) caller (comes_to (SendsSignal number) caller)).upshot
signal_within true tests number caller is = tested_within caller.view caller.contents tests caller (comes_to (SendsSignal number) caller) is
signal_within false tests number caller is = tt

-- the test of a call that asks for a plan
plan_test : (b : Bool) (tests : List Test) (caller : Caller) (comes : Served) → (b ≡ false → ComesWithin caller.view caller.contents comes.upshot)
    → ComesWithin caller.view caller.contents (tested (refused_if b invalid_parameter ∷ tests) caller comes).upshot
plan_test true tests caller comes within = tt
plan_test false tests caller comes within = tested_within caller.view caller.contents tests caller comes (within refl)

is_plan : (none there : Bool) → (none || not there) ≡ false → there ≡ true
is_plan true there is = absurd cc
is_plan false true is = refl
is_plan false false is = absurd cc

full_test : (view : PartitionView) (contents : List (Option Content)) (full : Bool) (code : ℕ) (caller : Caller) (comes : Served)
    → (full ≡ false → ComesWithin view contents comes.upshot) → ComesWithin view contents (tested (refused_if full code ∷ []) caller comes).upshot
full_test view contents true code caller comes within = tt
full_test view contents false code caller comes within = within refl

-- a message is put through a source port of its kind, where there is room
put_within : (the_kind : Kind) (address size : ℕ) (caller : Caller) → ComesWithin caller.view caller.contents (comes_to (PutsBytes the_kind address size) caller).upshot
put_within the_kind address size caller = on_port_within caller.view caller.contents the_kind (made_port the_kind caller) caller _ (made_port_is the_kind caller) (by the_kind)
  where
    by : (k : Kind) (made : MadePort) → IsMadePort caller k made
        → ComesWithin caller.view caller.contents (tested (source_only made ∷ size_fits made size ∷ text caller address size ∷ queue_room k made) caller (putting_bytes address size caller made)).upshot
    by kind.Sampling made is = put_tests caller.view caller.contents (source_only made) (size_fits made size) (text caller address size) [] caller _
        (λ passed fits. putting_within kind.Sampling address size caller made is passed fits tt)
    by kind.Queuing made is = put_tests caller.view caller.contents (source_only made) (size_fits made size) (text caller address size) _ caller _
        (λ passed fits. full_test caller.view caller.contents (is_full made) not_available caller _ (λ free. putting_within kind.Queuing address size caller made is passed fits (not_full made free)))

created_within : (view : PartitionView) (contents : List (Option Content)) (r : Result ℕ CreateFault) (caller : Caller) → ComesWithin view contents (by_created r caller).upshot
created_within view contents (Ok r) caller = tt
created_within view contents (Err fault) caller = tt

creating_within : (view : PartitionView) (contents : List (Option Content)) (the_kind : Kind) (way size most : ℕ) (name : Option (List ℕ)) (caller : Caller) → ComesWithin view contents (creating the_kind way size most name caller).upshot
creating_within view contents the_kind way size most None caller = tt
creating_within view contents the_kind way size most (Some name) caller =
    created_within view contents (created_over caller.view.part.ports (shape_at caller.view) name the_kind way size most caller.state.made) caller

held_within : (view : PartitionView) (contents : List (Option Content)) (o : Option HeldSample) (caller : Caller) (port : MadePort) → ComesWithin view contents (held_read o caller port).upshot
held_within view contents None caller port = tt
held_within view contents (Some sample) caller port = grind (arith)

first_within : (o : Option (List ℕ)) (caller : Caller) (port : MadePort) → IsMadePort caller kind.Queuing port → destination_only port ≡ None → first_message port.content ≡ o
    → ComesWithin caller.view caller.contents (first_read o caller port).upshot
first_within None caller port is passed found = tt
first_within (Some message) caller port is passed found =
    tested_within caller.view caller.contents (refused_if (nat_lt (c_of caller) (length message)) invalid_parameter ∷ room caller (b_of caller) (length message) ∷ []) caller
    (acting (emission.Trades (OwnTakes port.name)) (length message) (with_written (b_of caller) message caller.state))
    (record {
      on = port_on caller kind.Queuing way.Destination port is (destination_is port.way passed);
      kind_is = is_queuing is.port.kind is.kind_is;
      content = port.content;
      held = is.held;
      waits = subst IsSome (sym found) refl;
    })

input_within : (view : PartitionView) (contents : List (Option Content)) (inputs : List ℕ) (caller : Caller) → ComesWithin view contents (input_read inputs caller).upshot
input_within view contents [] caller = tt
input_within view contents (next ∷ rest) caller = grind (arith)

return_within : (view : PartitionView) (contents : List (Option Content)) (answer : Result (Unit {0}) IretFault) (r : Returned) (caller : Caller) → ComesWithin view contents (by_return answer r caller).upshot
return_within view contents (Ok left) r caller = tt
return_within view contents (Err Unaligned) r caller = tt
return_within view contents (Err Stack) r caller = tt

flush_within : (view : PartitionView) (contents : List (Option Content)) (answer : Result (Unit {0}) StackFault) (ps : PartitionState) (caller : Caller) → ComesWithin view contents (by_flush answer ps caller).upshot
flush_within view contents (Ok all) ps caller = tt
flush_within view contents (Err fault) ps caller = tt

-- the outcome of an effect is within what its caller has, whatever tests its call has
asked_within : (effect : CallEffect) (tests : List Test) (caller : Caller) → ComesWithin caller.view caller.contents (tested (right_tests effect caller ++ tests) caller (comes_to effect caller)).upshot
asked_within (GivesAnswer value writings) tests caller = tested_within caller.view caller.contents tests caller _ tt
asked_within (PrintsBytes bytes value) tests caller = tested_within caller.view caller.contents tests caller _ tt
asked_within (GivesOrder id order) tests caller = order_within id order tests caller
asked_within (DoesToAll event) tests caller = system_test tests caller _ (λ system. tested_within caller.view caller.contents tests caller _ (inl system))
asked_within (RequestsPlan plan writings) tests caller =
    system_test _ caller _ (λ system. plan_test (is_plan_missing plan caller) tests caller _ (λ passed. (is_plan (plan == 0) (nat_lt plan caller.view.sees.plans) passed, system)))
asked_within (PutsBytes the_kind address size) tests caller = tested_within caller.view caller.contents tests caller _ (put_within the_kind address size caller)
asked_within TakesMessage tests caller = tested_within caller.view caller.contents tests caller _
    (on_port_within caller.view caller.contents kind.Queuing (made_port kind.Queuing caller) caller _ (made_port_is kind.Queuing caller) (λ port is.
    take_test caller.view caller.contents (destination_only port) caller _ (λ passed. first_within (first_message port.content) caller port is passed refl)))
asked_within (SendsSignal number) tests caller = signal_within (has_number caller.view.links number) tests number caller refl
asked_within ShowsSample tests caller = tested_within caller.view caller.contents tests caller _
    (on_port_within caller.view caller.contents kind.Sampling (made_port kind.Sampling caller) caller _ (made_port_is kind.Sampling caller) (λ port is.
    tested_within caller.view caller.contents (destination_only port ∷ []) caller _ (held_within caller.view caller.contents (sample_of port.content) caller port)))
asked_within (ShowsPort the_kind size status) tests caller = tested_within caller.view caller.contents tests caller _
    (on_port_within caller.view caller.contents the_kind (made_port the_kind caller) caller _ (made_port_is the_kind caller) (λ port is. tested_within caller.view caller.contents (room caller (b_of caller) size ∷ []) caller _ tt))
asked_within (CreatesPort the_kind way size most name) tests caller = tested_within caller.view caller.contents tests caller _ (creating_within caller.view caller.contents the_kind way size most name caller)
asked_within (ChangesOwn change) tests caller = tested_within caller.view caller.contents tests caller _ tt
asked_within EntersTrace tests caller = tested_within caller.view caller.contents tests caller _ tt
asked_within UsesInput tests caller = tested_within caller.view caller.contents tests caller _ (input_within caller.view caller.contents caller.state.inputs caller)
asked_within (MeetsEvent event word) tests caller = tested_within caller.view caller.contents tests caller _ tt
asked_within GoesBack tests caller =
    let r = returned (areas_of caller.view) caller.state.traps caller.state.core caller.state.memory in
    tested_within caller.view caller.contents tests caller _ (return_within caller.view caller.contents r.answer r caller)
asked_within SpillsWindows tests caller =
    let moved = flushed 8 (areas_of caller.view) (move_made caller.state.core caller.state.memory) in
    tested_within caller.view caller.contents tests caller _ (flush_within caller.view caller.contents moved.answer (record caller.state { core = moved.core; memory = moved.memory }) caller)

pub effects_act_within_own : EffectsActWithinOwn
effects_act_within_own asked caller = asked_within asked.effect asked.tests caller

-- so the outcome of any call is within what its caller has
record Stays (view : PartitionView) (contents : List (Option Content)) (comes : Served) : Type 0 where
  within : ComesWithin view contents comes.upshot

served_stays : (caller : Caller) → Stays caller.view caller.contents (served caller)
served_stays caller = every_effect caller (Stays caller.view caller.contents) (λ asked. record { within = effects_act_within_own asked caller }) (record { within = tt })

-- what a call does beyond its partition is within what the partition has
act_within : (view : PartitionView) (contents : List (Option Content)) (act : Act) (ps : PartitionState) → AsksWithin view contents act → IsWithinOwn view contents (by_act act view ps).act
unfolding self_ordered
act_within view contents emission.Nothing ps within = tt
act_within view contents (emission.Trades traffic) ps within = within
act_within view contents (emission.Upon id order) ps within = at (id == view.id) refl
  where
    at : (b : Bool) → (id == view.id) ≡ b → IsWithinOwn view contents (if b then self_ordered view order ps else record (quiet ps) { act = emission.Upon id order }).act
    at true same = tt
    at false other = (other, within other)
act_within view contents (emission.Plans change) ps within = within
act_within view contents (emission.UponAll event) ps within = within

effect_within : (view : PartitionView) (contents : List (Option Content)) (event : Event) (an_action : Action) (enabled : Bool) → action_in view.part.hm event ≡ an_action → IsWithinOwn view contents (done_to_all (effect_of an_action enabled).whole)
unfolding effect_of
effect_within view contents event action.Ignore enabled is = tt
effect_within view contents event action.Shutdown enabled is = tt
effect_within view contents event action.PartitionColdReset enabled is = tt
effect_within view contents event action.PartitionWarmReset enabled is = tt
effect_within view contents event action.Suspend enabled is = tt
effect_within view contents event action.Halt enabled is = tt
effect_within view contents event action.Propagate true is = tt
effect_within view contents event action.Propagate false is = tt
effect_within view contents event action.HypervisorColdReset enabled is = inr (record { event = event; enabled = enabled; is = ap (λ an_action. done_to_all (effect_of an_action enabled).whole) is })
effect_within view contents event action.HypervisorWarmReset enabled is = inr (record { event = event; enabled = enabled; is = ap (λ an_action. done_to_all (effect_of an_action enabled).whole) is })
effect_within view contents event action.HypervisorHalt enabled is = inr (record { event = event; enabled = enabled; is = ap (λ an_action. done_to_all (effect_of an_action enabled).whole) is })
effect_within view contents event action.SwitchToMaintenance enabled is = record { event = event; is = is }

event_within : (view : PartitionView) (contents : List (Option Content)) (time : ℕ) (event : Event) (word : ℕ) (type : Option ℕ) (ps : PartitionState) → IsWithinOwn view contents (event_handled view time event word type ps).act
unfolding answered_by event_handled
event_within view contents time event word type ps = effect_within view contents event (action_in view.part.hm event) ps.traps.enabled refl

upshot_within : (upshot : Upshot) (view : PartitionView) (contents : List (Option Content)) (time : ℕ) (ps : PartitionState) → ComesWithin view contents upshot → IsWithinOwn view contents (by_upshot upshot view time ps).act
upshot_within (Acts act) view contents time ps within = act_within view contents act ps within
upshot_within (Meets event word) view contents time ps within = event_within view contents time event word None ps

called_within : (caller : Caller) → IsWithinOwn caller.view caller.contents (called caller).act
unfolding called
called_within caller = upshot_within (served caller).upshot caller.view caller.contents caller.time (clocked (served caller).after) (served_stays caller).within

turn_within : (turn : Turn) (view : PartitionView) (contents : List (Option Content)) (time : ℕ) (sight : Sight) (before ps : PartitionState)
    → IsWithinOwn view contents (by_turn turn view contents time sight before ps).act
turn_within Went view contents time sight before ps = tt
turn_within (Trap type) view contents time sight before ps = event_within view contents time (event_of_type type) before.core.pc (Some type) (clocked ps)
turn_within Call view contents time sight before ps =
    called_within (record { view = view; state = ps; contents = contents; time = time; sight = sight; pc = before.core.pc; npc = before.core.npc })

interrupt_within : (view : PartitionView) (contents : List (Option Content)) (answer : Result (Unit {0}) StackFault) (time n : ℕ) (d : Delivered) (ps : PartitionState) → IsWithinOwn view contents (by_interrupt answer view time n d ps).act
unfolding undelivered
interrupt_within view contents (Ok made) time n d ps = tt
interrupt_within view contents (Err fault) time n d ps = tt

executed_within : (view : PartitionView) (contents : List (Option Content)) (time : ℕ) (sight : Sight) (ps : PartitionState)
    → IsWithinOwn view contents (executed_in_tick view contents time sight ps).act
unfolding executed_in_tick
executed_within view contents time sight ps =
    let t = settled (areas_of view) ps.core ps.memory in
    turn_within t.turn view contents time sight ps (turned_state t ps)

delivered_within : (o : Option ℕ) (enabled : Bool) (view : PartitionView) (contents : List (Option Content)) (time : ℕ) (sight : Sight) (ps : PartitionState)
    → IsWithinOwn view contents (delivered_or_executed o enabled view contents time sight ps).act
unfolding interrupt_delivered
delivered_within None enabled view contents time sight ps = executed_within view contents time sight ps
delivered_within (Some n) true view contents time sight ps =
    let d = delivered (areas_of view) (clocked ps).traps (clocked ps).core (clocked ps).memory (0xE0 + n) in
    interrupt_within view contents d.answer time n d (clocked ps)
delivered_within (Some n) false view contents time sight ps = executed_within view contents time sight ps

going_within : (b : Bool) (view : PartitionView) (contents : List (Option Content)) (time : ℕ) (sight : Sight) (ps : PartitionState)
    → IsWithinOwn view contents (worked_if b view contents time sight ps).act
going_within false view contents time sight ps = tt
going_within true view contents time sight ps =
    delivered_within (due ps.traps) ps.traps.enabled view contents time sight (record ps { state = Ready })

work_within : (view : PartitionView) (contents : List (Option Content)) (time : ℕ) (first : Bool) (sight : Sight) (ps : PartitionState)
    → IsWithinOwn view contents (worked view contents time first sight ps).act
unfolding worked
work_within view contents time first sight ps =
    let ready = with_interrupts time first ps in
    going_within (goes_on ready.state first (due ready.traps)) view contents time sight ready

pub acts_within_own : ActsWithinOwn
acts_within_own view contents time first seen ps = work_within view contents time first seen ps

-- a port's channel has such a name
pub named_so : (view : PartitionView) (the_way : Way) (name : ℕ) → AreNames view.channels → HasPortOn view the_way name → IsName view.channels name
named_so view the_way name names on = subst (IsName view.channels) on.name_is (subst (HasName view.channels) on.channel_there (names on.number))

-- and so it is as it is bounded
act_bounded : (view : PartitionView) (contents : List (Option Content)) (act : Act) → AreNames view.channels → IsWithinOwn view contents act → bounded view act ≡ act
act_bounded view contents emission.Nothing names within = refl
act_bounded view contents (emission.Trades OwnStill) names within = refl
act_bounded view contents (emission.Trades (OwnPuts name bytes)) names within = ap (λ b. if b then emission.Trades (OwnPuts name bytes) else emission.Nothing) (named_so view way.Source name names within.on)
act_bounded view contents (emission.Trades (OwnTakes name)) names within = ap (λ b. if b then emission.Trades (OwnTakes name) else emission.Nothing) (named_so view way.Destination name names within.on)
act_bounded view contents (emission.Trades (OwnSignals number)) names within = ap (λ b. if b then emission.Trades (OwnSignals number) else emission.Nothing) within
act_bounded view contents (emission.Upon id order) names within = ap (λ b. if b then emission.Nothing else emission.Upon id order) within.0
act_bounded view contents (emission.Plans change) names within = refl
act_bounded view contents (emission.UponAll event) names within = refl

pub acts_within_bounds : ActsWithinBounds
unfolding local_tick
acts_within_bounds system p ps contents n time first seen =
    act_bounded (view_of system p) contents (worked (view_of system p) contents time first seen ps).act (are_names system p) (work_within (view_of system p) contents time first seen ps)

-- the act of a local tick of a system's partition is within what the partition has
pub local_within : (system : System) (p : ℕ) (ps : PartitionState) (contents : List (Option Content)) (n time : ℕ) (first : Bool) (seen : Sight)
    → IsWithinOwn (view_of system p) contents (local_tick (view_of system p) ps contents n time first seen).act
local_within system p ps contents n time first seen =
    subst (IsWithinOwn (view_of system p) contents) (sym (acts_within_bounds system p ps contents n time first seen)) (work_within (view_of system p) contents time first seen ps)
