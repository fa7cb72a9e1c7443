-- The outcome of the calls on messages, by their tests.
use Rattle.std.proofs.Common.{◌≡◌, ℕ, ◌<◌, ◌≤◌, Bool, true, false, List, [], ◌∷◌, None, Some, refl, sym, ap, ◌∙◌, arith, subst}
use Rattle.std.specs.Prelude.{◌==◌, ◌||◌, not, length, nat_le, nat_lt, Option, IsSomeAnd, slice_get}
use Rattle.std.proofs.lemmas.Bool.Decides.{nat_tests}
use Rattle.std.proofs.lemmas.Option.{get_or_from_slice_get, same_Some, slice_get_within}
use Rattle.std.proofs.lemmas.List.{get_or-set_same, length-set}
use Rattle.guest_bus.specs.Memory.{Area, Memory, all_from, bytes_at, is_readable}
use Rattle.guest_bus.specs.lemmas.MemoryLemmas.{length-bytes_at}
use Rattle.machine_model.specs.Caller.{Caller, Served, Test, answering, b_of, caller_bytes, c_of, invalid_parameter, not_allowed, not_available, refused_if, tested, text, with_answer}
use Rattle.machine_model.specs.Partition.{PartitionState, areas_of}
use Rattle.machine_model.specs.PortEffects.{MadePort, is_full, is_source, made_port, on_port, size_fits, source_only}
use Rattle.machine_model.specs.lemmas.PortCallsTerms.{putting}
use Rattle.machine_model.specs.Emission.{Unseen}
use Rattle.machine_model.specs.Traffic.{Puts, puts_at}
use Rattle.machine_model.specs.View.{named, view_of}
use Rattle.span_model.specs.Passes.{with_traffic}
use Rattle.xm_conf.specs.declared.port.Kind.{Kind}
use Rattle.xm_conf.specs.declared.port.Kind.TheVariants as kind
use Rattle.xm_conf.specs.declared.channel.ChanKind.{ChanKind}
use Rattle.xm_conf.specs.declared.channel.ChanKind.TheVariants as chan_kind
use Rattle.xm_ports.specs.Channels.{ChannelTable, IsMessage, IsQueuing, IsSampling, IsTable, Shape, content_at, messages_of, most_of}
use Rattle.port_calls.specs.lemmas.MadePortsTerms.{IsMade, port_in}
use Rattle.port_calls.specs.MadePorts.{table_in}
use Rattle.port_calls.specs.lemmas.Messages.{HasRoomFor, first_refusal, put_tests}
use Rattle.port_calls.specs.lemmas.OnPortsTerms.{done_on, is_filled, tests_on}
use Rattle.port_calls.specs.declared.on_ports.PortWork.TheVariants as work
use Rattle.system_state.specs.Serving.{IsServed, MayRead, caller_of}
use Rattle.system_state.specs.State.{SysState, areas_in, memory_of, part_at, with_machine, with_part}
use Rattle.system_state.specs.lemmas.ServedLemmas.{areas_seen}
use Rattle.system_state.specs.declared.call_site.CallSite.{CallSite}
use Rattle.port_calls.specs.declared.made_ports.MadePort as found
use Rattle.system_state.specs.declared.served.Act.TheVariants as act
use Rattle.system_state.specs.declared.served.Note.TheVariants as note

-- tests of which one refuses
pub tested_refused : (tests : List Test) (caller : Caller) (served : Served) (code : ℕ) → Some code ≡ first_refusal tests → tested tests caller served ≡ answering code caller.state
tested_refused [] caller served code is = absurd cc
tested_refused (Some first ∷ tests) caller served code is = ap (λ n. answering n caller.state) (sym (same_Some code first is))
tested_refused (None ∷ tests) caller served code is = tested_refused tests caller served code is

-- tests of which none does
pub tested_passed : (tests : List Test) (caller : Caller) (served : Served) → None ≡ first_refusal tests → tested tests caller served ≡ served
tested_passed [] caller served is = refl
tested_passed (Some first ∷ tests) caller served is = absurd cc
tested_passed (None ∷ tests) caller served is = tested_passed tests caller served is

-- a call on a port that is not made
pub on_unmade : (the_kind : Kind) (caller : Caller) (call : MadePort → Served) → None ≡ made_port the_kind caller → on_port (made_port the_kind caller) caller call ≡ answering invalid_parameter caller.state
on_unmade the_kind caller call is = ap (λ o. on_port o caller call) (sym is)

-- a call on a port that is made
pub on_made : (the_kind : Kind) (caller : Caller) (port : MadePort) (call : MadePort → Served) → Some port ≡ made_port the_kind caller → on_port (made_port the_kind caller) caller call ≡ call port
on_made the_kind caller port call is = ap (λ o. on_port o caller call) (sym is)

-- a test that does not refuse
not_refused : (b : Bool) (n : ℕ) (tests : List Test) → None ≡ first_refusal (refused_if b n ∷ tests) → b ≡ false
not_refused true n tests is = absurd cc
not_refused false n tests is = refl

next_tests : (b : Bool) (n : ℕ) (tests : List Test) → None ≡ first_refusal (refused_if b n ∷ tests) → None ≡ first_refusal tests
next_tests true n tests is = absurd cc
next_tests false n tests is = is

-- what the tests on a message that is put leave
pub record MayPut (caller : Caller) (port : MadePort) : Type 0 where
  pub some : 1 ≤ c_of caller
  pub fit : c_of caller ≤ port.shape.length
  pub readable : MayRead caller (b_of caller) (c_of caller)

pub either_false : (a b : Bool) → (a || b) ≡ false → (a ≡ false) × (b ≡ false)
either_false true b is = absurd cc
either_false false b is = (refl, is)

not_false : (b : Bool) → not b ≡ false → b ≡ true
not_false true is = refl
not_false false is = absurd cc

some_bytes : (n : ℕ) → (n == 0) ≡ false → 1 ≤ n
some_bytes n is = grind (arith, nat_tests)

no_more : (m n : ℕ) → nat_lt m n ≡ false → n ≤ m
no_more m n is = grind (arith, nat_tests)

pub may_put : (caller : Caller) (port : MadePort) → None ≡ first_refusal (put_tests caller port) → MayPut caller port
may_put caller port passed =
    let readable = all_from (is_readable (areas_of caller.view)) (b_of caller) (c_of caller) in
    let misfits = c_of caller == 0 || nat_lt port.shape.length (c_of caller) in
    let last = refused_if (not readable) invalid_parameter ∷ [] in
    let sized = next_tests (not (is_source port.way)) not_allowed (refused_if misfits invalid_parameter ∷ last) passed in
    let read = next_tests misfits invalid_parameter last sized in
    let fits = either_false (c_of caller == 0) (nat_lt port.shape.length (c_of caller)) (not_refused misfits invalid_parameter last sized) in
    record {
      some = some_bytes (c_of caller) fits.0;
      fit = no_more port.shape.length (c_of caller) fits.1;
      readable = not_false readable (not_refused (not readable) invalid_parameter [] read);
    }

-- a shape of the table states at most 4096 bytes
pub shape_few : (table : ChannelTable) (c : ℕ) (shape : Shape) → IsTable table → slice_get table.shapes c ≡ Some shape → shape.length ≤ 4096
shape_few table c shape is there = (rw (get_or_from_slice_get table.shapes c shape shape there) at (is.shapes c shape (slice_get_within table.shapes c shape there))).few

-- so has a message that is put
pub put_few : (site : CallSite) (sys : SysState) (the_kind : Kind) (port : found.MadePort) → IsMade the_kind site.part sys port → None ≡ first_refusal (put_tests (caller_of site sys) (port_in site.part sys port)) → c_of (caller_of site sys) ≤ 4096
put_few site sys the_kind port made passed =
    let fit : c_of (caller_of site sys) ≤ port.length = (may_put (caller_of site sys) (port_in site.part sys port) passed).fit in
    let few : port.length ≤ 4096 = shape_few (table_in sys) port.chan (port_in site.part sys port).shape made.table made.shaped in
    omega (arith, fit, few)

-- a message that is put
pub put_served : (site : CallSite) (old mid new : SysState) (port : found.MadePort) → named old.machine.system.conf site.part (port_in site.part old port).name ≡ Some port.chan → MayRead (caller_of site old) (b_of (caller_of site old)) (c_of (caller_of site old))
    → mid ≡ with_machine (with_part site.part (with_answer 0 (caller_of site old).state) old.machine) old
    → new ≡ with_machine (with_traffic (Puts port.chan (caller_bytes (caller_of site old) (b_of (caller_of site old)) (c_of (caller_of site old)))) mid.machine) mid
    → IsServed site.part Unseen (putting (caller_of site old) (port_in site.part old port)) (record { note = note.Put port.chan (b_of (caller_of site old)) (c_of (caller_of site old)); act = act.Nothing }) old new
unfolding with_answer caller_of view_of areas_of
put_served site old mid new port called readable mid_is new_is =
    let bytes = caller_bytes (caller_of site old) (b_of (caller_of site old)) (c_of (caller_of site old)) in
    record {
      state = new_is ∙ ap (λ (s : SysState). with_machine (with_traffic (Puts port.chan bytes) s.machine) s) mid_is;
      emitted = refl;
      upshot = refl;
      traffic = ap (λ name. puts_at name bytes) called;
      seen = refl;
      readable = readable;
      one = tt;
      asked = (refl, refl);
      entered = tt;
      event = tt;
    }

-- a fourth test
four_refused : (a b c d : Test) (code : ℕ) → Some code ≡ first_refusal (a ∷ b ∷ c ∷ []) → Some code ≡ first_refusal (a ∷ b ∷ c ∷ d ∷ [])
four_refused (Some x) b c d code is = is
four_refused None (Some x) c d code is = is
four_refused None None (Some x) d code is = is
four_refused None None None d code is = absurd cc

four_passed : (a b c d : Test) → None ≡ first_refusal (a ∷ b ∷ c ∷ []) → first_refusal (d ∷ []) ≡ first_refusal (a ∷ b ∷ c ∷ d ∷ [])
four_passed (Some x) b c d is = absurd cc
four_passed None (Some x) c d is = absurd cc
four_passed None None (Some x) d is = absurd cc
four_passed None None None d is = refl

-- a message that is put by a call on a port of a kind, where it is refused
pub put_refused : (the_kind : Kind) (caller : Caller) (port : MadePort) (code : ℕ) → Some code ≡ first_refusal (put_tests caller port) → done_on the_kind work.Send caller port ≡ answering code caller.state
put_refused kind.Sampling caller port code refused = tested_refused (put_tests caller port) caller (putting caller port) code refused
put_refused kind.Queuing caller port code refused =
    tested_refused (tests_on kind.Queuing caller port) caller (putting caller port) code (four_refused (source_only port) (size_fits port (c_of caller)) (text caller (b_of caller) (c_of caller)) (refused_if (is_full port) not_available) code refused)

-- where there is no room for it
pub put_full : (the_kind : Kind) (caller : Caller) (port : MadePort) → None ≡ first_refusal (put_tests caller port) → is_filled the_kind port ≡ true → done_on the_kind work.Send caller port ≡ answering not_available caller.state
put_full kind.Sampling caller port passed full = absurd cc
put_full kind.Queuing caller port passed full =
    tested_refused (tests_on kind.Queuing caller port) caller (putting caller port) not_available
    (sym (ap (λ b. first_refusal (refused_if b not_available ∷ [])) full) ∙ four_passed (source_only port) (size_fits port (c_of caller)) (text caller (b_of caller) (c_of caller)) (refused_if (is_full port) not_available) passed)

-- and where there is
pub put_passed : (the_kind : Kind) (caller : Caller) (port : MadePort) → None ≡ first_refusal (put_tests caller port) → is_filled the_kind port ≡ false → done_on the_kind work.Send caller port ≡ putting caller port
put_passed kind.Sampling caller port passed free = tested_passed (put_tests caller port) caller (putting caller port) passed
put_passed kind.Queuing caller port passed free =
    tested_passed (tests_on kind.Queuing caller port) caller (putting caller port)
    (sym (ap (λ b. first_refusal (refused_if b not_available ∷ [])) free) ∙ four_passed (source_only port) (size_fits port (c_of caller)) (text caller (b_of caller) (c_of caller)) (refused_if (is_full port) not_available) passed)

-- a channel of a sampling port always has room, and one of a queue where it is not full
sampling_room : (the_kind : ChanKind) (chan : ℕ) (sys : SysState) → IsSampling the_kind → HasRoomFor the_kind chan sys
sampling_room (chan_kind.Sampling refresh) chan sys is = tt
sampling_room (chan_kind.Queuing most) chan sys is = absurd is

queuing_room : (the_kind : ChanKind) (chan : ℕ) (sys : SysState) → IsQueuing the_kind → nat_le (most_of the_kind) (length (messages_of (content_at chan (table_in sys)))) ≡ false → HasRoomFor the_kind chan sys
queuing_room (chan_kind.Sampling refresh) chan sys is free = absurd is
queuing_room (chan_kind.Queuing most) chan sys is free = grind (arith, nat_tests)

pub room_for : (the_kind : Kind) (p : ℕ) (sys : SysState) (port : found.MadePort) → IsMade the_kind p sys port → is_filled the_kind (port_in p sys port) ≡ false → HasRoomFor port.kind port.chan sys
room_for kind.Sampling p sys port made free =
    sampling_room port.kind port.chan sys (subst (λ (shape : Option Shape). IsSomeAnd shape (λ one. IsSampling one.kind)) made.shaped made.of_kind)
room_for kind.Queuing p sys port made free =
    queuing_room port.kind port.chan sys (subst (λ (shape : Option Shape). IsSomeAnd shape (λ one. IsQueuing one.kind)) made.shaped made.of_kind) free

-- the same, as the call's arguments and its buffer are read
pub put_by : (site : CallSite) (old mid new : SysState) (port : found.MadePort) (at size n : ℕ) (bytes : List ℕ) → named old.machine.system.conf site.part (port_in site.part old port).name ≡ Some port.chan
    → None ≡ first_refusal (put_tests (caller_of site old) (port_in site.part old port)) → at ≡ b_of (caller_of site old) → size ≡ c_of (caller_of site old) → n ≡ size → bytes ≡ caller_bytes (caller_of site old) at n
    → mid ≡ with_machine (with_part site.part (with_answer 0 (caller_of site old).state) old.machine) old → new ≡ with_machine (with_traffic (Puts port.chan bytes) mid.machine) mid
    → IsServed site.part Unseen (putting (caller_of site old) (port_in site.part old port)) (record { note = note.Put port.chan at size; act = act.Nothing }) old new
put_by site old mid new port at size n bytes called passed at_is size_is n_is bytes_is mid_is new_is =
    let caller = caller_of site old in
    let all = bytes_is ∙ ap (caller_bytes caller at) (n_is ∙ size_is) ∙ ap (λ b. caller_bytes caller b (c_of caller)) at_is in
    rw (at_is, size_is)
    (put_served site old mid new port called (may_put caller (port_in site.part old port) passed).readable mid_is
    (new_is ∙ ap (λ (message : List ℕ). with_machine (with_traffic (Puts port.chan message) mid.machine) mid) all))

-- a call that has its result: its partition is there, may read what it might, and has the same memory
pub caller_set : (site : CallSite) (old mid : SysState) (ps : PartitionState) → site.part < length old.machine.parts → mid ≡ with_machine (with_part site.part ps old.machine) old → site.part < length mid.machine.parts
caller_set site old mid ps below mid_is = omega (arith, below, ap (λ (s : SysState). length s.machine.parts) mid_is, length-set old.machine.parts site.part ps)

pub readable_set : (site : CallSite) (old mid : SysState) (ps : PartitionState) (at size : ℕ) → at ≡ b_of (caller_of site old) → size ≡ c_of (caller_of site old) → MayRead (caller_of site old) (b_of (caller_of site old)) (c_of (caller_of site old))
    → mid ≡ with_machine (with_part site.part ps old.machine) old → all_from (is_readable (areas_in site.part mid.machine)) at size ≡ true
readable_set site old mid ps at size at_is size_is readable mid_is =
    ap (λ (s : SysState). all_from (is_readable (areas_in site.part s.machine)) at size) mid_is
    ∙ ap (λ (areas : List Area). all_from (is_readable areas) at size) (sym (areas_seen site old))
    ∙ ap (λ b. all_from (is_readable (areas_of (caller_of site old).view)) b size) at_is
    ∙ ap (λ n. all_from (is_readable (areas_of (caller_of site old).view)) (b_of (caller_of site old)) n) size_is
    ∙ readable

pub memory_set : (site : CallSite) (old mid : SysState) (value : ℕ) → site.part < length old.machine.parts → mid ≡ with_machine (with_part site.part (with_answer value (caller_of site old).state) old.machine) old
    → memory_of site.part mid.machine ≡ (caller_of site old).state.memory
unfolding with_answer caller_of
memory_set site old mid value below mid_is =
    ap (λ (s : SysState). memory_of site.part s.machine) mid_is
    ∙ ap (λ (ps : PartitionState). ps.memory) (get_or-set_same old.machine.parts site.part (with_answer value (part_at site.part old.machine)) _ below)

-- a message of the call's size fits its port
pub message_fits : (caller : Caller) (port : MadePort) (memory : Memory) (at size : ℕ) → None ≡ first_refusal (put_tests caller port) → size ≡ c_of caller → IsMessage port.shape.length (bytes_at memory at size)
message_fits caller port memory at size passed size_is =
    let may = may_put caller port passed in
    let counted = length-bytes_at memory at size in
    record { some = omega (arith, may.some, counted, size_is); fit = omega (arith, may.fit, counted, size_is) }
