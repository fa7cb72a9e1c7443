-- Messages that are read: what they leave of the caller.
use Rattle.std.proofs.Common.{◌≡◌, ℕ, ◌<◌, ◌≤◌, ◌-◌, true, false, List, [], ◌∷◌, length, set, Option, None, Some, refl, sym, ap, ◌∙◌, arith}
use Rattle.std.specs.Prelude.{Bool, IsSomeAnd, nat_lt, not, option_map, unwrap_or}
use Rattle.std.proofs.lemmas.Option.{same_Some}
use Rattle.std.proofs.lemmas.List.{get_or-set_same, set-set}
use Rattle.guest_bus.specs.Memory.{Area, all_from, is_writable}
use Rattle.machine_model.specs.Caller.{Caller, acting, answering, b_of, c_of, d_of, invalid_parameter, is_room, refused_if, with_answer, with_written}
use Rattle.machine_model.specs.Partition.{PartitionState, areas_of}
use Rattle.machine_model.specs.PortEffects.{MadePort, first_read, held_read, message_read, sample_read}
use Rattle.machine_model.specs.Structures.{flag, is_valid, refresh_of, validity, word}
use Rattle.xm_ports.specs.Channels.{HeldSample}
use Rattle.machine_model.specs.Emission.{OwnTakes, Trades, Unseen}
use Rattle.machine_model.specs.Traffic.{Takes, takes_at}
use Rattle.machine_model.specs.View.{named, view_of}
use Rattle.span_model.specs.Passes.{with_traffic}
use Rattle.port_calls.specs.lemmas.MadePortsTerms.{port_in}
use Rattle.port_calls.specs.lemmas.Messages.{IsHeadOf, first_refusal, message_tests, sample_tests}
use Rattle.system_state.specs.Serving.{IsServed, caller_of}
use Rattle.system_state.specs.State.{SysState, areas_in, part_at, sample_bytes, with_machine, with_part}
use Rattle.system_state.specs.declared.call_site.CallSite.{CallSite}
use Rattle.port_calls.specs.declared.made_ports.MadePort as found
use Rattle.system_state.specs.declared.served.Act.TheVariants as act
use Rattle.system_state.specs.declared.served.Note.TheVariants as note
use Rattle.system_state.specs.declared.served.Served as code
use Rattle.port_calls.proofs.MessageLemmas.{tested_passed, tested_refused}
use Rattle.system_state.specs.lemmas.ServedLemmas.{areas_seen, served_as, served_changed}

-- a partition's state that is set, and then changed
pub set_changed : (old mid new : SysState) (p : ℕ) (ps : PartitionState) (f : PartitionState → PartitionState) → p < length old.machine.parts → mid ≡ with_machine (with_part p ps old.machine) old
    → new ≡ with_machine (with_part p (f (part_at p mid.machine)) mid.machine) mid → new ≡ with_machine (with_part p (f ps) old.machine) old
set_changed old mid new p ps f below mid_is new_is =
    new_is
    ∙ ap (λ (s : SysState). with_machine (with_part p (f (part_at p s.machine)) s.machine) s) mid_is
    ∙ ap (λ (x : PartitionState). with_machine (record old.machine { parts = set (set old.machine.parts p ps) p (f x) }) old) (get_or-set_same old.machine.parts p ps _ below)
    ∙ ap (λ (parts : List PartitionState). with_machine (record old.machine { parts = parts }) old) (set-set old.machine.parts p ps (f ps))

-- the areas of the caller stay when its state is set
pub room_after : (site : CallSite) (old mid : SysState) (ps : PartitionState) (address size : ℕ) → mid ≡ with_machine (with_part site.part ps old.machine) old → is_room (caller_of site old) address size ≡ true → is_room (caller_of site mid) address size ≡ true
unfolding caller_of
room_after site old mid ps address size mid_is room = ap (λ (s : SysState). all_from (is_writable (areas_of (view_of s.machine.system site.part))) address size) mid_is ∙ room

-- where a sample may be read, its validity may be written
pub validity_room : (caller : Caller) (size : ℕ) → None ≡ first_refusal (sample_tests caller size) → is_room caller (d_of caller) 4 ≡ true
validity_room caller size passed = at (nat_lt (c_of caller) size) (is_room caller (b_of caller) size) (is_room caller (d_of caller) 4) passed
  where
    at : (long there here : Bool) → None ≡ first_refusal (refused_if long invalid_parameter ∷ refused_if (not there) invalid_parameter ∷ refused_if (not here) invalid_parameter ∷ []) → here ≡ true
    at true there here is = absurd cc
    at false false here is = absurd cc
    at false true false is = absurd cc
    at false true true is = refl

-- a sample that is read
pub sample_done : (site : CallSite) (old mid new : SysState) (port : found.MadePort) (time value at to : ℕ) (message bytes : List ℕ) (result : code.Served) → site.part < length old.machine.parts
    → None ≡ first_refusal (sample_tests (caller_of site old) (length message)) → to ≡ b_of (caller_of site old) → at ≡ d_of (caller_of site old) → value ≡ length message → bytes ≡ word (flag (is_valid (refresh_of port.kind) (old.machine.time - time)))
    → mid ≡ with_machine (with_part site.part (with_written to message (caller_of site old).state) old.machine) old → IsServed site.part Unseen (answering value (with_written at bytes (caller_of site mid).state)) result mid new
    → IsServed site.part Unseen (sample_read (caller_of site old) (port_in site.part old port) (record { time = time; bytes = message })) result old new
unfolding caller_of
sample_done site old mid new port time value at to message bytes result below passed to_is at_is value_is bytes_is mid_is served =
    let caller = caller_of site old in
    let reads = tested_passed (sample_tests caller (length message)) caller
    (answering (length message) (with_written (d_of caller) (word (flag (is_valid (refresh_of port.kind) (old.machine.time - time)))) (with_written (b_of caller) message caller.state))) passed in
    let here = served_changed site old mid new (with_written to message caller.state) result (λ (ps : PartitionState). answering value (with_written at bytes ps)) refl refl below mid_is served in
    served_as refl
    (reads
    ∙ ap (λ n. answering n (with_written (d_of caller) (word (flag (is_valid (refresh_of port.kind) (old.machine.time - time)))) (with_written (b_of caller) message caller.state))) (sym value_is)
    ∙ ap (λ (b : List ℕ). answering value (with_written (d_of caller) b (with_written (b_of caller) message caller.state))) (sym bytes_is)
    ∙ ap (λ d. answering value (with_written d bytes (with_written (b_of caller) message caller.state))) (sym at_is)
    ∙ ap (λ b. answering value (with_written at bytes (with_written b message caller.state))) (sym to_is)) here

-- a message that is taken
pub message_done : (site : CallSite) (old mid set new : SysState) (port : found.MadePort) (value to : ℕ) (message : List ℕ) → site.part < length old.machine.parts → named old.machine.system.conf site.part (port_in site.part old port).name ≡ Some port.chan
    → None ≡ first_refusal (message_tests (caller_of site old) (length message)) → to ≡ b_of (caller_of site old) → value ≡ length message
    → mid ≡ with_machine (with_part site.part (with_written to message (caller_of site old).state) old.machine) old → set ≡ with_machine (with_part site.part (with_answer value (caller_of site mid).state) mid.machine) mid
    → new ≡ with_machine (with_traffic (Takes port.chan) set.machine) set
    → IsServed site.part Unseen (message_read (caller_of site old) (port_in site.part old port) message) (record { note = note.Take port.chan; act = act.Nothing }) old new
unfolding caller_of
message_done site old mid set new port value to message below called passed to_is value_is mid_is set_is new_is =
    let caller = caller_of site old in
    let name = (port_in site.part old port).name in
    let reads = tested_passed (message_tests caller (length message)) caller (acting (Trades (OwnTakes name)) (length message) (with_written (b_of caller) message caller.state)) passed in
    let state = set_changed old mid set site.part (with_written to message caller.state) (with_answer value) below mid_is set_is in
    served_as refl
    (reads
    ∙ ap (λ n. acting (Trades (OwnTakes name)) n (with_written (b_of caller) message caller.state)) (sym value_is)
    ∙ ap (λ b. acting (Trades (OwnTakes name)) value (with_written b message caller.state)) (sym to_is))
    (record {
      state = new_is ∙ ap (λ (s : SysState). with_machine (with_traffic (Takes port.chan) s.machine) s) state;
      emitted = refl;
      upshot = refl;
      traffic = ap takes_at called;
      seen = refl;
      readable = tt;
      one = tt;
      asked = tt;
      entered = tt;
      event = tt;
    })

-- the first message of a queue, by how many bytes it has
pub held_there : (held : Option (List ℕ)) (size : ℕ) → Some size ≡ option_map length held → Some (unwrap_or held []) ≡ held
held_there None size is = absurd cc
held_there (Some message) size is = refl

pub held_size : (held : Option (List ℕ)) (size : ℕ) → Some size ≡ option_map length held → size ≡ length (unwrap_or held [])
held_size None size is = absurd cc
held_size (Some message) size is = same_Some size (length message) is

-- none, where it has no size
pub held_none : (held : Option (List ℕ)) → None ≡ option_map length held → None ≡ held
held_none None is = refl
held_none (Some message) is = absurd cc

-- it has few bytes where its size is few
pub held_few : (held : Option (List ℕ)) (size : ℕ) → Some size ≡ option_map length held → size ≤ 4096 → IsSomeAnd held (λ first. length first ≤ 4096)
held_few None size is few = absurd cc
held_few (Some message) size is few = let same : size ≡ length message = same_Some size (length message) is in omega (arith, same, few)

-- the sample of a sampling channel, by its time and its size
pub sample_there : (held : Option HeldSample) (time size : ℕ) → IsHeadOf (Some (time, size)) held → Some (record { time = time; bytes = sample_bytes held }) ≡ held
sample_there None time size is = absurd is
sample_there (Some sample) time size is = ap (λ (t : ℕ). Some (record { time = t; bytes = sample.bytes })) is.0

pub sample_size : (held : Option HeldSample) (time size : ℕ) → IsHeadOf (Some (time, size)) held → size ≡ length (sample_bytes held)
sample_size None time size is = absurd is
sample_size (Some sample) time size is = is.1

pub sample_none : (held : Option HeldSample) → IsHeadOf None held → None ≡ held
sample_none None is = refl
sample_none (Some sample) is = absurd is

-- a message that is refused
pub message_refused : (caller : Caller) (port : MadePort) (held : Option (List ℕ)) (size code : ℕ) → Some size ≡ option_map length held → Some code ≡ first_refusal (message_tests caller size) → first_read held caller port ≡ answering code caller.state
message_refused caller port None size code there refused = absurd cc
message_refused caller port (Some message) size code there refused =
    tested_refused (message_tests caller (length message)) caller (acting (Trades (OwnTakes port.name)) (length message) (with_written (b_of caller) message caller.state)) code
    (refused ∙ ap (λ n. first_refusal (message_tests caller n)) (same_Some size (length message) there))

pub sample_refused : (caller : Caller) (port : MadePort) (held : Option HeldSample) (time size code : ℕ) → IsHeadOf (Some (time, size)) held → Some code ≡ first_refusal (sample_tests caller size) → held_read held caller port ≡ answering code caller.state
sample_refused caller port None time size code there refused = absurd there
sample_refused caller port (Some sample) time size code there refused =
    tested_refused (sample_tests caller (length sample.bytes)) caller
    (answering (length sample.bytes) (with_written (d_of caller) (word (validity port.shape.kind caller.time sample)) (with_written (b_of caller) sample.bytes caller.state))) code
    (refused ∙ ap (λ n. first_refusal (sample_tests caller n)) there.1)

-- where a message may be read, it may be written
message_room : (caller : Caller) (size : ℕ) → None ≡ first_refusal (message_tests caller size) → is_room caller (b_of caller) size ≡ true
message_room caller size passed = at (nat_lt (c_of caller) size) (is_room caller (b_of caller) size) passed
  where
    at : (long here : Bool) → None ≡ first_refusal (refused_if long invalid_parameter ∷ refused_if (not here) invalid_parameter ∷ []) → here ≡ true
    at true here is = absurd cc
    at false false is = absurd cc
    at false true is = refl

sample_room : (caller : Caller) (size : ℕ) → None ≡ first_refusal (sample_tests caller size) → is_room caller (b_of caller) size ≡ true
sample_room caller size passed = at (nat_lt (c_of caller) size) (is_room caller (b_of caller) size) (is_room caller (d_of caller) 4) passed
  where
    at : (long there here : Bool) → None ≡ first_refusal (refused_if long invalid_parameter ∷ refused_if (not there) invalid_parameter ∷ refused_if (not here) invalid_parameter ∷ []) → there ≡ true
    at true there here is = absurd cc
    at false false here is = absurd cc
    at false true here is = refl

-- as the system has it
room_seen : (site : CallSite) (sys : SysState) (to size n : ℕ) → is_room (caller_of site sys) (b_of (caller_of site sys)) size ≡ true → to ≡ b_of (caller_of site sys) → size ≡ n → all_from (is_writable (areas_in site.part sys.machine)) to n ≡ true
room_seen site sys to size n room to_is size_is =
    ap (λ (areas : List Area). all_from (is_writable areas) to n) (sym (areas_seen site sys))
    ∙ ap (λ b. is_room (caller_of site sys) b n) to_is ∙ ap (λ k. is_room (caller_of site sys) (b_of (caller_of site sys)) k) (sym size_is) ∙ room

pub first_room : (site : CallSite) (sys : SysState) (to size : ℕ) (held : Option (List ℕ)) → Some size ≡ option_map length held → None ≡ first_refusal (message_tests (caller_of site sys) size) → to ≡ b_of (caller_of site sys)
    → IsSomeAnd held (λ first. all_from (is_writable (areas_in site.part sys.machine)) to (length first) ≡ true)
first_room site sys to size None there passed to_is = absurd cc
first_room site sys to size (Some message) there passed to_is = room_seen site sys to size (length message) (message_room (caller_of site sys) size passed) to_is (same_Some size (length message) there)

pub held_room : (site : CallSite) (sys : SysState) (to time size : ℕ) (held : Option HeldSample) → IsHeadOf (Some (time, size)) held → None ≡ first_refusal (sample_tests (caller_of site sys) size) → to ≡ b_of (caller_of site sys)
    → IsSomeAnd held (λ sample. all_from (is_writable (areas_in site.part sys.machine)) to (length sample.bytes) ≡ true)
held_room site sys to time size None there passed to_is = absurd there
held_room site sys to time size (Some sample) there passed to_is = room_seen site sys to size (length sample.bytes) (sample_room (caller_of site sys) size passed) to_is there.1

-- the state that a call is given
pub caller_state : (site : CallSite) (sys : SysState) → (caller_of site sys).state ≡ part_at site.part sys.machine
unfolding caller_of
caller_state site sys = refl
