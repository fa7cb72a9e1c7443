-- The parts of a cue that stand there are read.
use Rattle.std.proofs.Common.{◌≡◌, ℕ, ◌^◌, ◌<◌, Bool, true, false, List, ◌∷◌, ◌++◌, length, Option, Some, None, Result, Ok, refl, sym, ap, ◌∙◌, append_assoc, arith}
use Rattle.std.specs.Prelude.{nat_le, is_some}
use Rattle.std.specs.Int.{w8, w16, w32, to_be_bytes}
use Rattle.xm_base.specs.Cursor.{Place, ahead}
use Rattle.xm_base.specs.declared.partition.Mode.{Mode}
use Rattle.xm_base.specs.declared.partition.Mode.TheVariants as mode
use Rattle.xm_base.specs.declared.partition.Order.{Order}
use Rattle.xm_base.specs.declared.partition.Order.TheVariants as upon
use Rattle.xm_conf.specs.Configuration.{Conf}
use Rattle.file_headers.specs.lemmas.FieldLemmas.{wide8, wide16, wide32, Reads, bytes_again, listed_again, number_again}
use Rattle.file_headers.specs.Steps.{◌>>=◌}
use Rattle.machine_model.specs.Cue.{Away, Mine, CueSlot}
use Rattle.machine_model.specs.Emission.{AllHalted, AllReset, NoEvent, NotKept, OwnPuts, OwnSignals, OwnStill, OwnTakes, OwnTraffic, Sight, Unseen, WholeEvent, Words}
use Rattle.file_headers.specs.Fields.{field_bytes, listed_at}
use Rattle.cue_scripts.specs.Script.{CanHear, CanSee, IsOrder, gives_queue, is_length, is_shown, most_heard, signals}
use Rattle.cue_scripts.specs.Spelling.{event_byte, order_text, sight_text, slot_byte, traffic_text}
use Rattle.cue_scripts.specs.Reading.{event_at, event_of_byte, is_event, is_heard, is_sight, message_at, order_at, order_of_kind, put_message_at, reset_at, cue_sight_at, sight_of_kind, signal_at, cue_slot_at, slot_of_byte, take_at, traffic_at, traffic_of_kind, shown_words_at, script_field, script_short}
use Rattle.fault_messages.specs.declared.fault.ScriptFault.{ScriptFault}
use Rattle.cue_scripts.proofs.FieldLemmas.{one_byte}
use Rattle.cue_scripts.proofs.ScriptLemmas.{few_shown}
use Rattle.cue_scripts.proofs.TakePartLemmas.{InOwn}

-- a byte that stands there is read, and then what is after it
pub record Leads {A : Type 0} (test : ℕ → Bool) (more : ℕ → Place → Result A ScriptFault) (place : Place) (n : ℕ) (rest : List ℕ) : Type 0 where
  pub after : Place
  pub is : (listed_at script_short script_field w8 test place >>= λ kind. more kind.0 kind.1) ≡ more n after
  pub ahead : ahead after ≡ rest

pub leads : {A : Type 0} (test : ℕ → Bool) (more : ℕ → Place → Result A ScriptFault) (place : Place) (n : ℕ) (rest : List ℕ) → n < 256 → test n ≡ true → ahead place ≡ n ∷ rest → Leads test more place n rest
leads test more place n rest small passes stands =
    let b = listed_again script_short script_field w8 256 wide8 test place n rest small passes (stands ∙ ap (λ x. x ++ rest) (sym (one_byte n small))) in
    record { after = b.after; is = rw b.is refl; ahead = b.ahead }

-- a slot
pub slot_again : (place : Place) (mine : CueSlot) (rest : List ℕ) → ahead place ≡ slot_byte mine ∷ rest → Reads (cue_slot_at place) mine rest
unfolding cue_slot_at
slot_again place Away rest stands =
    let k = leads (λ byte. nat_le byte 2) (λ byte following. Ok (slot_of_byte byte, following)) place 0 rest (omega arith) refl stands in
    record { after = k.after; is = k.is; ahead = k.ahead }
slot_again place (Mine false) rest stands =
    let k = leads (λ byte. nat_le byte 2) (λ byte following. Ok (slot_of_byte byte, following)) place 1 rest (omega arith) refl stands in
    record { after = k.after; is = k.is; ahead = k.ahead }
slot_again place (Mine true) rest stands =
    let k = leads (λ byte. nat_le byte 2) (λ byte following. Ok (slot_of_byte byte, following)) place 2 rest (omega arith) refl stands in
    record { after = k.after; is = k.is; ahead = k.ahead }

-- where a length is right there is one
some_most : (most : Option ℕ) (count : ℕ) → is_length most count ≡ true → is_some most ≡ true
some_most None count e = absurd cc
some_most (Some most) count e = refl

-- traffic
pub traffic_again : (conf : Conf) (p : ℕ) (mine : CueSlot) (place : Place) (traffic : OwnTraffic) (rest : List ℕ) → CanHear conf p traffic → InOwn mine (traffic ≡ OwnStill) → ahead place ≡ traffic_text traffic ++ rest
    → Reads (traffic_at conf p mine place) traffic rest
unfolding traffic_at put_message_at message_at take_at signal_at traffic_text
traffic_again conf p mine place OwnStill rest can still stands =
    let k = leads (is_heard 3 mine) (traffic_of_kind conf p) place 0 rest (omega arith) refl stands in
    record { after = k.after; is = k.is; ahead = k.ahead }
traffic_again conf p Away place (OwnPuts name bytes) rest can still stands =
    let k = leads (is_heard 3 Away) (traffic_of_kind conf p) place 1 (name ∷ (to_be_bytes w16 (length bytes) ++ bytes) ++ rest) (omega arith) refl stands in
    let n = leads (λ name. is_some (most_heard conf p name)) (λ name later. message_at (most_heard conf p name) name later) k.after name ((to_be_bytes w16 (length bytes) ++ bytes) ++ rest)
    can.called (some_most (most_heard conf p name) (length bytes) can.fits) k.ahead in
    let c = listed_again script_short script_field w16 (2 ^ 16) wide16 (is_length (most_heard conf p name)) n.after (length bytes) (bytes ++ rest) can.short can.fits
    (n.ahead ∙ append_assoc (to_be_bytes w16 (length bytes)) bytes rest) in
    let b = bytes_again script_short (length bytes) c.after bytes rest refl c.ahead in
    record { after = b.after; is = k.is ∙ n.is ∙ rw (c.is, b.is) refl; ahead = b.ahead }
traffic_again conf p (Mine first) place (OwnPuts name bytes) rest can still stands = absurd cc
traffic_again conf p Away place (OwnTakes name) rest can still stands =
    let k = leads (is_heard 3 Away) (traffic_of_kind conf p) place 2 (name ∷ rest) (omega arith) refl stands in
    let n = leads (gives_queue conf p) (λ name later. Ok (OwnTakes name, later)) k.after name rest can.0 can.1 k.ahead in
    record { after = n.after; is = k.is ∙ n.is; ahead = n.ahead }
traffic_again conf p (Mine first) place (OwnTakes name) rest can still stands = absurd cc
traffic_again conf p Away place (OwnSignals number) rest can still stands =
    let k = leads (is_heard 3 Away) (traffic_of_kind conf p) place 3 (number ∷ rest) (omega arith) refl stands in
    let n = leads (signals conf p) (λ number later. Ok (OwnSignals number, later)) k.after number rest (let small : number < 8 = can.0 in omega (arith, small)) can.1 k.ahead in
    record { after = n.after; is = k.is ∙ n.is; ahead = n.ahead }
traffic_again conf p (Mine first) place (OwnSignals number) rest can still stands = absurd cc

-- a reset, after its kind
reset_again : (mode : Mode) (place : Place) (status : ℕ) (rest : List ℕ) → status < 2 ^ 32 → ahead place ≡ to_be_bytes w32 status ++ rest → Reads (reset_at mode place) (Some (upon.Reset mode status)) rest
unfolding reset_at
reset_again mode place status rest small stands =
    let b = number_again script_short w32 (2 ^ 32) wide32 place status rest small stands in
    record { after = b.after; is = rw b.is refl; ahead = b.ahead }

-- an order of a kind
pub order_again : (mine : CueSlot) (place : Place) (order : Option Order) (rest : List ℕ) → IsOrder order → InOwn mine (order ≡ None) → ahead place ≡ order_text order ++ rest → Reads (order_at mine place) order rest
unfolding order_at order_text
order_again mine place None rest is none stands =
    let k = leads (is_heard 6 mine) order_of_kind place 0 rest (omega arith) refl stands in
    record { after = k.after; is = k.is; ahead = k.ahead }
order_again (Mine first) place (Some order) rest is none stands = absurd cc
order_again Away place (Some upon.Halt) rest is none stands =
    let k = leads (is_heard 6 Away) order_of_kind place 1 rest (omega arith) refl stands in
    record { after = k.after; is = k.is; ahead = k.ahead }
order_again Away place (Some upon.Suspend) rest is none stands =
    let k = leads (is_heard 6 Away) order_of_kind place 2 rest (omega arith) refl stands in
    record { after = k.after; is = k.is; ahead = k.ahead }
order_again Away place (Some upon.Resume) rest is none stands =
    let k = leads (is_heard 6 Away) order_of_kind place 3 rest (omega arith) refl stands in
    record { after = k.after; is = k.is; ahead = k.ahead }
order_again Away place (Some upon.Shutdown) rest is none stands =
    let k = leads (is_heard 6 Away) order_of_kind place 4 rest (omega arith) refl stands in
    record { after = k.after; is = k.is; ahead = k.ahead }
order_again Away place (Some (upon.Reset mode.Cold status)) rest is none stands =
    let k = leads (is_heard 6 Away) order_of_kind place 5 (to_be_bytes w32 status ++ rest) (omega arith) refl stands in
    let r = reset_again mode.Cold k.after status rest is k.ahead in
    record { after = r.after; is = k.is ∙ r.is; ahead = r.ahead }
order_again Away place (Some (upon.Reset mode.Warm status)) rest is none stands =
    let k = leads (is_heard 6 Away) order_of_kind place 6 (to_be_bytes w32 status ++ rest) (omega arith) refl stands in
    let r = reset_again mode.Warm k.after status rest is k.ahead in
    record { after = r.after; is = k.is ∙ r.is; ahead = r.ahead }

-- a hypervisor event
pub event_again : (last : Bool) (place : Place) (whole : WholeEvent) (rest : List ℕ) → (whole ≡ AllHalted → last ≡ true) → ahead place ≡ event_byte whole ∷ rest → Reads (event_at last place) whole rest
unfolding event_at
event_again last place NoEvent rest halts stands =
    let k = leads (is_event last) (λ byte following. Ok (event_of_byte byte, following)) place 0 rest (omega arith) refl stands in
    record { after = k.after; is = k.is; ahead = k.ahead }
event_again last place (AllReset mode.Cold) rest halts stands =
    let k = leads (is_event last) (λ byte following. Ok (event_of_byte byte, following)) place 1 rest (omega arith) refl stands in
    record { after = k.after; is = k.is; ahead = k.ahead }
event_again last place (AllReset mode.Warm) rest halts stands =
    let k = leads (is_event last) (λ byte following. Ok (event_of_byte byte, following)) place 2 rest (omega arith) refl stands in
    record { after = k.after; is = k.is; ahead = k.ahead }
event_again true place AllHalted rest halts stands =
    let k = leads (is_event true) (λ byte following. Ok (event_of_byte byte, following)) place 3 rest (omega arith) refl stands in
    record { after = k.after; is = k.is; ahead = k.ahead }
event_again false place AllHalted rest halts stands =
    let never = halts refl in
    absurd cc

-- what was seen
pub sight_again : (system : Bool) (mine : CueSlot) (place : Place) (seen : Sight) (rest : List ℕ) → CanSee system mine seen → ahead place ≡ sight_text seen ++ rest → Reads (cue_sight_at system mine place) seen rest
unfolding cue_sight_at shown_words_at sight_text
sight_again system mine place Unseen rest can stands =
    let k = leads (is_sight system mine) sight_of_kind place 0 rest (omega arith) refl stands in
    record { after = k.after; is = k.is; ahead = k.ahead }
sight_again true (Mine first) place NotKept rest can stands =
    let k = leads (is_sight true (Mine first)) sight_of_kind place 1 rest (omega arith) refl stands in
    record { after = k.after; is = k.is; ahead = k.ahead }
sight_again true (Mine first) place (Words bytes) rest can stands =
    let k = leads (is_sight true (Mine first)) sight_of_kind place 2 (length bytes ∷ bytes ++ rest) (omega arith) refl stands in
    let n = leads is_shown (λ count later. field_bytes script_short count later >>= λ bytes. Ok (Words bytes.0, bytes.1)) k.after (length bytes) (bytes ++ rest) (few_shown (length bytes) can.2) can.2 k.ahead in
    let b = bytes_again script_short (length bytes) n.after bytes rest refl n.ahead in
    record { after = b.after; is = k.is ∙ n.is ∙ rw b.is refl; ahead = b.ahead }
sight_again system Away place NotKept rest can stands =
    let own = can.0 in
    absurd cc
sight_again system Away place (Words bytes) rest can stands =
    let own = can.0 in
    absurd cc
sight_again false (Mine first) place NotKept rest can stands =
    let system = can.1 in
    absurd cc
sight_again false (Mine first) place (Words bytes) rest can stands =
    let system = can.1 in
    absurd cc
