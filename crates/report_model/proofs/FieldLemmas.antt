-- The fields of a line, each read back from where it begins.
use Rattle.std.proofs.Common.{◌≡◌, ◌≢◌, ℕ, zero, suc, ◌+◌, ◌/◌, ◌%◌, ◌<◌, ◌==◌, Bool, true, false, if◌then◌else◌, List, [], ◌∷◌, ◌++◌, length, drop, get_or, slice_index, codes, decimal, Option, Some, None, Result, Ok, Err, refl, sym, ap, ◌∙◌, arith}
use Rattle.std.specs.Int.{w32, from_be_bytes, to_be_bytes}
use Rattle.std.specs.Str.{all_ascii_digits, bytes_eq}
use Rattle.std.specs.Str.Parse.{digits_value}
use Rattle.std.proofs.lemmas.Bool.{eq-eqb, eqb-true}
use Rattle.std.proofs.lemmas.Fmt.{decimal_injective, digits_decimal, digits_value-decimal}
use Rattle.std.proofs.lemmas.Nat.{from_be_bytes-to_be_bytes_4}
use Rattle.std.proofs.lemmas.Str.Parse.{IsNumeralModel, not_in_digits, numerals_by_value, tells_all_ascii_digits}
use Rattle.hex.specs.Hex.{decode_of, encode_lower, encode_with, hex_digit_value, lower_digits}
use Rattle.hex.specs.declared.error.FromHexError.{FromHexError}
use Rattle.hex.proofs.HexLemmas.{IsDigits-lower_digits, decode_of-encode_lower, length-encode_with}
use Rattle.xm_base.specs.Bytes.{AreBytes}
use Rattle.xm_base.specs.State.{state_text}
use Rattle.xm_base.specs.declared.partition.State.{State}
use Rattle.xm_base.specs.declared.partition.State.TheVariants as state
use Rattle.xm_conf.specs.Health.{action_named, action_row, event_named, event_row}
use Rattle.xm_conf.specs.declared.health.Action.{Action}
use Rattle.xm_conf.specs.declared.health.Action.TheVariants as action
use Rattle.xm_conf.specs.declared.health.Event.{Event}
use Rattle.xm_conf.specs.declared.health.Event.TheVariants as event
use Rattle.xm_report.specs.Places.{IsSpelledPlace, place_text}
use Rattle.xm_report.specs.Report.{move_text, halted_text}
use Rattle.xm_report.specs.declared.line.Move.{Move}
use Rattle.xm_report.specs.declared.line.Move.TheVariants.{Halt, Suspend, Resume, Cold, Warm}
use Rattle.xm_report.specs.declared.place.Place.{Place}
use Rattle.xm_report.specs.declared.place.Place.TheVariants.{Conditions, ExecutionDeadline, Global, HardwareDeadline, Mask, MemoryByte, Npc, Pc, Pending, TrapBase, Windowed, YRegister}
use Rattle.report_model.specs.Texts.{IsCount, IsWord}

-- Fields that end at a byte which they do not have.

-- whether bytes have none that is this one
abbrev pub lacks : ℕ → List ℕ → Bool
lacks stop [] = true
lacks stop (byte ∷ bytes) = if byte == stop then false else lacks stop bytes

-- a byte that is the stop is one that they lack
never_stop : (stop byte : ℕ) (bytes : List ℕ) → byte ≡ stop → lacks stop (byte ∷ bytes) ≡ true → ⊥
never_stop stop byte bytes same lacking =
    let wrong : false ≡ true = sym (ap (λ (t : Bool). if t then false else lacks stop bytes) (eq-eqb byte stop same)) ∙ lacking in
    cc

-- what is lacking in all is lacking in those after the first
lacks_rest : (stop byte : ℕ) (bytes : List ℕ) → lacks stop (byte ∷ bytes) ≡ true → lacks stop bytes ≡ true
lacks_rest stop byte bytes lacking = at (byte == stop) lacking
  where
    at : (t : Bool) → (if t then false else lacks stop bytes) ≡ true → lacks stop bytes ≡ true
    at true wrong = absurd (cc)
    at false rest = rest

-- two fields before the same stop are the same, and so is what stands after it
pub cut : (stop : ℕ) (one other after later : List ℕ) → lacks stop one ≡ true → lacks stop other ≡ true → one ++ (stop ∷ after) ≡ other ++ (stop ∷ later) → (one ≡ other) × (after ≡ later)
cut stop [] [] after later none none_other same = (refl, cc)
cut stop [] (byte ∷ other) after later none none_other same = (let stands : byte ≡ stop = cc in absurd (never_stop stop byte other stands none_other))
cut stop (byte ∷ one) [] after later none none_other same = (let stands : byte ≡ stop = cc in absurd (never_stop stop byte one stands none))
cut stop (byte ∷ one) (next ∷ other) after later none none_other same =
    let first : byte ≡ next = cc in
    let rest : one ++ (stop ∷ after) ≡ other ++ (stop ∷ later) = cc in
    let both = cut stop one other after later (lacks_rest stop byte one none) (lacks_rest stop next other none_other) rest in
    let fields : one ≡ other = both.0 in
    (cc, both.1)

-- bytes none of which is the stop lack it
lacks_from : (stop : ℕ) (bytes : List ℕ) → ((k : ℕ) → k < length bytes → get_or bytes k 0 ≢ stop) → lacks stop bytes ≡ true
lacks_from stop [] none = refl
lacks_from stop (byte ∷ bytes) none = at (byte == stop) refl (lacks_from stop bytes (λ k below. none (suc k) (omega (arith, below))))
  where
    at : (t : Bool) → (byte == stop) ≡ t → lacks stop bytes ≡ true → (if t then false else lacks stop bytes) ≡ true
    at true is rest = absurd (none 0 (omega arith) (eqb-true byte stop is))
    at false is rest = rest

-- Numbers.

numerals : IsNumeralModel (λ digits. all_ascii_digits digits ≡ true) (digits_value 10)
numerals = numerals_by_value _ tells_all_ascii_digits

-- a number has no byte below its digits
decimal_lacks : (stop n : ℕ) → stop < 48 → IsCount n → lacks stop (decimal n) ≡ true
decimal_lacks stop n low small = lacks_from stop (decimal n) (λ k below. not_in_digits numerals (decimal n) stop (digits_decimal numerals n small) (λ within. omega (arith, low)) k below)

-- nor the bracket after a tick
decimal_lacks_bracket : (n : ℕ) → IsCount n → lacks 93 (decimal n) ≡ true
decimal_lacks_bracket n small = lacks_from 93 (decimal n) (λ k below. not_in_digits numerals (decimal n) 93 (digits_decimal numerals n small) (λ within. omega arith) k below)

-- a number before a byte that is below the digits
pub number_cut : (stop m n : ℕ) (after later : List ℕ) → stop < 48 → IsCount m → IsCount n → decimal m ++ (stop ∷ after) ≡ decimal n ++ (stop ∷ later) → (m ≡ n) × (after ≡ later)
number_cut stop m n after later low small small_other same =
    let both = cut stop (decimal m) (decimal n) after later (decimal_lacks stop m low small) (decimal_lacks stop n low small_other) same in
    (decimal_injective m n small small_other both.0, both.1)

-- a tick
pub tick_cut : (m n : ℕ) (after later : List ℕ) → IsCount m → IsCount n → decimal m ++ (93 ∷ after) ≡ decimal n ++ (93 ∷ later) → (m ≡ n) × (after ≡ later)
tick_cut m n after later small small_other same =
    let both = cut 93 (decimal m) (decimal n) after later (decimal_lacks_bracket m small) (decimal_lacks_bracket n small_other) same in
    (decimal_injective m n small small_other both.0, both.1)

-- Bytes in hexadecimal.

-- bytes are those of their text
pub hex_same : (one other : List ℕ) → AreBytes one → AreBytes other → encode_lower one ≡ encode_lower other → one ≡ other
hex_same one other bytes bytes_other same =
    let both : Ok one ≡ Ok other = sym (decode_of-encode_lower one bytes) ∙ ap decode_of same ∙ decode_of-encode_lower other bytes_other in
    cc

-- a byte that is no hexadecimal digit is none of the table's
digit_is : (stop value : ℕ) → hex_digit_value stop ≡ None → value < 16 → (slice_index lower_digits value == stop) ≡ false
digit_is stop value none small = at (hex_digit_value (slice_index lower_digits value)) (IsDigits-lower_digits value small) (slice_index lower_digits value) refl
  where
    at : (o : Option ℕ) → o ≡ Some value → (digit : ℕ) → hex_digit_value digit ≡ o → (digit == stop) ≡ false
    at o is digit reads = stands (digit == stop) refl
      where
        stands : (t : Bool) → (digit == stop) ≡ t → t ≡ false
        stands false differs = refl
        stands true same =
            let here : digit ≡ stop = eqb-true digit stop same in
            let wrong : None ≡ Some value = sym none ∙ ap hex_digit_value (sym here) ∙ reads ∙ is in
            absurd (cc)

-- nor does a text of bytes have it
hex_lacks : (stop : ℕ) (bytes : List ℕ) → hex_digit_value stop ≡ None → AreBytes bytes → lacks stop (encode_lower bytes) ≡ true
unfolding encode_with
hex_lacks stop [] none small = refl
hex_lacks stop (byte ∷ bytes) none small =
    let fits : byte < 256 = small 0 in
    let rest = hex_lacks stop bytes none (λ k. small (suc k)) in
    rw (digit_is stop (byte / 16) none (omega (arith, fits)), digit_is stop (byte % 16) none (omega arith)) rest

-- bytes before a newline
pub hex_cut : (one other after later : List ℕ) → AreBytes one → AreBytes other → encode_lower one ++ (10 ∷ after) ≡ encode_lower other ++ (10 ∷ later) → (one ≡ other) × (after ≡ later)
hex_cut one other after later bytes bytes_other same =
    let both = cut 10 (encode_lower one) (encode_lower other) after later (hex_lacks 10 one refl bytes) (hex_lacks 10 other refl bytes_other) same in
    (hex_same one other bytes bytes_other both.0, both.1)

-- fields of one length
fixed_cut : (one other after later : List ℕ) → length one ≡ length other → one ++ after ≡ other ++ later → (one ≡ other) × (after ≡ later)
fixed_cut [] [] after later long same = (refl, same)
fixed_cut [] (byte ∷ other) after later long same = absurd (omega (arith, long))
fixed_cut (byte ∷ one) [] after later long same = absurd (omega (arith, long))
fixed_cut (byte ∷ one) (next ∷ other) after later long same =
    let first : byte ≡ next = cc in
    let rest : one ++ after ≡ other ++ later = cc in
    let both = fixed_cut one other after later (omega (arith, long)) rest in
    let fields : one ≡ other = both.0 in
    (cc, both.1)

-- the bytes of a word
word_bytes : (word : ℕ) → AreBytes (to_be_bytes w32 word)
word_bytes word zero = omega arith
word_bytes word (suc zero) = omega arith
word_bytes word (suc (suc zero)) = omega arith
word_bytes word (suc (suc (suc zero))) = omega arith
word_bytes word (suc (suc (suc (suc k)))) = omega arith

-- a word
pub word_cut : (one other : ℕ) (after later : List ℕ) → IsWord one → IsWord other → encode_lower (to_be_bytes w32 one) ++ after ≡ encode_lower (to_be_bytes w32 other) ++ later → (one ≡ other) × (after ≡ later)
word_cut one other after later small small_other same =
    let long : length (encode_lower (to_be_bytes w32 one)) ≡ length (encode_lower (to_be_bytes w32 other)) =
    length-encode_with lower_digits (to_be_bytes w32 one) ∙ sym (length-encode_with lower_digits (to_be_bytes w32 other)) in
    let both = fixed_cut (encode_lower (to_be_bytes w32 one)) (encode_lower (to_be_bytes w32 other)) after later long same in
    let bytes = hex_same (to_be_bytes w32 one) (to_be_bytes w32 other) (word_bytes one) (word_bytes other) both.0 in
    (sym (from_be_bytes-to_be_bytes_4 one small) ∙ ap (from_be_bytes w32) bytes ∙ from_be_bytes-to_be_bytes_4 other small_other, both.1)

-- Places.

-- the address that bytes spell
abbrev address_by : Result (List ℕ) FromHexError → ℕ
address_by (Ok bytes) = from_be_bytes w32 bytes
address_by (Err error) = 0

-- the place of bytes with this first one, this length and this address
abbrev place_by : ℕ → ℕ → ℕ → List ℕ → Place
place_by first long address bytes =
    if first == 103 then Global (digits_value 10 (drop 1 bytes))
    else if first == 119 then Windowed (digits_value 10 (drop 1 bytes))
    else if long == 8 then MemoryByte address
    else if bytes_eq bytes (codes "pc") then Pc
    else if bytes_eq bytes (codes "npc") then Npc
    else if bytes_eq bytes (codes "y") then YRegister
    else if bytes_eq bytes (codes "icc") then Conditions
    else if bytes_eq bytes (codes "hw") then HardwareDeadline
    else if bytes_eq bytes (codes "exec") then ExecutionDeadline
    else if bytes_eq bytes (codes "tbr") then TrapBase
    else if bytes_eq bytes (codes "mask") then Mask
    else Pending

-- the place that bytes name
abbrev place_named : List ℕ → Place
place_named bytes = place_by (get_or bytes 0 0) (length bytes) (address_by (decode_of bytes)) bytes

by_address : (first long address : ℕ) (bytes : List ℕ) → (first == 103) ≡ false → (first == 119) ≡ false → long ≡ 8 → place_by first long address bytes ≡ MemoryByte address
by_address first long address bytes no_global no_window eight = rw (no_global, no_window, eight) refl

-- the first of hexadecimal digits is no other letter
no_letter : (letter : ℕ) (bytes : List ℕ) → 0 < length bytes → hex_digit_value letter ≡ None → AreBytes bytes → (get_or (encode_lower bytes) 0 0 == letter) ≡ false
unfolding encode_with
no_letter letter [] some none are = absurd (omega (arith, some))
no_letter letter (byte ∷ bytes) some none are = (let fits : byte < 256 = are 0 in digit_is letter (byte / 16) none (omega (arith, fits)))

-- the digits of an address name the byte
byte_named : (address : ℕ) → IsWord address → place_named (encode_lower (to_be_bytes w32 address)) ≡ MemoryByte address
byte_named address small =
    let bytes : List ℕ = to_be_bytes w32 address in
    let text : List ℕ = encode_lower bytes in
    let reads : address_by (decode_of text) ≡ address = ap address_by (decode_of-encode_lower bytes (word_bytes address)) ∙ from_be_bytes-to_be_bytes_4 address small in
    by_address (get_or text 0 0) (length text) (address_by (decode_of text)) text (no_letter 103 bytes (omega arith) refl (word_bytes address)) (no_letter 119 bytes (omega arith) refl (word_bytes address)) (length-encode_with lower_digits bytes) ∙ ap MemoryByte reads

place_found : (place : Place) → IsSpelledPlace place → place_named (place_text place) ≡ place
place_found (Global n) range = ap Global (digits_value-decimal numerals n (omega (arith, range.1)))
place_found (Windowed n) range = ap Windowed (digits_value-decimal numerals n (omega (arith, range)))
place_found Pc range = refl
place_found Npc range = refl
place_found YRegister range = refl
place_found Conditions range = refl
place_found HardwareDeadline range = refl
place_found ExecutionDeadline range = refl
place_found TrapBase range = refl
place_found Mask range = refl
place_found Pending range = refl
place_found (MemoryByte address) range = byte_named address range

place_lacks : (place : Place) → IsSpelledPlace place → lacks 32 (place_text place) ≡ true
place_lacks (Global n) range = decimal_lacks 32 n (omega arith) (omega (arith, range.1))
place_lacks (Windowed n) range = decimal_lacks 32 n (omega arith) (omega (arith, range))
place_lacks Pc range = refl
place_lacks Npc range = refl
place_lacks YRegister range = refl
place_lacks Conditions range = refl
place_lacks HardwareDeadline range = refl
place_lacks ExecutionDeadline range = refl
place_lacks TrapBase range = refl
place_lacks Mask range = refl
place_lacks Pending range = refl
place_lacks (MemoryByte address) range = hex_lacks 32 (to_be_bytes w32 address) refl (word_bytes address)

-- a place before a space
pub place_cut : (one other : Place) (after later : List ℕ) → IsSpelledPlace one → IsSpelledPlace other → place_text one ++ (32 ∷ after) ≡ place_text other ++ (32 ∷ later) → (one ≡ other) × (after ≡ later)
place_cut one other after later range range_other same =
    let both = cut 32 (place_text one) (place_text other) after later (place_lacks one range) (place_lacks other range_other) same in
    (sym (place_found one range) ∙ ap place_named both.0 ∙ place_found other range_other, both.1)

-- Names.

-- what a name is found by
found_same : {X : Type 0} (named : List ℕ → Option X) (text : X → List ℕ) (one other : X) → ((x : X) → named (text x) ≡ Some x) → text one ≡ text other → one ≡ other
found_same named text one other finds same =
    let both = sym (finds one) ∙ ap named same ∙ finds other in
    cc

event_lacks : (e : Event) → lacks 32 (event_row e).text ≡ true
event_lacks event.PartitionError = refl
event_lacks event.MemProtection = refl
event_lacks event.UnexpectedTrap = refl
event_lacks event.SparcIllegalInstruction = refl
event_lacks event.SparcPrivilegedInstruction = refl
event_lacks event.SparcFpDisabled = refl
event_lacks event.SparcCpDisabled = refl
event_lacks event.SparcAddressNotAligned = refl
event_lacks event.SparcTagOverflow = refl
event_lacks event.SparcDivideException = refl
event_lacks event.SparcInstrAccess = refl
event_lacks event.SparcDataAccess = refl

event_found : (e : Event) → event_named (event_row e).text ≡ Some e
event_found event.PartitionError = refl
event_found event.MemProtection = refl
event_found event.UnexpectedTrap = refl
event_found event.SparcIllegalInstruction = refl
event_found event.SparcPrivilegedInstruction = refl
event_found event.SparcFpDisabled = refl
event_found event.SparcCpDisabled = refl
event_found event.SparcAddressNotAligned = refl
event_found event.SparcTagOverflow = refl
event_found event.SparcDivideException = refl
event_found event.SparcInstrAccess = refl
event_found event.SparcDataAccess = refl

-- a health event
pub event_cut : (one other : Event) (after later : List ℕ) → (event_row one).text ++ (32 ∷ after) ≡ (event_row other).text ++ (32 ∷ later) → (one ≡ other) × (after ≡ later)
event_cut one other after later same =
    let both = cut 32 (event_row one).text (event_row other).text after later (event_lacks one) (event_lacks other) same in
    (found_same event_named (λ e. (event_row e).text) one other event_found both.0, both.1)

action_lacks : (a : Action) → lacks 10 (action_row a).text ≡ true
action_lacks action.Ignore = refl
action_lacks action.Shutdown = refl
action_lacks action.PartitionColdReset = refl
action_lacks action.PartitionWarmReset = refl
action_lacks action.Suspend = refl
action_lacks action.Halt = refl
action_lacks action.Propagate = refl
action_lacks action.HypervisorColdReset = refl
action_lacks action.HypervisorWarmReset = refl
action_lacks action.HypervisorHalt = refl
action_lacks action.SwitchToMaintenance = refl

action_found : (a : Action) → action_named (action_row a).text ≡ Some a
action_found action.Ignore = refl
action_found action.Shutdown = refl
action_found action.PartitionColdReset = refl
action_found action.PartitionWarmReset = refl
action_found action.Suspend = refl
action_found action.Halt = refl
action_found action.Propagate = refl
action_found action.HypervisorColdReset = refl
action_found action.HypervisorWarmReset = refl
action_found action.HypervisorHalt = refl
action_found action.SwitchToMaintenance = refl

-- an action
pub action_cut : (one other : Action) (after later : List ℕ) → (action_row one).text ++ (10 ∷ after) ≡ (action_row other).text ++ (10 ∷ later) → (one ≡ other) × (after ≡ later)
action_cut one other after later same =
    let both = cut 10 (action_row one).text (action_row other).text after later (action_lacks one) (action_lacks other) same in
    (found_same action_named (λ a. (action_row a).text) one other action_found both.0, both.1)

-- the change that bytes name
abbrev move_named : List ℕ → Option Move
move_named bytes =
    if bytes_eq bytes (codes "HALT") then Some Halt
    else if bytes_eq bytes (codes "SUSPEND") then Some Suspend
    else if bytes_eq bytes (codes "RESUME") then Some Resume
    else if bytes_eq bytes (codes "COLD") then Some Cold
    else Some Warm

move_lacks : (to : Move) → lacks 10 (move_text to) ≡ true
move_lacks Halt = refl
move_lacks Suspend = refl
move_lacks Resume = refl
move_lacks Cold = refl
move_lacks Warm = refl

move_found : (to : Move) → move_named (move_text to) ≡ Some to
move_found Halt = refl
move_found Suspend = refl
move_found Resume = refl
move_found Cold = refl
move_found Warm = refl

-- a change
pub move_cut : (one other : Move) (after later : List ℕ) → move_text one ++ (10 ∷ after) ≡ move_text other ++ (10 ∷ later) → (one ≡ other) × (after ≡ later)
move_cut one other after later same =
    let both = cut 10 (move_text one) (move_text other) after later (move_lacks one) (move_lacks other) same in
    (found_same move_named move_text one other move_found both.0, both.1)

-- the state that bytes name
abbrev state_named : List ℕ → Option State
state_named bytes =
    if bytes_eq bytes (codes "ready") then Some state.Ready
    else if bytes_eq bytes (codes "idle") then Some state.Idle
    else if bytes_eq bytes (codes "suspended") then Some state.Suspended
    else Some state.Halted

state_lacks : (s : State) → lacks 32 (state_text s) ≡ true
state_lacks state.Ready = refl
state_lacks state.Idle = refl
state_lacks state.Suspended = refl
state_lacks state.Halted = refl

state_found : (s : State) → state_named (state_text s) ≡ Some s
state_found state.Ready = refl
state_found state.Idle = refl
state_found state.Suspended = refl
state_found state.Halted = refl

-- a state
pub state_cut : (one other : State) (after later : List ℕ) → state_text one ++ (32 ∷ after) ≡ state_text other ++ (32 ∷ later) → (one ≡ other) × (after ≡ later)
state_cut one other after later same =
    let both = cut 32 (state_text one) (state_text other) after later (state_lacks one) (state_lacks other) same in
    (found_same state_named state_text one other state_found both.0, both.1)

-- whether the system has halted
pub halted_cut : (one other : Bool) (after later : List ℕ) → halted_text one ++ (32 ∷ after) ≡ halted_text other ++ (32 ∷ later) → (one ≡ other) × (after ≡ later)
halted_cut true true after later same = (refl, cc)
halted_cut true false after later same = (let first : 104 ≡ 114 = ap (λ (text : List ℕ). get_or text 0 0) same in absurd (omega (arith, first)))
halted_cut false true after later same = (let first : 114 ≡ 104 = ap (λ (text : List ℕ). get_or text 0 0) same in absurd (omega (arith, first)))
halted_cut false false after later same = (refl, cc)
