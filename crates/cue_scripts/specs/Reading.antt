-- The reading of a script: the cues that the bytes spell, or the first fault from left to right.
use Rattle.std.specs.Prelude.{ℕ, zero, suc, ◌-◌, ◌==◌, Bool, true, false, ◌&&◌, not, nat_le, if◌then◌else◌, List, [], ◌∷◌, codes, Option, Some, None, is_none, is_some, Result, Ok}
use Rattle.std.specs.Int.{w8, w16, w32, w64}
use Rattle.xm_base.specs.Cursor.{Place, left, cursor_start}
use Rattle.xm_base.specs.declared.partition.Mode.{Mode}
use Rattle.xm_base.specs.declared.partition.Mode.TheVariants as mode
use Rattle.xm_base.specs.declared.partition.Order.{Order}
use Rattle.xm_base.specs.declared.partition.Order.TheVariants as order
use Rattle.xm_conf.specs.Configuration.{Conf}
use Rattle.file_headers.specs.Fields.{field_bytes, listed_at, number_at}
use Rattle.file_headers.specs.Heads.{magic_at, version_at}
use Rattle.file_headers.specs.Steps.{◌>>=◌, unless}
use Rattle.machine_model.specs.Cue.{Away, Cue, Mine, CueSlot}
use Rattle.machine_model.specs.Emission.{AllHalted, AllReset, NoEvent, NotKept, OwnPuts, OwnSignals, OwnStill, OwnTakes, OwnTraffic, Sight, Unseen, WholeEvent, Words}
use Rattle.cue_scripts.specs.Entries.{Alike, Entry, Other, cue_count, expanded, is_away, plain_cue_of, plain_kind}
use Rattle.cue_scripts.specs.Script.{gives_queue, is_length, is_shown, is_system_partition, most_heard, signals}
use Rattle.cue_scripts.specs.Spelling.{alike_byte}
use Rattle.fault_messages.specs.declared.fault.ScriptFault.{ScriptFault}
use Rattle.fault_messages.specs.declared.fault.ScriptFault.TheVariants as fault

-- a value with the place after it, or a fault
abbrev pub ScriptRead : Type 0 → Type 0
ScriptRead X = Result (X × Place) ScriptFault

-- a field that passes the end, one whose value is not allowed, and another version
abbrev pub script_short : ℕ → ScriptFault
script_short at = fault.Short at

abbrev pub script_field : ℕ → ScriptFault
script_field at = fault.Field at

abbrev pub script_version : ℕ → ScriptFault
script_version found = fault.Version found

-- the partition's number, and the place after it
unfoldable pub partition_at : ℕ → Place → Result Place ScriptFault
partition_at p place = listed_at script_short script_field w8 (λ id. id == p) place >>= λ field. Ok field.1

-- the number of cues, at most 4000000000
unfoldable pub cue_count_at : Place → ScriptRead ℕ
cue_count_at place = listed_at script_short script_field w64 (λ total. nat_le total 4000000000) place

-- the slot of a byte from 0 to 2
abbrev pub slot_of_byte : ℕ → CueSlot
slot_of_byte byte = if byte == 0 then Away else Mine (byte == 2)

-- whose slot it is
unfoldable pub cue_slot_at : Place → ScriptRead CueSlot
cue_slot_at place = do
  byte ← listed_at script_short script_field w8 (λ byte. nat_le byte 2) place
  Ok (slot_of_byte byte.0, byte.1)

-- whether a kind of at most so much may stand, which is none in a slot of the partition's own
abbrev pub is_heard : ℕ → CueSlot → ℕ → Bool
is_heard most mine kind = if kind == 0 then true else is_away mine && nat_le kind most

-- a message that others put into the channel that partition p calls so
unfoldable pub message_at : Option ℕ → ℕ → Place → ScriptRead OwnTraffic
message_at most name place = do
  count ← listed_at script_short script_field w16 (is_length most) place
  bytes ← field_bytes script_short count.0 count.1
  Ok (OwnPuts name bytes.0, bytes.1)

-- a message into a channel of which partition p is a destination
unfoldable pub put_message_at : Conf → ℕ → Place → ScriptRead OwnTraffic
put_message_at conf p place = do
  name ← listed_at script_short script_field w8 (λ name. is_some (most_heard conf p name)) place
  message_at (most_heard conf p name.0) name.0 name.1

-- a message that was taken from a queue whose source is partition p
unfoldable pub take_at : Conf → ℕ → Place → ScriptRead OwnTraffic
take_at conf p place = do
  name ← listed_at script_short script_field w8 (gives_queue conf p) place
  Ok (OwnTakes name.0, name.1)

-- a signal over a link of a number that goes to partition p
unfoldable pub signal_at : Conf → ℕ → Place → ScriptRead OwnTraffic
signal_at conf p place = do
  number ← listed_at script_short script_field w8 (signals conf p) place
  Ok (OwnSignals number.0, number.1)

-- traffic of a kind
abbrev pub traffic_of_kind : Conf → ℕ → ℕ → Place → ScriptRead OwnTraffic
traffic_of_kind conf p kind place =
    if kind == 0 then Ok (OwnStill, place)
    else if kind == 1 then put_message_at conf p place
    else if kind == 2 then take_at conf p place
    else signal_at conf p place

-- what others did to a channel of partition p, or over a link to it
unfoldable pub traffic_at : Conf → ℕ → CueSlot → Place → ScriptRead OwnTraffic
traffic_at conf p mine place = do
  kind ← listed_at script_short script_field w8 (is_heard 3 mine) place
  traffic_of_kind conf p kind.0 kind.1

-- the status of a reset
unfoldable pub reset_at : Mode → Place → ScriptRead (Option Order)
reset_at mode place = do
  status ← number_at script_short w32 place
  Ok (Some (order.Reset mode status.0), status.1)

-- an order of a kind from 0 to 6
abbrev pub order_of_kind : ℕ → Place → ScriptRead (Option Order)
order_of_kind kind place =
    if kind == 0 then Ok (None, place)
    else if kind == 1 then Ok (Some order.Halt, place)
    else if kind == 2 then Ok (Some order.Suspend, place)
    else if kind == 3 then Ok (Some order.Resume, place)
    else if kind == 4 then Ok (Some order.Shutdown, place)
    else if kind == 5 then reset_at mode.Cold place
    else reset_at mode.Warm place

-- the order that another partition gave
unfoldable pub order_at : CueSlot → Place → ScriptRead (Option Order)
order_at mine place = do
  kind ← listed_at script_short script_field w8 (is_heard 6 mine) place
  order_of_kind kind.0 kind.1

-- the hypervisor event of a byte from 0 to 3
abbrev pub event_of_byte : ℕ → WholeEvent
event_of_byte byte =
    if byte == 0 then NoEvent
    else if byte == 1 then AllReset mode.Cold
    else if byte == 2 then AllReset mode.Warm
    else AllHalted

-- whether a byte is a hypervisor event, which is a halt in the last cue alone
abbrev pub is_event : Bool → ℕ → Bool
is_event last byte = if nat_le byte 2 then true else last && byte == 3

-- the hypervisor event
unfoldable pub event_at : Bool → Place → ScriptRead WholeEvent
event_at last place = do
  byte ← listed_at script_short script_field w8 (is_event last) place
  Ok (event_of_byte byte.0, byte.1)

-- bytes that were shown
unfoldable pub shown_words_at : Place → ScriptRead Sight
shown_words_at place = do
  count ← listed_at script_short script_field w8 is_shown place
  bytes ← field_bytes script_short count.0 count.1
  Ok (Words bytes.0, bytes.1)

-- a sight of a kind
abbrev pub sight_of_kind : ℕ → Place → ScriptRead Sight
sight_of_kind kind place =
    if kind == 0 then Ok (Unseen, place)
    else if kind == 1 then Ok (NotKept, place)
    else shown_words_at place

-- whether a kind of sight may stand: something in a slot of a system partition's own alone
abbrev pub is_sight : Bool → CueSlot → ℕ → Bool
is_sight system mine kind = if kind == 0 then true else not (is_away mine) && (system && nat_le kind 2)

-- what was shown
unfoldable pub cue_sight_at : Bool → CueSlot → Place → ScriptRead Sight
cue_sight_at system mine place = do
  kind ← listed_at script_short script_field w8 (is_sight system mine) place
  sight_of_kind kind.0 kind.1

-- a cue for partition p, the last one or not
unfoldable pub cue_at : Conf → ℕ → Bool → Place → ScriptRead Cue
cue_at conf p last place = do
  mine ← cue_slot_at place
  traffic ← traffic_at conf p mine.0 mine.1
  order ← order_at mine.0 traffic.1
  whole ← event_at last order.1
  seen ← cue_sight_at (is_system_partition conf p) mine.0 whole.1
  Ok (record { mine = mine.0; traffic = traffic.0; order = order.0; whole = whole.0; seen = seen.0 }, seen.1)

-- an entry of another cue, whose first byte is at a place; one that is plain is Field there
unfoldable pub other_at : Conf → ℕ → Bool → ℕ → Place → ScriptRead Entry
other_at conf p last at place = do
  cue ← cue_at conf p last place
  unless (is_none (plain_kind cue.0)) (fault.Field at) (Other cue.0, cue.1)

-- an entry of plain cues, where this many cues are left
unfoldable pub alike_at : Bool → ℕ → Place → ScriptRead Entry
alike_at own cues place = do
  count ← listed_at script_short script_field w32 (λ count. nat_le 1 count && nat_le count cues) place
  Ok (Alike own count.0, count.1)

-- whether a byte is the kind of an entry after one that repeats a plain cue, or after another: two that repeat the same one never meet
abbrev pub is_entry_kind : Option Bool → ℕ → Bool
is_entry_kind None kind = nat_le kind 2
is_entry_kind (Some own) kind = nat_le kind 2 && not (kind == alike_byte own)

-- the rest of an entry of a kind, whose first byte is at a place
abbrev pub entry_of_kind : Conf → ℕ → ℕ → ℕ → ℕ → Place → ScriptRead Entry
entry_of_kind conf p cues at kind place =
    if kind == 0 then alike_at false cues place
    else if kind == 1 then alike_at true cues place
    else other_at conf p (cues == 1) at place

-- an entry, where this many cues are left
unfoldable pub script_entry_at : Conf → ℕ → ℕ → Option Bool → Place → ScriptRead Entry
script_entry_at conf p cues last place = do
  kind ← listed_at script_short script_field w8 (is_entry_kind last) place
  entry_of_kind conf p cues place.at kind.0 kind.1

-- entries until no cues are left, and at most this many
unfoldable pub script_entries_at : Conf → ℕ → ℕ → ℕ → Option Bool → Place → ScriptRead (List Entry)
script_entries_at conf p zero cues last place = Ok ([], place)
script_entries_at conf p (suc most) cues last place =
    if cues == 0 then Ok ([], place)
    else (script_entry_at conf p cues last place >>= λ entry.
    script_entries_at conf p most (cues - cue_count entry.0) (plain_cue_of entry.0) entry.1 >>= λ later.
    Ok (entry.0 ∷ later.0, later.1))

-- the head and the entries of a script for partition p: each entry has a cue at least, so there are no more entries than cues
unfoldable pub body_at : Conf → ℕ → Place → ScriptRead (List Entry)
body_at conf p place = do
  name ← magic_at script_short fault.Magic (codes "XMSC") place
  version ← version_at script_short script_version 1 name
  id ← partition_at p version.1
  total ← cue_count_at id
  script_entries_at conf p total.0 total.0 None total.1

-- the entries of a script for partition p, with nothing after them
unfoldable pub entries_of : Conf → ℕ → List ℕ → Result (List Entry) ScriptFault
entries_of conf p bytes = do
  entries ← body_at conf p (cursor_start bytes)
  unless (left entries.1 == 0) (fault.Trailing entries.1.at) entries.0

-- the cues of a script for partition p, or its first fault
unfoldable pub script_read : Conf → ℕ → List ℕ → Result (List Cue) ScriptFault
script_read conf p bytes = entries_of conf p bytes >>= λ entries. Ok (expanded entries)
