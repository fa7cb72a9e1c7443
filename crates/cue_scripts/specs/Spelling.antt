-- The one spelling of a script, byte by byte.
use Rattle.std.specs.Prelude.{◌≡◌, ℕ, Bool, true, false, List, [], ◌∷◌, ◌++◌, length, codes, Option, Some, None}
use Rattle.std.specs.Int.{w16, w32, w64, to_be_bytes}
use Rattle.std.specs.List.{flat_map}
use Rattle.xm_base.specs.declared.partition.Mode.{Mode}
use Rattle.xm_base.specs.declared.partition.Mode.TheVariants as mode
use Rattle.xm_base.specs.declared.partition.Order.{Order}
use Rattle.xm_base.specs.declared.partition.Order.TheVariants as order
use Rattle.xm_conf.specs.Configuration.{Conf}
use Rattle.machine_model.specs.Cue.{Away, Cue, Mine, CueSlot}
use Rattle.machine_model.specs.Emission.{AllHalted, AllReset, NoEvent, NotKept, OwnPuts, OwnSignals, OwnStill, OwnTakes, OwnTraffic, Sight, Unseen, WholeEvent, Words}
use Rattle.cue_scripts.specs.Entries.{Alike, Entry, Other, runs}
use Rattle.cue_scripts.specs.Script.{IsScript}

-- the byte of a slot
abbrev pub slot_byte : CueSlot → ℕ
slot_byte Away = 0
slot_byte (Mine false) = 1
slot_byte (Mine true) = 2

-- traffic: its kind, the partition's name for the channel, and a message after its length; or the number of a link
unfoldable pub traffic_text : OwnTraffic → List ℕ
traffic_text OwnStill = 0 ∷ []
traffic_text (OwnPuts name bytes) = 1 ∷ name ∷ to_be_bytes w16 (length bytes) ++ bytes
traffic_text (OwnTakes name) = 2 ∷ name ∷ []
traffic_text (OwnSignals number) = 3 ∷ number ∷ []

-- the byte of a reset
abbrev pub reset_byte : Mode → ℕ
reset_byte mode.Cold = 5
reset_byte mode.Warm = 6

-- an order: its kind, and the status of a reset
unfoldable pub order_text : Option Order → List ℕ
order_text None = 0 ∷ []
order_text (Some order.Halt) = 1 ∷ []
order_text (Some order.Suspend) = 2 ∷ []
order_text (Some order.Resume) = 3 ∷ []
order_text (Some order.Shutdown) = 4 ∷ []
order_text (Some (order.Reset mode status)) = reset_byte mode ∷ to_be_bytes w32 status

-- the byte of a hypervisor event
abbrev pub event_byte : WholeEvent → ℕ
event_byte NoEvent = 0
event_byte (AllReset mode.Cold) = 1
event_byte (AllReset mode.Warm) = 2
event_byte AllHalted = 3

-- what is seen: its kind, and bytes after their number
unfoldable pub sight_text : Sight → List ℕ
sight_text Unseen = 0 ∷ []
sight_text NotKept = 1 ∷ []
sight_text (Words bytes) = 2 ∷ length bytes ∷ bytes

-- the five parts of a cue
unfoldable pub cue_text : Cue → List ℕ
cue_text cue = slot_byte cue.mine ∷ traffic_text cue.traffic ++ order_text cue.order ++ event_byte cue.whole ∷ sight_text cue.seen

-- the byte of an entry that repeats a plain cue
abbrev pub alike_byte : Bool → ℕ
alike_byte false = 0
alike_byte true = 1

-- an entry: its kind, and how often a cue is repeated, or the one other cue
unfoldable pub entry_text : Entry → List ℕ
entry_text (Alike own count) = alike_byte own ∷ to_be_bytes w32 count
entry_text (Other cue) = 2 ∷ cue_text cue

-- the head of a script for partition p of this many cues: its name, version 1, p and the number of cues
unfoldable pub script_head_text : ℕ → ℕ → List ℕ
script_head_text p count = codes "XMSC" ++ to_be_bytes w16 1 ++ p ∷ to_be_bytes w64 count

-- the script of partition p with these cues
unfoldable pub script_text : ℕ → List Cue → List ℕ
script_text p cues = script_head_text p (length cues) ++ flat_map entry_text (runs cues)

-- the bytes are the script of cues that partition p may receive
pub record IsSpelledScript (conf : Conf) (p : ℕ) (bytes : List ℕ) (cues : List Cue) : Type 0 where
  pub script : IsScript conf p cues
  pub text : bytes ≡ script_text p cues
