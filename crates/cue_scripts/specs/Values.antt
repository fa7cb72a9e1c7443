-- What the entries of a script that is kept are as values.
use Rattle.std.specs.Prelude.{List, map}
use Rattle.xm_base.specs.declared.partition.Mode.TheVariants as mode
use Rattle.machine_model.specs.Cue.{Away, Cue, Mine, CueSlot}
use Rattle.machine_model.specs.Emission.{AllHalted, AllReset, NoEvent, NotKept, OwnPuts, OwnSignals, OwnStill, OwnTakes, OwnTraffic, Sight, Unseen, WholeEvent, Words}
use Rattle.cue_scripts.specs.Entries.{Alike, Entry, Other, first_cue}
use Rattle.cue_scripts.specs.declared.cue.ScriptCue as code_cue
use Rattle.cue_scripts.specs.declared.cue.CueSlot as code_slot
use Rattle.cue_scripts.specs.declared.cue.CueSlot.TheVariants as slot
use Rattle.cue_scripts.specs.declared.cue.ScriptTraffic.{ScriptTraffic}
use Rattle.cue_scripts.specs.declared.cue.ScriptTraffic.TheVariants as traffic
use Rattle.cue_scripts.specs.declared.cue.WholeEvent as code_event
use Rattle.cue_scripts.specs.declared.cue.WholeEvent.TheVariants as event
use Rattle.cue_scripts.specs.declared.cue.ScriptSight.{ScriptSight}
use Rattle.cue_scripts.specs.declared.cue.ScriptSight.TheVariants as sight
use Rattle.cue_scripts.specs.declared.cue.ScriptEntry.{ScriptEntry}
use Rattle.cue_scripts.specs.declared.cue.ScriptEntry.TheVariants as entry

-- whose slot it is
abbrev pub slot_value : code_slot.CueSlot → CueSlot
slot_value slot.Away = Away
slot_value (slot.Mine first) = Mine first

-- the traffic of others
abbrev pub script_traffic_value : ScriptTraffic → OwnTraffic
script_traffic_value traffic.Nothing = OwnStill
script_traffic_value (traffic.Put chan bytes) = OwnPuts chan bytes.items
script_traffic_value (traffic.Take chan) = OwnTakes chan
script_traffic_value (traffic.Signal number) = OwnSignals number

-- the hypervisor event
abbrev pub event_value : code_event.WholeEvent → WholeEvent
event_value event.Nothing = NoEvent
event_value event.Cold = AllReset mode.Cold
event_value event.Warm = AllReset mode.Warm
event_value event.Halt = AllHalted

-- what was shown
abbrev pub script_sight_value : ScriptSight → Sight
script_sight_value sight.Nothing = Unseen
script_sight_value sight.NotKept = NotKept
script_sight_value (sight.Words bytes) = Words bytes.items

-- a cue
abbrev pub script_cue_value : code_cue.ScriptCue → Cue
script_cue_value cue = record {
  mine = slot_value cue.mine;
  traffic = script_traffic_value cue.traffic;
  order = cue.order;
  whole = event_value cue.whole;
  seen = script_sight_value cue.seen;
}

-- an entry
abbrev pub entry_value : ScriptEntry → Entry
entry_value (entry.Alike own count) = Alike own count
entry_value entry.First = Other first_cue
entry_value (entry.Other cue) = Other (script_cue_value cue.value)

-- entries
abbrev pub entry_values : List ScriptEntry → List Entry
entry_values entries = map entry_value entries
