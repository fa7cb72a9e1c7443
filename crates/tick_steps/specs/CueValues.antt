-- What a cue is as a value: the bytes that it lends stand in a list.
use Rattle.cue_scripts.specs.Values.{event_value, slot_value}
use Rattle.machine_model.specs.Cue.{Cue}
use Rattle.machine_model.specs.Emission.{NotKept, OwnPuts, OwnSignals, OwnStill, OwnTakes, OwnTraffic, Sight, Unseen, Words}
use Rattle.tick_steps.specs.declared.cue.Cue as code
use Rattle.tick_steps.specs.declared.cue.Sight as code_sight
use Rattle.tick_steps.specs.declared.cue.Sight.TheVariants as sight
use Rattle.tick_steps.specs.declared.cue.Traffic as code_traffic
use Rattle.tick_steps.specs.declared.cue.Traffic.TheVariants as traffic

-- the traffic of others
abbrev pub traffic_value : code_traffic.Traffic → OwnTraffic
traffic_value traffic.Nothing = OwnStill
traffic_value (traffic.Put chan bytes) = OwnPuts chan bytes.now
traffic_value (traffic.Take chan) = OwnTakes chan
traffic_value (traffic.Signal number) = OwnSignals number

-- what was shown
abbrev pub sight_value : code_sight.Sight → Sight
sight_value sight.Nothing = Unseen
sight_value sight.NotKept = NotKept
sight_value (sight.Words bytes) = Words bytes.now

abbrev pub cue_value : code.Cue → Cue
cue_value cue = record {
  mine = slot_value cue.mine;
  traffic = traffic_value cue.traffic;
  order = cue.order;
  whole = event_value cue.whole;
  seen = sight_value cue.seen;
}
