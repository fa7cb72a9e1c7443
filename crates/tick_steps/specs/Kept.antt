-- What a machine keeps of its last tick, and what each partition received in it.
use Rattle.std.specs.Prelude.{◌≡◌, ℕ, ◌+◌, ◌<◌, ◌&&◌, Bool, false, if◌then◌else◌, List, Option, None, Some, is_some}
use Rattle.guest_bus.specs.Memory.{Memory}
use Rattle.xm_conf.specs.Configuration.{Conf}
use Rattle.machine_model.specs.Cue.{Cue, cue, slot_of, unless_own}
use Rattle.machine_model.specs.Machine.{Happened, Machine, SlotTurn, happened, is_turn_of, order_for, run, sight, turn_of}
use Rattle.machine_model.specs.Emission.{Act, Directed, NoEvent, NotKept, Nothing, Sight, Unseen, WholeEvent, Words, reach_of}
use Rattle.machine_model.specs.Traffic.{Puts, Signals, Still, Takes, Traffic, heard_as}
use Rattle.machine_model.specs.Whole.{event_of}
use Rattle.system_state.specs.Serving.{sight_by, traffic_by}
use Rattle.system_state.specs.declared.served.Note.{Note}
use Rattle.system_state.specs.declared.served.Note.TheVariants as note
use Rattle.tick_steps.specs.Work.{act_beyond}
use Rattle.tick_steps.specs.declared.beyond.Beyond.{Beyond}

-- what happened in a tick as far as partitions receive it: whose slot it was and whether that partition worked, the traffic under the
-- channels' numbers in the system, an order, the hypervisor event, and what the slot's partition was shown
pub record KeptTick : Type 0 where
  pub turn : Option SlotTurn
  pub worked : Bool
  pub traffic : Traffic
  pub order : Option Directed
  pub event : WholeEvent
  pub seen : Sight

-- nothing, as before the first tick
abbrev pub no_kept : KeptTick
no_kept = record { turn = None; worked = false; traffic = Still; order = None; event = NoEvent; seen = Unseen }

-- what the partition of a slot is shown
abbrev pub shown_to : Machine → Option SlotTurn → Sight
shown_to g None = Unseen
shown_to g (Some turn) = sight g turn.part

-- what is kept of a tick
unfoldable pub kept_in : Happened → Sight → KeptTick
kept_in h seen = record {
  turn = h.turn;
  worked = is_some h.local;
  traffic = h.traffic;
  order = (reach_of h.act).directed;
  event = h.event;
  seen = seen;
}

unfoldable pub kept_tick : Machine → KeptTick
kept_tick g = kept_in (happened g) (shown_to g (turn_of g))

-- whose slot it was; in a gap there is no traffic
abbrev pub slot_partition : Option SlotTurn → ℕ
slot_partition None = 0
slot_partition (Some turn) = turn.part

-- what is kept of a tick with this act, this traffic in the system, and this shown to the slot's partition
abbrev pub kept_from : Option SlotTurn → Bool → Act → Traffic → Sight → KeptTick
kept_from turn worked act traffic seen =
    record { turn = turn; worked = worked; traffic = traffic; order = (reach_of act).directed; event = event_of act; seen = seen }

-- in the machine's next tick partitions receive nothing but whose slot it is: all that is kept of it is the slot, and whether its partition worked
pub record IsBareTick (g : Machine) : Type 0 where
  pub works : Bool
  pub kept : kept_tick g ≡ kept_from (turn_of g) works Nothing Still Unseen

-- each of this many ticks but the last is so
abbrev pub AreBareTicks : ℕ → Machine → Type 0
AreBareTicks done g = (k : ℕ) → k + 1 < done → IsBareTick (run g k)

-- what is kept of a tick by its slot, whether a partition worked, what its call noted and how it reached beyond, over the memory that the tick leaves
abbrev pub kept_by : Option SlotTurn → Bool → Note → Beyond → Memory → KeptTick
kept_by turn worked a_note reach memory = kept_from turn worked (act_beyond reach) (traffic_by (slot_partition turn) a_note memory) (sight_by a_note memory)

-- the traffic that a note of a partition records with these bytes
abbrev pub traffic_with : ℕ → Note → List ℕ → Traffic
traffic_with source note.Nothing bytes = Still
traffic_with source (note.Console at size) bytes = Still
traffic_with source (note.Trace entry) bytes = Still
traffic_with source (note.Put chan at size) bytes = Puts chan bytes
traffic_with source (note.Take chan) bytes = Takes chan
traffic_with source (note.Saw at size) bytes = Still
traffic_with source note.NotKept bytes = Still
traffic_with source (note.Signal number) bytes = Signals source number

-- what a note reports with these bytes of what was shown
abbrev pub sight_with : Note → List ℕ → Sight
sight_with note.Nothing bytes = Unseen
sight_with (note.Console at size) bytes = Unseen
sight_with (note.Trace entry) bytes = Unseen
sight_with (note.Put chan at size) bytes = Unseen
sight_with (note.Take chan) bytes = Unseen
sight_with (note.Saw at size) bytes = Words bytes
sight_with note.NotKept bytes = NotKept
sight_with (note.Signal number) bytes = Unseen

-- what is kept of a tick, with the bytes that its note named
abbrev pub kept_with : Option SlotTurn → Bool → Note → Beyond → List ℕ → KeptTick
kept_with turn worked a_note reach bytes = kept_from turn worked (act_beyond reach) (traffic_with (slot_partition turn) a_note bytes) (sight_with a_note bytes)

-- what partition p received in a tick of which this is kept: the traffic of others under its own names, an order on it, the hypervisor
-- event, and what it was shown in its slot
unfoldable pub kept_cue : Conf → KeptTick → ℕ → Cue
kept_cue conf kept p = record {
  mine = slot_of kept.turn p;
  traffic = unless_own (is_turn_of kept.turn p && kept.worked) (heard_as conf p kept.traffic);
  order = order_for kept.order p;
  whole = kept.event;
  seen = if is_turn_of kept.turn p then kept.seen else Unseen;
}

-- what is kept of a tick gives each partition its cue
abbrev pub KeepsCues : Type 0
KeepsCues = (g : Machine) (p : ℕ) → kept_cue g.system.conf (kept_tick g) p ≡ cue g p
