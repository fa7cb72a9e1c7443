-- Rows worked by hand on cues that can be taken and cues that cannot, each at its edge.
use Rattle.std.specs.Prelude.{◌≡◌, ℕ, false, true, Bool, List, [], ◌∷◌, length, Option, None, Some, slice_index_or}
use Rattle.xm_base.specs.declared.partition.Mode.TheVariants as mode
use Rattle.xm_conf.specs.declared.channel.ChanKind.TheVariants as kind
use Rattle.xm_ports.specs.Channels.{Content, HeldSample, Queuing, Sampling}
use Rattle.machine_model.specs.Alone.{Alone}
use Rattle.machine_model.specs.Cue.{Away, Mine}
use Rattle.machine_model.specs.LocalTick.{LocalTick}
use Rattle.machine_model.specs.Observed.{HealthEntryOf, HealthCounts, Observation, SystemStatus, TraceEntryOf, asks}
use Rattle.machine_model.specs.Partition.{takes_turns}
use Rattle.machine_model.specs.Emission.{AllHalted, AllReset, NoEvent, Nothing, NotKept, OwnPuts, OwnSignals, OwnTakes, Unseen, UponAll, WholeEvent, Words}
use Rattle.machine_model.specs.View.{PartitionView, PortChannel}
use Rattle.replay_model.specs.Taking.{asked_in, may_write, takes_event, takes_sight, takes_traffic}

-- a channel of a partition whose messages have 4 bytes at most: a queue of two, and one for samples
abbrev pub queue_of_two : ℕ → PortChannel
queue_of_two name = record { shape = record { kind = kind.Queuing 2; length = 4 }; name = name }

abbrev pub samples : ℕ → ℕ → PortChannel
samples refresh name = record { shape = record { kind = kind.Sampling refresh; length = 4 }; name = name }

-- a queue of two takes a message after one, and not after two; it gives one of one, and none of none; a signal can always be
pub record QueueRows : Type 0 where
  pub room : (view : PartitionView) (copies : List (Option Content)) (q : ℕ) (message one : List ℕ) → slice_index_or view.channels q None ≡ Some (queue_of_two q)
      → slice_index_or copies q None ≡ Some (Queuing (one ∷ [])) → takes_traffic view copies (OwnPuts q message) ≡ true
  pub full : (view : PartitionView) (copies : List (Option Content)) (q : ℕ) (message one two : List ℕ) → slice_index_or view.channels q None ≡ Some (queue_of_two q)
      → slice_index_or copies q None ≡ Some (Queuing (one ∷ two ∷ [])) → takes_traffic view copies (OwnPuts q message) ≡ false
  pub sample : (view : PartitionView) (copies : List (Option Content)) (q refresh : ℕ) (message : List ℕ) (held : Option HeldSample) → slice_index_or view.channels q None ≡ Some (samples refresh q)
      → slice_index_or copies q None ≡ Some (Sampling held) → takes_traffic view copies (OwnPuts q message) ≡ true
  pub first : (view : PartitionView) (copies : List (Option Content)) (q : ℕ) (one : List ℕ) (later : List (List ℕ))
      → slice_index_or copies q None ≡ Some (Queuing (one ∷ later)) → takes_traffic view copies (OwnTakes q) ≡ true
  pub empty : (view : PartitionView) (copies : List (Option Content)) (q : ℕ)
      → slice_index_or copies q None ≡ Some (Queuing []) → takes_traffic view copies (OwnTakes q) ≡ false
  pub signal : (view : PartitionView) (copies : List (Option Content)) (number : ℕ) → takes_traffic view copies (OwnSignals number) ≡ true

-- a call for the status of the system at an address, which writes 8 bytes, and for an entry of each log and a count
abbrev pub status_call : ℕ → Observation
status_call address = record { question = SystemStatus; address = address; size = 8 }

abbrev pub trace_call : ℕ → Observation
trace_call address = record { question = TraceEntryOf 1 0; address = address; size = 24 }

abbrev pub health_call : ℕ → Observation
health_call address = record { question = HealthEntryOf 1 0; address = address; size = 20 }

abbrev pub count_call : ℕ → Observation
count_call address = record { question = HealthCounts 1; address = address; size = 8 }

-- what can be shown: nothing without a call, and bytes of a call's length where they may be written; nothing where they may not; and that an
-- entry is not kept to a call for one
pub record SightRows : Type 0 where
  pub nothing : (view : PartitionView) → takes_sight view None Unseen ≡ true
  pub unasked : (view : PartitionView) (bytes : List ℕ) → takes_sight view None (Words bytes) ≡ false
  pub no_entry : (view : PartitionView) → takes_sight view None NotKept ≡ false
  pub words : (view : PartitionView) (address : ℕ) (bytes : List ℕ) → may_write view (status_call address) ≡ true → length bytes ≡ 8
      → takes_sight view (Some (status_call address)) (Words bytes) ≡ true
  pub longer : (view : PartitionView) (address : ℕ) (bytes : List ℕ) → length bytes ≡ 20 → takes_sight view (Some (status_call address)) (Words bytes) ≡ false
  pub no_place : (view : PartitionView) (address : ℕ) (bytes : List ℕ) → may_write view (status_call address) ≡ false
      → takes_sight view (Some (status_call address)) (Words bytes) ≡ false
  pub hidden : (view : PartitionView) (address : ℕ) → may_write view (status_call address) ≡ true → takes_sight view (Some (status_call address)) Unseen ≡ false
  pub refused : (view : PartitionView) (address : ℕ) → may_write view (status_call address) ≡ false → takes_sight view (Some (status_call address)) Unseen ≡ true
  pub trace : (view : PartitionView) (address : ℕ) → takes_sight view (Some (trace_call address)) NotKept ≡ true
  pub health : (view : PartitionView) (address : ℕ) → takes_sight view (Some (health_call address)) NotKept ≡ true
  pub count : (view : PartitionView) (address : ℕ) → takes_sight view (Some (count_call address)) NotKept ≡ false

-- a call is asked for in a slot of its own alone, and where it takes its turn
pub record AskedRows : Type 0 where
  pub away : (view : PartitionView) (a : Alone) → asked_in Away view a ≡ None
  pub own : (view : PartitionView) (a : Alone) (first : Bool) → takes_turns a.state.state ≡ true → asked_in (Mine first) view a ≡ asks view a.state a.time first
  pub rests : (view : PartitionView) (a : Alone) (first : Bool) → takes_turns a.state.state ≡ false → asked_in (Mine first) view a ≡ None

-- a hypervisor event comes of others in any slot but its own, and there of its own act alone
pub record EventRows : Type 0 where
  pub away : (tick : Option LocalTick) (event : WholeEvent) → takes_event Away tick event ≡ true
  pub none : (first : Bool) → takes_event (Mine first) None NoEvent ≡ true
  pub idle : (first : Bool) → takes_event (Mine first) None (AllReset mode.Warm) ≡ false
  pub quiet : (first : Bool) (tick : LocalTick) → tick.act ≡ Nothing → takes_event (Mine first) (Some tick) AllHalted ≡ false
  pub halts : (first : Bool) (tick : LocalTick) → tick.act ≡ UponAll AllHalted → takes_event (Mine first) (Some tick) AllHalted ≡ true
  pub unreceived : (first : Bool) (tick : LocalTick) → tick.act ≡ UponAll AllHalted → takes_event (Mine first) (Some tick) NoEvent ≡ false
  pub resets : (first : Bool) (tick : LocalTick) → tick.act ≡ UponAll (AllReset mode.Cold) → takes_event (Mine first) (Some tick) (AllReset mode.Cold) ≡ true
  pub other : (first : Bool) (tick : LocalTick) → tick.act ≡ UponAll (AllReset mode.Cold) → takes_event (Mine first) (Some tick) (AllReset mode.Warm) ≡ false
