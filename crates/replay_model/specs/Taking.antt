-- Which cues a partition can take in a state of its own, and which cue of a script is the first that it cannot.
use Rattle.std.specs.Prelude.{ℕ, suc, ◌==◌, ◌&&◌, not, nat_lt, Bool, true, false, if◌then◌else◌, List, [], ◌∷◌, length, Option, Some, None, slice_index_or}
use Rattle.guest_bus.specs.Memory.{all_from, is_writable}
use Rattle.xm_base.specs.declared.partition.Mode.{Mode}
use Rattle.xm_base.specs.declared.partition.Mode.TheVariants as mode
use Rattle.xm_conf.specs.declared.channel.ChanKind.{ChanKind}
use Rattle.xm_conf.specs.declared.channel.ChanKind.TheVariants as kind
use Rattle.xm_ports.specs.Channels.{Content, Queuing, Sampling}
use Rattle.machine_model.specs.Alone.{Alone, alone_local, alone_step}
use Rattle.machine_model.specs.Cue.{Away, Cue, Mine, CueSlot}
use Rattle.machine_model.specs.LocalTick.{LocalTick}
use Rattle.machine_model.specs.Machine.{act_of}
use Rattle.machine_model.specs.Observed.{CurrentPlan, HealthCounts, HealthEntryOf, Observation, PartitionStatus, PlanStatus, Question, SystemStatus, TraceCounts, TraceEntryOf, asks}
use Rattle.machine_model.specs.Partition.{areas_of, takes_turns}
use Rattle.machine_model.specs.Emission.{AllHalted, AllReset, NoEvent, NotKept, OwnPuts, OwnSignals, OwnStill, OwnTakes, OwnTraffic, Sight, Unseen, WholeEvent, Words}
use Rattle.machine_model.specs.View.{PartitionView, PortChannel}
use Rattle.machine_model.specs.Whole.{event_of}

-- whether a queue of this kind holds as many messages as it may; a sampling channel never does
abbrev pub is_queue_full : ChanKind → Content → Bool
is_queue_full (kind.Sampling refresh) content = false
is_queue_full (kind.Queuing most) (Sampling sample) = false
is_queue_full (kind.Queuing most) (Queuing messages) = not (nat_lt (length messages) most)

-- whether it is a queue in which no message waits
abbrev pub is_empty : Content → Bool
is_empty (Sampling sample) = false
is_empty (Queuing []) = true
is_empty (Queuing (first ∷ later)) = false

-- whether the copy of a channel is a queue that is full
abbrev pub is_full_copy : Option PortChannel → Option Content → Bool
is_full_copy None copy = false
is_full_copy (Some channel) None = false
is_full_copy (Some channel) (Some content) = is_queue_full channel.shape.kind content

-- whether it is a queue that is empty
abbrev pub is_empty_copy : Option Content → Bool
is_empty_copy None = false
is_empty_copy (Some content) = is_empty content

-- whether the traffic of others can be: a queue that gets a message is not full, and one that gives a message is not empty;
-- a signal always can
abbrev pub takes_traffic : PartitionView → List (Option Content) → OwnTraffic → Bool
takes_traffic view copies OwnStill = true
takes_traffic view copies (OwnPuts name bytes) = not (is_full_copy (slice_index_or view.channels name None) (slice_index_or copies name None))
takes_traffic view copies (OwnTakes name) = not (is_empty_copy (slice_index_or copies name None))
takes_traffic view copies (OwnSignals number) = true

-- the observing call that the partition makes in the tick, where it makes one
abbrev pub asked_in : CueSlot → PartitionView → Alone → Option Observation
asked_in Away view a = None
asked_in (Mine first) view a = if takes_turns a.state.state then asks view a.state a.time first else None

-- whether a call asks for an entry of a log
abbrev pub asks_entry : Question → Bool
asks_entry (PartitionStatus id) = false
asks_entry SystemStatus = false
asks_entry CurrentPlan = false
asks_entry PlanStatus = false
asks_entry (TraceEntryOf id number) = true
asks_entry (TraceCounts id) = false
asks_entry (HealthEntryOf id number) = true
asks_entry (HealthCounts id) = false

-- whether the answer to a call may all be written at its place
abbrev pub may_write : PartitionView → Observation → Bool
may_write view call = all_from (is_writable (areas_of view)) call.address call.size

-- whether nothing is shown
abbrev pub is_no_sight : Sight → Bool
is_no_sight Unseen = true
is_no_sight NotKept = false
is_no_sight (Words bytes) = false

-- whether this is what a call is shown: bytes of its length where they may all be written, that an entry is not kept where it asks for one,
-- and nothing where there is no call or its answer may not be written
abbrev pub takes_sight : PartitionView → Option Observation → Sight → Bool
takes_sight view None seen = is_no_sight seen
takes_sight view (Some call) Unseen = not (may_write view call)
takes_sight view (Some call) NotKept = asks_entry call.question
takes_sight view (Some call) (Words bytes) = may_write view call && length bytes == call.size

-- whether two resets of the hypervisor are the same
abbrev pub is_same_mode : Mode → Mode → Bool
is_same_mode mode.Cold mode.Cold = true
is_same_mode mode.Cold mode.Warm = false
is_same_mode mode.Warm mode.Cold = false
is_same_mode mode.Warm mode.Warm = true

-- whether two hypervisor events are the same
abbrev pub is_same_event : WholeEvent → WholeEvent → Bool
is_same_event NoEvent NoEvent = true
is_same_event NoEvent (AllReset one) = false
is_same_event NoEvent AllHalted = false
is_same_event (AllReset one) NoEvent = false
is_same_event (AllReset one) (AllReset other) = is_same_mode one other
is_same_event (AllReset one) AllHalted = false
is_same_event AllHalted NoEvent = false
is_same_event AllHalted (AllReset other) = false
is_same_event AllHalted AllHalted = true

-- whether a hypervisor event can be: in a slot of its own it is that of the partition's own act, and none where it does no work
abbrev pub takes_event : CueSlot → Option LocalTick → WholeEvent → Bool
takes_event Away tick event = true
takes_event (Mine first) tick event = is_same_event (event_of (act_of tick)) event

-- whether the partition can take a cue in a state
unfoldable pub takes_cue : PartitionView → Alone → Cue → Bool
takes_cue view a cue =
    takes_traffic view a.copies cue.traffic && takes_sight view (asked_in cue.mine view a) cue.seen && takes_event cue.mine (alone_local view a cue) cue.whole

-- the first cue of a script that cannot be taken in the state which the cues before it leave, counted from a number
abbrev pub first_untaken : PartitionView → Alone → ℕ → List Cue → Option ℕ
first_untaken view a tick [] = None
first_untaken view a tick (cue ∷ later) =
    if takes_cue view a cue then first_untaken view (alone_step view a cue) (suc tick) later else Some tick
