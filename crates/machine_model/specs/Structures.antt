-- The structures that hypercalls write: big endian fields, one after the other.
use Rattle.std.specs.Prelude.{ℕ, ◌-◌, ◌==◌, ◌||◌, Bool, true, false, nat_le, List, ◌∷◌, ◌++◌, length, Option, Some, None}
use Rattle.std.specs.Int.{to_be_bytes, w16, w32, w64}
use Rattle.cyclic_plans.specs.PlanClock.{CyclicClock}
use Rattle.cyclic_plans.specs.declared.slots.Here.{Here}
use Rattle.xm_base.specs.declared.partition.State.{State}
use Rattle.xm_base.specs.declared.partition.State.TheVariants.{Ready, Idle, Suspended, Halted}
use Rattle.xm_conf.specs.Health.{action_row, event_row}
use Rattle.xm_conf.specs.declared.channel.ChanKind.{ChanKind}
use Rattle.xm_conf.specs.declared.channel.ChanKind.TheVariants as kind
use Rattle.xm_ports.specs.Channels.{Content, HeldSample, messages_of, most_of, sample_of}
use Rattle.xm_traces.specs.Ring.{Kept, first_kept}
use Rattle.xm_traces.specs.declared.entry.TraceEntry.{TraceEntry}
use Rattle.health_monitor.specs.declared.entry.HealthEntry.{HealthEntry}
use Rattle.machine_model.specs.Partition.{PartitionState}

-- a word, and a double word
abbrev pub word : ℕ → List ℕ
word n = to_be_bytes w32 n

abbrev pub double : ℕ → List ℕ
double n = to_be_bytes w64 n

-- a number that stands for none
abbrev pub none_word : ℕ
none_word = 0xFFFF_FFFF

-- a number, or the word for none
abbrev pub or_none : Option ℕ → ℕ
or_none None = none_word
or_none (Some n) = n

-- the number of a state
abbrev pub state_number : State → ℕ
state_number Ready = 0
state_number Idle = 1
state_number Suspended = 2
state_number Halted = 3

-- a flag as a number
abbrev pub flag : Bool → ℕ
flag true = 1
flag false = 0

-- the status of a partition, 20 bytes
unfoldable pub partition_status : PartitionState → List ℕ
partition_status ps = word (state_number ps.state) ++ word ps.resets ++ word ps.reset_status ++ double ps.clocks.execution

-- the status of the system, 8 bytes: how often the hypervisor was reset, and the number of partitions
unfoldable pub system_status : ℕ → ℕ → List ℕ
system_status resets parts = word resets ++ word parts

-- the number of the slot, where there is one
abbrev pub slot_number : Option Here → Option ℕ
slot_number None = None
slot_number (Some here) = Some here.slot

-- the status of the plan, 20 bytes
unfoldable pub plan_status : CyclicClock → Option Here → List ℕ
plan_status clock here = double clock.frame_start ++ word clock.plan ++ word (or_none clock.asked) ++ word (or_none (slot_number here))

-- whether a message of this age is within the refresh period; a period of zero takes all
abbrev pub is_valid : ℕ → ℕ → Bool
is_valid refresh age = refresh == 0 || nat_le age refresh

-- the refresh period of a sampling channel
abbrev pub refresh_of : ChanKind → ℕ
refresh_of (kind.Sampling refresh) = refresh
refresh_of (kind.Queuing most) = 0

-- whether a sample is valid, as a number
abbrev pub validity : ChanKind → ℕ → HeldSample → ℕ
validity the_kind time sample = flag (is_valid (refresh_of the_kind) (time - sample.time))

-- the status of a sampling port, 16 bytes
abbrev pub sample_status : ChanKind → ℕ → Option HeldSample → List ℕ
sample_status the_kind time None = double 0 ++ word 0 ++ word 0
sample_status the_kind time (Some sample) = double sample.time ++ word (length sample.bytes) ++ word (validity the_kind time sample)

unfoldable pub sampling_status : ChanKind → ℕ → Content → List ℕ
sampling_status the_kind time content = sample_status the_kind time (sample_of content)

-- the status of a queuing port, 8 bytes
unfoldable pub queuing_status : ChanKind → Content → List ℕ
queuing_status the_kind content = word (length (messages_of content)) ++ word (most_of the_kind)

-- a trace entry, 24 bytes
unfoldable pub trace_bytes : TraceEntry → List ℕ
trace_bytes entry = double entry.time ++ word entry.bits ++ word entry.seq ++ entry.load

-- a health entry, 20 bytes
unfoldable pub health_bytes : HealthEntry → List ℕ
health_bytes entry =
    double entry.time ++ word entry.seq ++ (event_row entry.event).number ∷ (action_row entry.action).number ∷ to_be_bytes w16 0 ++ word entry.word

-- the counts of entries, 8 bytes: the first number that is kept, and the next number
unfoldable pub counts_bytes : {T : Type 0} → Kept T → List ℕ
counts_bytes kept = word (first_kept kept) ++ word kept.next
