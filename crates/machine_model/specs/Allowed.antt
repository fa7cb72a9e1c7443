-- What a partition receives in a tick is as its channels and its calls allow.
use Rattle.std.specs.Prelude.{◌≡◌, ℕ, ◌<◌, Bool, List, length, IsSome, Option, None, Some, slice_index_or}
use Rattle.xm_conf.specs.Description.{described}
use Rattle.xm_conf.specs.Fits.{Fits}
use Rattle.xm_conf.specs.declared.channel.ChanKind.{ChanKind}
use Rattle.xm_conf.specs.declared.channel.ChanKind.TheVariants as chan_kind
use Rattle.xm_ports.specs.Channels.{Content, first_message, messages_of}
use Rattle.machine_model.specs.Facts.{HasFacts, IsComplete}
use Rattle.machine_model.specs.Machine.{Machine, answer_to, copies, happened}
use Rattle.machine_model.specs.Observed.{CurrentPlan, HealthCounts, HealthEntryOf, Observation, PartitionStatus, PlanStatus, Question, SystemStatus, TraceCounts, TraceEntryOf, asks}
use Rattle.machine_model.specs.Partition.{PartitionState}
use Rattle.machine_model.specs.Emission.{NotKept, OwnPuts, OwnSignals, OwnStill, OwnTakes, OwnTraffic, Sight, Unseen, Words}
use Rattle.machine_model.specs.Traffic.{heard_as}
use Rattle.machine_model.specs.View.{PartitionView, PortChannel, view_of}

-- a channel of a kind takes one more message: a sampling channel always does, and a queue in which fewer wait than its most
unfoldable pub TakesMore : ChanKind → Content → Type 0
TakesMore (chan_kind.Sampling refresh) content = Unit {0}
TakesMore (chan_kind.Queuing most) content = length (messages_of content) < most

-- traffic under a partition's own names is as its copies of the channels allow: one that gets a message takes one more, and in one that gives a message
-- one waits
unfoldable pub AllowsTraffic : PartitionView → List (Option Content) → OwnTraffic → Type 0
AllowsTraffic view contents OwnStill = Unit {0}
AllowsTraffic view contents (OwnPuts name bytes) =
    (channel : PortChannel) (content : Content) → slice_index_or view.channels name None ≡ Some channel → slice_index_or contents name None ≡ Some content
    → TakesMore channel.shape.kind content
AllowsTraffic view contents (OwnTakes name) = (content : Content) → slice_index_or contents name None ≡ Some content → IsSome (first_message content)
AllowsTraffic view contents (OwnSignals number) = Unit {0}

-- under a configuration that meets the rules such is the traffic of a tick as each partition hears it
abbrev pub HearsWhatIsAllowed : Type 0
HearsWhatIsAllowed =
    (g : Machine) (p : ℕ) → Fits (described g.system.conf) → AllowsTraffic (view_of g.system p) (copies g p) (heard_as g.system.conf p (happened g).traffic)

-- a question asks for an entry of a log
abbrev pub IsForEntry : Question → Type 0
IsForEntry (PartitionStatus id) = ⊥
IsForEntry SystemStatus = ⊥
IsForEntry CurrentPlan = ⊥
IsForEntry PlanStatus = ⊥
IsForEntry (TraceEntryOf id number) = Unit {0}
IsForEntry (TraceCounts id) = ⊥
IsForEntry (HealthEntryOf id number) = Unit {0}
IsForEntry (HealthCounts id) = ⊥

-- an answer to an observing call: as many bytes as it writes, or, where it asks for an entry, that the entry is not kept
unfoldable pub IsAnswerTo : Observation → Sight → Type 0
IsAnswerTo call Unseen = ⊥
IsAnswerTo call NotKept = IsForEntry call.question
IsAnswerTo call (Words bytes) = length bytes ≡ call.size

-- each observing call of a partition gets one, where the machine has all partitions of its configuration and the facts hold
abbrev pub AnswersCalls : Type 0
AnswersCalls =
    (g : Machine) (p : ℕ) (ps : PartitionState) (first : Bool) (call : Observation) → HasFacts g → IsComplete g
    → asks (view_of g.system p) ps g.time first ≡ Some call → IsAnswerTo call (answer_to g call.question)
