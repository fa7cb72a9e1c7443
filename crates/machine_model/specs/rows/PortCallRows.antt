-- Rows on the calls on ports, numbers 16 to 23: the result and the effect of each, and each of its tests at its edge.
use Rattle.std.specs.Prelude.{◌≡◌, ℕ, false, List, [], ◌∷◌, ◌++◌, replicate, Bool, Option, Some, None}
use Rattle.guest_bus.specs.Memory.{Memory, bytes_at, with_bytes}
use Rattle.xm_conf.specs.declared.channel.ChanKind.{ChanKind}
use Rattle.xm_conf.specs.declared.channel.ChanKind.TheVariants as channel
use Rattle.xm_conf.specs.declared.port.Kind.{Kind}
use Rattle.xm_conf.specs.declared.port.Kind.TheVariants as kind
use Rattle.xm_conf.specs.declared.port.Port.{Port}
use Rattle.xm_conf.specs.declared.port.Way.{Way}
use Rattle.xm_conf.specs.declared.port.Way.TheVariants as way
use Rattle.xm_ports.specs.Channels.{Content, HeldSample, Queuing, Sampling}
use Rattle.xm_ports.specs.Ports.{no_ports, with_port}
use Rattle.machine_model.specs.Caller.{Caller, Served}
use Rattle.machine_model.specs.Hypercalls.{served}
use Rattle.machine_model.specs.Partition.{PartitionState}
use Rattle.machine_model.specs.rows.ServedRows.{AnswersWith, ComesTo, Leads, WritesAnswer, calling_part, made_by, minus, served_so, view_for, with_call, written}
use Rattle.machine_model.specs.Emission.{Nothing, OwnPuts, OwnTakes, Trades}
use Rattle.machine_model.specs.View.{PartitionView, PortChannel}

-- a port of a name of one letter
abbrev pub port_of_letter : ℕ → Kind → Way → Port
port_of_letter letter a_kind a_way = record { name = letter ∷ []; kind = a_kind; way = a_way }

-- a channel of messages of at most eight bytes, under this name
abbrev pub channel_called : ℕ → ChanKind → Option PortChannel
channel_called name a_kind = Some (record { shape = record { kind = a_kind; length = 8 }; name = name })

-- the ports of a partition: s and d of sampling channels, q and r of queues of two messages, x of none, and e, which has the channel of d
abbrev pub ports : List Port
ports =
    port_of_letter 0x73 kind.Sampling way.Source ∷ port_of_letter 0x64 kind.Sampling way.Destination
    ∷ port_of_letter 0x71 kind.Queuing way.Source ∷ port_of_letter 0x72 kind.Queuing way.Destination
    ∷ port_of_letter 0x78 kind.Sampling way.Source ∷ port_of_letter 0x65 kind.Sampling way.Destination ∷ []

-- the refresh period of the channel of d is this
abbrev pub channels : ℕ → List (Option PortChannel)
channels refresh =
    channel_called 0 (channel.Sampling 3) ∷ channel_called 1 (channel.Sampling refresh) ∷ channel_called 2 (channel.Queuing 2)
    ∷ channel_called 3 (channel.Queuing 2) ∷ None ∷ channel_called 1 (channel.Sampling refresh) ∷ []

abbrev pub view_of_ports : ℕ → PartitionView
view_of_ports refresh = record (view_for false) { part = record (calling_part false) { ports = ports }; channels = channels refresh }

-- what its channels hold: a sample for d, the messages that q sent, and those that wait for r
abbrev pub held_by_channels : Option HeldSample → List (List ℕ) → List (List ℕ) → List (Option Content)
held_by_channels sample sent waiting =
    Some (Sampling None) ∷ Some (Sampling sample) ∷ Some (Queuing sent) ∷ Some (Queuing waiting) ∷ None ∷ None ∷ []

-- all of its ports are made but x
abbrev pub all_made : List Bool
all_made = with_port 0 (with_port 1 (with_port 2 (with_port 3 (with_port 5 no_ports))))

-- the partition with these ports made calls
abbrev pub with_made : List Bool → List ℕ → Memory → PartitionState
with_made made outs memory = record (with_call outs memory) { made = made }

-- a call on one of its ports, with these messages in its channels
abbrev pub port_call : ℕ → List (Option Content) → List ℕ → Memory → Caller
port_call refresh contents outs memory = record (made_by (view_of_ports refresh) (with_made all_made outs memory)) { contents = contents }

-- a call where no channel holds a message
abbrev pub quiet_call : List ℕ → Memory → Caller
quiet_call outs memory = port_call 0 (held_by_channels None [] []) outs memory

-- calls 17 and 21 put this many bytes at an address into the channel of this name
abbrev pub PutsMessage : Caller → ℕ → ℕ → ℕ → Type 0
PutsMessage caller name address size = ComesTo caller (served_so 0 (Trades (OwnPuts name (bytes_at caller.state.memory address size))) caller.state)

-- a call on a port that is not made, that is none, or that is of the other kind
abbrev pub RefusesOthers : ℕ → ℕ → Memory → Type 0
RefusesOthers number other memory =
    AnswersWith (quiet_call (number ∷ 4 ∷ 0x1000 ∷ 1 ∷ 0x1000 ∷ []) memory) (minus 3)
    × AnswersWith (quiet_call (number ∷ 6 ∷ 0x1000 ∷ 1 ∷ 0x1000 ∷ []) memory) (minus 3)
    × AnswersWith (quiet_call (number ∷ 32 ∷ 0x1000 ∷ 1 ∷ 0x1000 ∷ []) memory) (minus 3)
    × AnswersWith (quiet_call (number ∷ other ∷ 0x1000 ∷ 1 ∷ 0x1000 ∷ []) memory) (minus 3)

-- what a call that puts a message refuses: no byte, nine bytes, a byte that may not be read, a destination, and the ports above
abbrev pub RefusesToPut : (List ℕ → Memory → Caller) → ℕ → ℕ → ℕ → ℕ → Memory → Type 0
RefusesToPut call number source destination other memory =
    AnswersWith (call (number ∷ source ∷ 0x1000 ∷ 0 ∷ []) memory) (minus 3)
    × AnswersWith (call (number ∷ source ∷ 0x1000 ∷ 9 ∷ []) memory) (minus 3)
    × AnswersWith (call (number ∷ source ∷ 0x1039 ∷ 8 ∷ []) memory) (minus 3)
    × AnswersWith (quiet_call (number ∷ destination ∷ 0x1000 ∷ 0 ∷ []) memory) (minus 8)
    × RefusesOthers number other memory

-- call 17: from a source, 1 to 8 bytes that have to be readable
abbrev pub WritesSample : Type 0
WritesSample = (memory : Memory) →
    PutsMessage (quiet_call (17 ∷ 0 ∷ 0x1038 ∷ 8 ∷ []) memory) 0 0x1038 8
    × PutsMessage (quiet_call (17 ∷ 0 ∷ 0x203f ∷ 1 ∷ []) memory) 0 0x203f 1
    × RefusesToPut quiet_call 17 0 1 2 memory

-- three bytes that were written in a tick
abbrev pub sample_from : ℕ → Option HeldSample
sample_from time = Some (record { time = time; bytes = 5 ∷ 6 ∷ 7 ∷ [] })

-- call 18 reads d in tick 9, with this refresh period, and says so whether the message is valid
abbrev pub ReadsValid : ℕ → ℕ → ℕ → Memory → Type 0
ReadsValid refresh time valid memory =
    Leads (port_call refresh (held_by_channels (sample_from time) [] []) (18 ∷ 1 ∷ 0x103d ∷ 3 ∷ 0x103c ∷ []) memory) 3
    (written 0x103c (0 ∷ 0 ∷ 0 ∷ valid ∷ []) (written 0x103d (5 ∷ 6 ∷ 7 ∷ []) (with_made all_made (18 ∷ 1 ∷ 0x103d ∷ 3 ∷ 0x103c ∷ []) memory)))

-- a call where d has a message
abbrev pub sampled_call : List ℕ → Memory → Caller
sampled_call outs memory = port_call 0 (held_by_channels (sample_from 4) [] []) outs memory

-- call 18: at a destination, first the message and then whether it is valid, both of which have to be writable; without a message -1.
-- A message is valid up to the refresh period, and always where there is none
abbrev pub ReadsSample : Type 0
ReadsSample = (memory : Memory) →
    ReadsValid 5 4 1 memory
    × ReadsValid 4 4 0 memory
    × ReadsValid 0 4 1 memory
    × ReadsValid 1 8 1 memory
    × ReadsValid 1 7 0 memory
    × Leads (sampled_call (18 ∷ 5 ∷ 0x1000 ∷ 8 ∷ 0x1008 ∷ []) memory) 3
    (written 0x1008 (0 ∷ 0 ∷ 0 ∷ 1 ∷ []) (written 0x1000 (5 ∷ 6 ∷ 7 ∷ []) (with_made all_made (18 ∷ 5 ∷ 0x1000 ∷ 8 ∷ 0x1008 ∷ []) memory)))
    × AnswersWith (sampled_call (18 ∷ 1 ∷ 0x1000 ∷ 2 ∷ 0x1008 ∷ []) memory) (minus 3)
    × AnswersWith (sampled_call (18 ∷ 1 ∷ 0x103e ∷ 3 ∷ 0x1008 ∷ []) memory) (minus 3)
    × AnswersWith (sampled_call (18 ∷ 1 ∷ 0x2000 ∷ 3 ∷ 0x1008 ∷ []) memory) (minus 3)
    × AnswersWith (sampled_call (18 ∷ 1 ∷ 0x1000 ∷ 3 ∷ 0x103d ∷ []) memory) (minus 3)
    × AnswersWith (sampled_call (18 ∷ 1 ∷ 0x1000 ∷ 3 ∷ 0x2000 ∷ []) memory) (minus 3)
    × AnswersWith (quiet_call (18 ∷ 1 ∷ 0x2000 ∷ 0 ∷ 0x2000 ∷ []) memory) (minus 1)
    × AnswersWith (sampled_call (18 ∷ 0 ∷ 0x2000 ∷ 0 ∷ 0x2000 ∷ []) memory) (minus 8)
    × RefusesOthers 18 3 memory

-- call 19: the time of the message, its length, and whether it is valid, in 16 bytes that have to be writable
abbrev pub SeesSampling : Type 0
SeesSampling = (memory : Memory) →
    WritesAnswer (port_call 5 (held_by_channels (sample_from 4) [] []) (19 ∷ 1 ∷ 0x1030 ∷ []) memory) 0 0x1030
    (0 ∷ 0 ∷ 0 ∷ 0 ∷ 0 ∷ 0 ∷ 0 ∷ 4 ∷ 0 ∷ 0 ∷ 0 ∷ 3 ∷ 0 ∷ 0 ∷ 0 ∷ 1 ∷ [])
    × WritesAnswer (port_call 4 (held_by_channels (sample_from 4) [] []) (19 ∷ 5 ∷ 0x1000 ∷ []) memory) 0 0x1000
    (0 ∷ 0 ∷ 0 ∷ 0 ∷ 0 ∷ 0 ∷ 0 ∷ 4 ∷ 0 ∷ 0 ∷ 0 ∷ 3 ∷ 0 ∷ 0 ∷ 0 ∷ 0 ∷ [])
    × WritesAnswer (quiet_call (19 ∷ 0 ∷ 0x1030 ∷ []) memory) 0 0x1030 (replicate 16 0)
    × AnswersWith (quiet_call (19 ∷ 1 ∷ 0x1031 ∷ []) memory) (minus 3)
    × AnswersWith (quiet_call (19 ∷ 1 ∷ 0x2000 ∷ []) memory) (minus 3)
    × RefusesOthers 19 3 memory

-- one message and two
abbrev pub one_message : List (List ℕ)
one_message = (5 ∷ 6 ∷ 7 ∷ []) ∷ []

abbrev pub two_waiting : List (List ℕ)
two_waiting = (5 ∷ 6 ∷ 7 ∷ []) ∷ (8 ∷ []) ∷ []

-- a call where q has sent two messages
abbrev pub full_call : List ℕ → Memory → Caller
full_call outs memory = port_call 0 (held_by_channels None two_waiting []) outs memory

-- call 21: from a source, 1 to 8 bytes that have to be readable, and then room in the queue
abbrev pub SendsMessage : Type 0
SendsMessage = (memory : Memory) →
    PutsMessage (port_call 0 (held_by_channels None one_message []) (21 ∷ 2 ∷ 0x1038 ∷ 8 ∷ []) memory) 2 0x1038 8
    × PutsMessage (quiet_call (21 ∷ 2 ∷ 0x203f ∷ 1 ∷ []) memory) 2 0x203f 1
    × AnswersWith (full_call (21 ∷ 2 ∷ 0x1038 ∷ 8 ∷ []) memory) (minus 7)
    × RefusesToPut full_call 21 2 3 0 memory

-- a call where two messages wait for r
abbrev pub waited_call : List ℕ → Memory → Caller
waited_call outs memory = port_call 0 (held_by_channels None [] two_waiting) outs memory

-- call 22: at a destination, the first message, where there is one, in bytes that have to be writable
abbrev pub ReceivesMessage : Type 0
ReceivesMessage = (memory : Memory) →
    ComesTo (waited_call (22 ∷ 3 ∷ 0x103d ∷ 3 ∷ []) memory)
    (served_so 3 (Trades (OwnTakes 3)) (written 0x103d (5 ∷ 6 ∷ 7 ∷ []) (with_made all_made (22 ∷ 3 ∷ 0x103d ∷ 3 ∷ []) memory)))
    × AnswersWith (waited_call (22 ∷ 3 ∷ 0x1000 ∷ 2 ∷ []) memory) (minus 3)
    × AnswersWith (waited_call (22 ∷ 3 ∷ 0x103e ∷ 3 ∷ []) memory) (minus 3)
    × AnswersWith (waited_call (22 ∷ 3 ∷ 0x2000 ∷ 3 ∷ []) memory) (minus 3)
    × AnswersWith (quiet_call (22 ∷ 3 ∷ 0x2000 ∷ 0 ∷ []) memory) (minus 7)
    × AnswersWith (quiet_call (22 ∷ 2 ∷ 0x2000 ∷ 0 ∷ []) memory) (minus 8)
    × RefusesOthers 22 1 memory

-- call 23: how many messages wait and how many may, in eight bytes that have to be writable
abbrev pub SeesQueuing : Type 0
SeesQueuing = (memory : Memory) →
    WritesAnswer (port_call 0 (held_by_channels None [] one_message) (23 ∷ 3 ∷ 0x1038 ∷ []) memory) 0 0x1038 (0 ∷ 0 ∷ 0 ∷ 1 ∷ 0 ∷ 0 ∷ 0 ∷ 2 ∷ [])
    × WritesAnswer (quiet_call (23 ∷ 2 ∷ 0x1000 ∷ []) memory) 0 0x1000 (0 ∷ 0 ∷ 0 ∷ 0 ∷ 0 ∷ 0 ∷ 0 ∷ 2 ∷ [])
    × AnswersWith (quiet_call (23 ∷ 3 ∷ 0x1039 ∷ []) memory) (minus 3)
    × AnswersWith (quiet_call (23 ∷ 3 ∷ 0x2000 ∷ []) memory) (minus 3)
    × RefusesOthers 23 1 memory

-- the outcome of a call on a port whose name is in memory is this
pub record NamedComesTo (caller : Caller) (comes : Served) : Type 0 where
  pub made : served caller ≡ comes

-- a call of a partition with these ports made, and with these bytes at an address
abbrev pub naming : List Bool → List ℕ → ℕ → List ℕ → Memory → Caller
naming made outs address bytes memory = made_by (view_of_ports 0) (with_made made outs (with_bytes memory address bytes))

-- it makes port r
abbrev pub MakesPort : List ℕ → ℕ → List ℕ → ℕ → Memory → Type 0
MakesPort outs address bytes r memory =
    NamedComesTo (naming no_ports outs address bytes memory) (served_so r Nothing (with_made (with_port r no_ports) outs (with_bytes memory address bytes)))

-- it is refused
abbrev pub MakesNone : List Bool → List ℕ → ℕ → List ℕ → ℕ → Memory → Type 0
MakesNone made outs address bytes code memory =
    NamedComesTo (naming made outs address bytes memory) (served_so (minus code) Nothing (with_made made outs (with_bytes memory address bytes)))

-- call 16: a readable name that ends within 32 bytes, a sampling port of that name, its way and its length, a channel, and not made yet
abbrev pub CreatesSampling : Type 0
CreatesSampling = (memory : Memory) →
    MakesPort (16 ∷ 0x1000 ∷ 8 ∷ 1 ∷ []) 0x1000 (0x64 ∷ 0 ∷ []) 1 memory
    × MakesPort (16 ∷ 0x203e ∷ 8 ∷ 0 ∷ []) 0x203e (0x73 ∷ 0 ∷ []) 0 memory
    × MakesNone no_ports (16 ∷ 0x1040 ∷ 8 ∷ 1 ∷ []) 0x1040 (0x64 ∷ 0 ∷ []) 3 memory
    × MakesNone no_ports (16 ∷ 0x103f ∷ 8 ∷ 1 ∷ []) 0x103f (0x64 ∷ 0 ∷ []) 3 memory
    × MakesNone no_ports (16 ∷ 0x103f ∷ 8 ∷ 1 ∷ []) 0x103f (0 ∷ []) 5 memory
    × MakesNone no_ports (16 ∷ 0x1000 ∷ 8 ∷ 1 ∷ []) 0x1000 (replicate 31 0x64 ++ 0 ∷ []) 5 memory
    × MakesNone no_ports (16 ∷ 0x1000 ∷ 8 ∷ 1 ∷ []) 0x1000 (replicate 32 0x64 ++ 0 ∷ []) 3 memory
    × MakesNone no_ports (16 ∷ 0x1000 ∷ 8 ∷ 1 ∷ []) 0x1000 (0x72 ∷ 0 ∷ []) 5 memory
    × MakesNone no_ports (16 ∷ 0x1000 ∷ 8 ∷ 0 ∷ []) 0x1000 (0x64 ∷ 0 ∷ []) 5 memory
    × MakesNone no_ports (16 ∷ 0x1000 ∷ 7 ∷ 1 ∷ []) 0x1000 (0x64 ∷ 0 ∷ []) 5 memory
    × MakesNone no_ports (16 ∷ 0x1000 ∷ 8 ∷ 0 ∷ []) 0x1000 (0x78 ∷ 0 ∷ []) 5 memory
    × MakesNone (with_port 1 no_ports) (16 ∷ 0x1000 ∷ 8 ∷ 1 ∷ []) 0x1000 (0x64 ∷ 0 ∷ []) 1 memory
    × MakesNone (with_port 1 no_ports) (16 ∷ 0x1000 ∷ 7 ∷ 1 ∷ []) 0x1000 (0x64 ∷ 0 ∷ []) 5 memory

-- call 20: the same for a queue, whose number of messages stands before the length
abbrev pub CreatesQueuing : Type 0
CreatesQueuing = (memory : Memory) →
    MakesPort (20 ∷ 0x1000 ∷ 2 ∷ 8 ∷ 1 ∷ []) 0x1000 (0x72 ∷ 0 ∷ []) 3 memory
    × MakesPort (20 ∷ 0x1000 ∷ 2 ∷ 8 ∷ 0 ∷ []) 0x1000 (0x71 ∷ 0 ∷ []) 2 memory
    × MakesNone no_ports (20 ∷ 0x1040 ∷ 2 ∷ 8 ∷ 1 ∷ []) 0x1040 (0x72 ∷ 0 ∷ []) 3 memory
    × MakesNone no_ports (20 ∷ 0x1000 ∷ 2 ∷ 8 ∷ 1 ∷ []) 0x1000 (0x64 ∷ 0 ∷ []) 5 memory
    × MakesNone no_ports (20 ∷ 0x1000 ∷ 3 ∷ 8 ∷ 1 ∷ []) 0x1000 (0x72 ∷ 0 ∷ []) 5 memory
    × MakesNone no_ports (20 ∷ 0x1000 ∷ 2 ∷ 7 ∷ 1 ∷ []) 0x1000 (0x72 ∷ 0 ∷ []) 5 memory
    × MakesNone no_ports (20 ∷ 0x1000 ∷ 2 ∷ 8 ∷ 0 ∷ []) 0x1000 (0x72 ∷ 0 ∷ []) 5 memory
    × MakesNone (with_port 3 no_ports) (20 ∷ 0x1000 ∷ 2 ∷ 8 ∷ 1 ∷ []) 0x1000 (0x72 ∷ 0 ∷ []) 1 memory

-- the rows of calls 16 to 23
pub record PortCallRows : Type 0 where
  pub create_sampling_port : CreatesSampling
  pub write_sampling_message : WritesSample
  pub read_sampling_message : ReadsSample
  pub get_sampling_port_status : SeesSampling
  pub create_queuing_port : CreatesQueuing
  pub send_queuing_message : SendsMessage
  pub receive_queuing_message : ReceivesMessage
  pub get_queuing_port_status : SeesQueuing
