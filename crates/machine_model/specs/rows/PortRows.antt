-- Rows on ports and channels: messages that are sent, refused and received, and who hears of them.
use Rattle.std.specs.Prelude.{ℕ, ◌-◌, ◌^◌, false, List, [], ◌∷◌, Some, None}
use Rattle.guest_bus.specs.Memory.{Memory, bytes_at, with_bytes}
use Rattle.virt_traps.specs.Virtual.{no_traps}
use Rattle.xm_conf.specs.Configuration.{Chan}
use Rattle.xm_conf.specs.declared.channel.ChanKind.{ChanKind}
use Rattle.xm_conf.specs.declared.channel.ChanKind.TheVariants as channel
use Rattle.xm_conf.specs.declared.port.Kind.{Kind}
use Rattle.xm_conf.specs.declared.port.Kind.TheVariants as kind
use Rattle.xm_conf.specs.declared.port.Port.{Port}
use Rattle.xm_conf.specs.declared.port.Way.{Way}
use Rattle.xm_conf.specs.declared.port.Way.TheVariants as way
use Rattle.xm_ports.specs.Channels.{Content, Queuing, Sampling}
use Rattle.machine_model.specs.Machine.{Machine}
use Rattle.machine_model.specs.Partition.{PartitionState}
use Rattle.machine_model.specs.rows.Rows.{Leaves, at, calling, small_conf, halves, machine}
use Rattle.machine_model.specs.rows.CallRows.{Calls, after_answer, caller, other_part, with_its_port}

-- a port of a kind and a way
abbrev pub port : Kind → Way → Port
port a_kind a_way = record { name = []; kind = a_kind; way = a_way }

-- a channel of a kind from partition 0 to partition 1, with messages of at most eight bytes
abbrev pub channel_between : ChanKind → Chan
channel_between a_kind =
    record { kind = a_kind; length = 8; source = record { part = 0; port = 0 }; dests = record { part = 1; port = 0 } ∷ [] }

-- two partitions at the ends of a channel that holds this, in the second tick of a frame
abbrev pub two_joined : Kind → ChanKind → Content → PartitionState → PartitionState → Machine
two_joined a_kind a_channel content one other =
    record (machine (small_conf (halves ∷ []) (record (caller false) { ports = port a_kind way.Source ∷ [] } ∷ record other_part { ports = port a_kind way.Destination ∷ [] } ∷ []) (channel_between a_channel ∷ []))
    (0x40000000 ∷ 0x40000100 ∷ []) 1 (one ∷ other ∷ [])) {
      channels = content ∷ [];
    }

-- a partition that sends a message of two bytes by a call of this number on its port 0, which is made
abbrev pub sending : ℕ → Memory → PartitionState
sending number memory = with_its_port (calling 0x40000000 (number ∷ 0 ∷ 0x40000004 ∷ 2 ∷ []) memory)

-- two messages, which is as many as the queue may hold
abbrev pub two_messages : Content
two_messages = Queuing ((0x61 ∷ 0x62 ∷ []) ∷ (0x63 ∷ []) ∷ [])

-- a send to a queue that is full answers -7, and leaves all else as it was
abbrev pub FullQueueRefuses : Type 0
FullQueueRefuses = (one other : Memory) → Calls (caller false) one
    → Leaves (λ g. g.parts) (two_joined kind.Queuing (channel.Queuing 2) two_messages (sending 21 one) (with_its_port (at 0x40000100 other))) 1
    (after_answer (2 ^ 32 - 7) (sending 21 one) ∷ with_its_port (at 0x40000100 other) ∷ [])
    × Leaves (λ g. g.channels) (two_joined kind.Queuing (channel.Queuing 2) two_messages (sending 21 one) (with_its_port (at 0x40000100 other))) 1 (two_messages ∷ [])

-- a queue with room takes the message after the others, and interrupt 4 of the partition at its other end waits
abbrev pub QueueTakesMessage : Type 0
QueueTakesMessage = (one other : Memory) → Calls (caller false) one
    → Leaves (λ g. g.channels) (two_joined kind.Queuing (channel.Queuing 2) (Queuing ((0x61 ∷ 0x62 ∷ []) ∷ [])) (sending 21 one) (with_its_port (at 0x40000100 other))) 1
    (Queuing ((0x61 ∷ 0x62 ∷ []) ∷ bytes_at one 0x40000004 2 ∷ []) ∷ [])
    × Leaves (λ g. g.parts) (two_joined kind.Queuing (channel.Queuing 2) (Queuing ((0x61 ∷ 0x62 ∷ []) ∷ [])) (sending 21 one) (with_its_port (at 0x40000100 other))) 1
    (after_answer 0 (sending 21 one) ∷ record (with_its_port (at 0x40000100 other)) { traps = record no_traps { pending = 16 } } ∷ [])

-- a message for a sampling channel is there with its time, and interrupt 3 of the partition at its other end waits
abbrev pub SampleInterrupts : Type 0
SampleInterrupts = (one other : Memory) → Calls (caller false) one
    → Leaves (λ g. g.channels) (two_joined kind.Sampling (channel.Sampling 0) (Sampling None) (sending 17 one) (with_its_port (at 0x40000100 other))) 1
    (Sampling (Some (record { time = 1; bytes = bytes_at one 0x40000004 2 })) ∷ [])
    × Leaves (λ g. g.parts) (two_joined kind.Sampling (channel.Sampling 0) (Sampling None) (sending 17 one) (with_its_port (at 0x40000100 other))) 1
    (after_answer 0 (sending 17 one) ∷ record (with_its_port (at 0x40000100 other)) { traps = record no_traps { pending = 8 } } ∷ [])

-- where its port is not made, the message is there, and nothing of the other partition changes
abbrev pub UnmadePortIsSilent : Type 0
UnmadePortIsSilent = (one other : Memory) → Calls (caller false) one
    → Leaves (λ g. g.channels) (two_joined kind.Sampling (channel.Sampling 0) (Sampling None) (sending 17 one) (at 0x40000100 other)) 1
    (Sampling (Some (record { time = 1; bytes = bytes_at one 0x40000004 2 })) ∷ [])
    × Leaves (λ g. g.parts) (two_joined kind.Sampling (channel.Sampling 0) (Sampling None) (sending 17 one) (at 0x40000100 other)) 1
    (after_answer 0 (sending 17 one) ∷ at 0x40000100 other ∷ [])

-- a queue of two messages from partition 1 to partition 0, which holds these, in the second tick of a frame; partition 0 receives one
-- by call 22, into this many bytes
abbrev pub receiving : ℕ → Memory → PartitionState
receiving size memory = with_its_port (calling 0x40000000 (22 ∷ 0 ∷ 0x40000004 ∷ size ∷ []) memory)

abbrev pub backwards : Chan
backwards =
    record { kind = channel.Queuing 2; length = 8; source = record { part = 1; port = 0 }; dests = record { part = 0; port = 0 } ∷ [] }

abbrev pub received : ℕ → List (List ℕ) → Memory → Memory → Machine
received size messages one other =
    record (machine (small_conf (halves ∷ []) (record (caller false) { ports = port kind.Queuing way.Destination ∷ [] } ∷ record other_part { ports = port kind.Queuing way.Source ∷ [] } ∷ []) (backwards ∷ []))
    (0x40000000 ∷ 0x40000100 ∷ []) 1 (receiving size one ∷ with_its_port (at 0x40000100 other) ∷ [])) {
      channels = Queuing messages ∷ [];
    }

-- a receive answers the length of the oldest message, which is written and is in the queue no more
abbrev pub OldestIsReceived : Type 0
OldestIsReceived = (one other : Memory) → Calls (caller false) one
    → Leaves (λ g. g.parts) (received 8 ((0x61 ∷ 0x62 ∷ []) ∷ (0x63 ∷ []) ∷ []) one other) 1
    (record (after_answer 2 (receiving 8 one)) { memory = with_bytes one 0x40000004 (0x61 ∷ 0x62 ∷ []) } ∷ with_its_port (at 0x40000100 other) ∷ [])
    × Leaves (λ g. g.channels) (received 8 ((0x61 ∷ 0x62 ∷ []) ∷ (0x63 ∷ []) ∷ []) one other) 1 (Queuing ((0x63 ∷ []) ∷ []) ∷ [])

-- one that has no room for it answers -3, and the message stays
abbrev pub NoRoomKeepsMessage : Type 0
NoRoomKeepsMessage = (one other : Memory) → Calls (caller false) one
    → Leaves (λ g. g.parts) (received 0 ((0x61 ∷ 0x62 ∷ []) ∷ []) one other) 1
    (after_answer (2 ^ 32 - 3) (receiving 0 one) ∷ with_its_port (at 0x40000100 other) ∷ [])
    × Leaves (λ g. g.channels) (received 0 ((0x61 ∷ 0x62 ∷ []) ∷ []) one other) 1 (Queuing ((0x61 ∷ 0x62 ∷ []) ∷ []) ∷ [])

-- one from an empty queue answers -7
abbrev pub EmptyQueueRefuses : Type 0
EmptyQueueRefuses = (one other : Memory) → Calls (caller false) one
    → Leaves (λ g. g.parts) (received 8 [] one other) 1 (after_answer (2 ^ 32 - 7) (receiving 8 one) ∷ with_its_port (at 0x40000100 other) ∷ [])
