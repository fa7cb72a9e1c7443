-- The outcome of the effects on ports: a port is created, a message is put or read, and a port's status is shown.
use Rattle.std.specs.Prelude.{ℕ, if◌then◌else◌, ◌==◌, ◌||◌, ◌∷◌, Bool, false, not, suc, true, zero, Err, List, None, Ok, Option, Result, Some, [], length, nat_le, nat_lt, slice_get, slice_index_or}
use Rattle.guest_bus.specs.Memory.{Memory, byte_at, is_readable}
use Rattle.xm_base.specs.Options.{on}
use Rattle.xm_conf.specs.declared.port.Kind.{Kind}
use Rattle.xm_conf.specs.declared.port.Port.{Port}
use Rattle.xm_conf.specs.declared.port.Way.TheVariants as way
use Rattle.xm_conf.specs.declared.port.Way.{Way}
use Rattle.xm_ports.specs.Channels.{Content, HeldSample, Shape, messages_of, most_of}
use Rattle.xm_ports.specs.Ports.{are_same_kind, created_over, is_made, with_port}
use Rattle.xm_ports.specs.declared.ports.CreateFault.TheVariants.{Already, Differs, NoChannel, NoPort}
use Rattle.xm_ports.specs.declared.ports.CreateFault.{CreateFault}
use Rattle.machine_model.specs.Caller.{Caller, Served, Test, a_of, acting, answering, b_of, c_of, d_of, invalid_configuration, invalid_parameter, no_action, not_allowed, not_available, refused_if, room, tested, with_written}
use Rattle.machine_model.specs.Lists.{and_then}
use Rattle.machine_model.specs.Partition.{areas_of}
use Rattle.machine_model.specs.Structures.{validity, word}
use Rattle.machine_model.specs.Emission.{OwnTakes, Trades}
use Rattle.machine_model.specs.View.{PartitionView, PortChannel}

-- a name in memory: the bytes before the first zero byte, of which there is one within this many; each up to it may be read
abbrev pub name_at : (ℕ → Bool) → Memory → ℕ → ℕ → Option (List ℕ)
name_at allowed memory address zero = None
name_at allowed memory address (suc count) =
    if not (allowed address) then None
    else if byte_at memory address == 0 then Some []
    else on (λ rest. byte_at memory address ∷ rest) (name_at allowed memory (suc address) count)

-- the name that a call gives a port: at a, within 32 bytes
abbrev pub name_given : Caller → Option (List ℕ)
name_given caller = name_at (is_readable (areas_of caller.view)) caller.state.memory (a_of caller) 32

-- the shape of the channel of a port
abbrev pub shape_at : PartitionView → ℕ → Option Shape
shape_at view r = on (λ channel. channel.shape) (slice_index_or view.channels r None)

-- the result that says why a port was not made
abbrev pub create_refusal : CreateFault → ℕ
create_refusal NoPort = invalid_configuration
create_refusal Differs = invalid_configuration
create_refusal NoChannel = invalid_configuration
create_refusal Already = no_action

-- a port is made, and its number is the result
abbrev pub by_created : Result ℕ CreateFault → Caller → Served
by_created (Ok r) caller = answering r (record caller.state { made = with_port r caller.state.made })
by_created (Err fault) caller = answering (create_refusal fault) caller.state

-- a port of this name and kind is made, with the way, the length and the number of messages that the call gives
abbrev pub creating : Kind → ℕ → ℕ → ℕ → Option (List ℕ) → Caller → Served
creating the_kind the_way the_length the_most None caller = answering invalid_parameter caller.state
creating the_kind the_way the_length the_most (Some name) caller =
    by_created (created_over caller.view.part.ports (shape_at caller.view) name the_kind the_way the_length the_most caller.state.made) caller

-- a made port, with its channel and what it holds
pub record MadePort : Type 0 where
  pub way : Way
  pub shape : Shape
  pub name : ℕ
  pub content : Content

-- a port with its channel, where what the channel holds is there
abbrev pub port_with_content : Port → PortChannel → Option Content → Option MadePort
port_with_content port channel None = None
port_with_content port channel (Some content) = Some (record { way = port.way; shape = channel.shape; name = channel.name; content = content })

-- a port of a kind with its channel
abbrev pub with_channel : Caller → Kind → Port → Option PortChannel → Option MadePort
with_channel caller the_kind port None = None
with_channel caller the_kind port (Some channel) =
    if are_same_kind port.kind the_kind then port_with_content port channel (slice_index_or caller.contents channel.name None) else None

-- the made port of a kind that the call names by a
unfoldable pub made_port : Kind → Caller → Option MadePort
made_port the_kind caller =
    if is_made (a_of caller) caller.state.made
    then and_then (slice_get caller.view.part.ports (a_of caller)) (λ port. with_channel caller the_kind port (slice_index_or caller.view.channels (a_of caller) None))
    else None

-- a call on a made port of a kind
abbrev pub on_port : Option MadePort → Caller → (MadePort → Served) → Served
on_port None caller call = answering invalid_parameter caller.state
on_port (Some port) caller call = call port

-- only a source may write, only a destination may read
abbrev pub is_source : Way → Bool
is_source way.Source = true
is_source way.Destination = false

abbrev pub source_only : MadePort → Test
source_only port = refused_if (not (is_source port.way)) not_allowed

abbrev pub destination_only : MadePort → Test
destination_only port = refused_if (is_source port.way) not_allowed

-- a call that reads from a port of a kind: it has to be a destination
abbrev pub reading_from : Kind → Caller → (MadePort → Served) → Served
reading_from the_kind caller read = on_port (made_port the_kind caller) caller (λ port. tested (destination_only port ∷ []) caller (read port))

-- a call that writes the status of a port of a kind at b, this many bytes
abbrev pub writing_status : Kind → ℕ → Caller → (MadePort → List ℕ) → Served
writing_status the_kind size caller status = on_port (made_port the_kind caller) caller (λ port.
    tested (room caller (b_of caller) size ∷ []) caller (answering 0 (with_written (b_of caller) (status port) caller.state)))

-- a message has at least one byte, and not more than the channel's messages
abbrev pub size_fits : MadePort → ℕ → Test
size_fits port size = refused_if (size == 0 || nat_lt port.shape.length size) invalid_parameter

-- the message is written at b, then whether it is valid at d; its length is the result
abbrev pub sample_read : Caller → MadePort → HeldSample → Served
sample_read caller port sample =
    tested (refused_if (nat_lt (c_of caller) (length sample.bytes)) invalid_parameter ∷ room caller (b_of caller) (length sample.bytes) ∷ room caller (d_of caller) 4 ∷ []) caller
    (answering (length sample.bytes) (with_written (d_of caller) (word (validity port.shape.kind caller.time sample)) (with_written (b_of caller) sample.bytes caller.state)))

-- the message that the channel holds, where it holds one
abbrev pub held_read : Option HeldSample → Caller → MadePort → Served
held_read None caller port = answering no_action caller.state
held_read (Some sample) caller port = sample_read caller port sample

-- a queue holds as many messages as it may
abbrev pub is_full : MadePort → Bool
is_full port = nat_le (most_of port.shape.kind) (length (messages_of port.content))

-- the first message is taken and written at b; its length is the result
abbrev pub message_read : Caller → MadePort → List ℕ → Served
message_read caller port message =
    tested (refused_if (nat_lt (c_of caller) (length message)) invalid_parameter ∷ room caller (b_of caller) (length message) ∷ []) caller
    (acting (Trades (OwnTakes port.name)) (length message) (with_written (b_of caller) message caller.state))

-- the first message that the queue holds, where it holds one
abbrev pub first_read : Option (List ℕ) → Caller → MadePort → Served
first_read None caller port = answering not_available caller.state
first_read (Some message) caller port = message_read caller port message
