-- Ports: which of a partition's are made, and what an order to make one answers.
use Rattle.std.specs.Prelude.{◌≡◌, ℕ, ◌<◌, ◌==◌, Bool, true, false, ◌&&◌, List, [], length, replicate, set, slice_get, slice_index_or, Option, Some, None, IsSome, IsSomeAnd, Result, Ok, Err}
use Rattle.std.specs.List.{position_from}
use Rattle.std.specs.Str.{bytes_eq}
use Rattle.xm_base.specs.Options.{on}
use Rattle.xm_conf.specs.Configuration.{Part, Chan, Conf}
use Rattle.xm_conf.specs.Rules.{port_of}
use Rattle.xm_conf.specs.View.{channel_of}
use Rattle.xm_conf.specs.declared.port.Port.{Port}
use Rattle.xm_conf.specs.declared.port.Kind.{Kind}
use Rattle.xm_conf.specs.declared.port.Kind.TheVariants as kind
use Rattle.xm_conf.specs.declared.port.Way.{Way}
use Rattle.xm_conf.specs.declared.port.Way.TheVariants as way
use Rattle.xm_conf.specs.declared.channel.ChanKind.{ChanKind}
use Rattle.xm_conf.specs.declared.channel.ChanKind.TheVariants as chan_kind
use Rattle.xm_ports.specs.Channels.{Shape, shape_of}
use Rattle.xm_ports.specs.declared.ports.CreateFault.{CreateFault}
use Rattle.xm_ports.specs.declared.ports.CreateFault.TheVariants.{NoPort, Differs, NoChannel, Already}

-- no port is made
unfoldable pub no_ports : List Bool
no_ports = replicate 32 false

-- whether the port of a number is made
abbrev pub is_made : ℕ → List Bool → Bool
is_made port made = slice_index_or made port false

-- the port of a number is made, too
abbrev pub with_port : ℕ → List Bool → List Bool
with_port port made = set made port true

-- the ports of a partition, where there is one
abbrev pub ports_of : Option Part → List Port
ports_of None = []
ports_of (Some part) = part.ports

-- whether two kinds are one
abbrev pub are_same_kind : Kind → Kind → Bool
are_same_kind kind.Sampling kind.Sampling = true
are_same_kind kind.Sampling kind.Queuing = false
are_same_kind kind.Queuing kind.Sampling = false
are_same_kind kind.Queuing kind.Queuing = true

-- whether a port has a name and a kind
unfoldable pub is_called : List ℕ → Kind → Port → Bool
is_called name kind port = bytes_eq port.name name && are_same_kind port.kind kind

-- the number of the first port with that name and kind
unfoldable pub port_with : List ℕ → Kind → List Port → Option ℕ
port_with name kind ports = position_from (is_called name kind) 0 ports

-- the number of a way in a call
abbrev pub way_number : Way → ℕ
way_number way.Source = 0
way_number way.Destination = 1

-- whether a number of messages is that of a kind of channel; for a sampling channel each is
abbrev pub agrees_most : ℕ → ChanKind → Bool
agrees_most most (chan_kind.Sampling refresh) = true
agrees_most most (chan_kind.Queuing stated) = most == stated

-- whether a length is that of a channel's messages, and for a queue the number of messages, too
unfoldable pub agrees : ℕ → ℕ → Shape → Bool
agrees length most shape = length == shape.length && agrees_most most shape.kind

-- whether a length and a number of messages are those of the channel, where there is one
abbrev pub agrees_end : ℕ → ℕ → Option Shape → Bool
agrees_end length most None = true
agrees_end length most (Some shape) = agrees length most shape

-- whether a number is that of the port's way, where there is a port
abbrev pub is_way_of : ℕ → Option Port → Bool
is_way_of way None = false
is_way_of way (Some port) = way == way_number port.way

-- the fourth test: the port is not made
abbrev pub unless_made : Bool → ℕ → Result ℕ CreateFault
unless_made true port = Err Already
unless_made false port = Ok port

-- the third test: the port is the end of a channel
abbrev pub unless_loose : Option Shape → List Bool → ℕ → Result ℕ CreateFault
unless_loose None made port = Err NoChannel
unless_loose (Some shape) made port = unless_made (is_made port made) port

-- the second test: way, length and number of messages are those of the port and of its channel
abbrev pub unless_differs : Bool → Option Shape → List Bool → ℕ → Result ℕ CreateFault
unless_differs false channel made port = Err Differs
unless_differs true channel made port = unless_loose channel made port

-- the tests on a port, where each port has the shape of its channel, or none
unfoldable pub granted : List Port → (ℕ → Option Shape) → ℕ → ℕ → ℕ → List Bool → ℕ → Result ℕ CreateFault
granted ports shape_at way length most made port =
    unless_differs (is_way_of way (slice_get ports port) && agrees_end length most (shape_at port)) (shape_at port) made port

-- the first test: there is a port
abbrev pub unless_missing : (ℕ → Result ℕ CreateFault) → Option ℕ → Result ℕ CreateFault
unless_missing rest None = Err NoPort
unless_missing rest (Some port) = rest port

-- what an order to make one of these ports answers: the first test that fails, or the port's number
unfoldable pub created_over : List Port → (ℕ → Option Shape) → List ℕ → Kind → ℕ → ℕ → ℕ → List Bool → Result ℕ CreateFault
created_over ports shape_at name kind way length most made =
    unless_missing (granted ports shape_at way length most made) (port_with name kind ports)

-- the channel of a number, where there is a number
abbrev pub chan_at : List Chan → Option ℕ → Option Chan
chan_at chans None = None
chan_at chans (Some c) = slice_get chans c

-- the shape of the channel of a partition's port, where it is the end of one
unfoldable pub shape_of_port : Conf → ℕ → ℕ → Option Shape
shape_of_port conf p port = on shape_of (chan_at conf.chans (channel_of conf p port))

-- what an order to make a port of a partition answers
unfoldable pub created : Conf → ℕ → List ℕ → Kind → ℕ → ℕ → ℕ → List Bool → Result ℕ CreateFault
created conf p name kind way length most made =
    created_over (ports_of (slice_get conf.parts p)) (shape_of_port conf p) name kind way length most made

-- a port has a name and a kind
pub record IsCalled (name : List ℕ) (kind : Kind) (port : Port) : Type 0 where
  pub name_is : port.name ≡ name
  pub kind_is : port.kind ≡ kind

-- a number is that of a port of a partition, with a name and a kind, which is the end of a channel
pub record IsPort (conf : Conf) (p : ℕ) (name : List ℕ) (kind : Kind) (port : ℕ) : Type 0 where
  pub within : port < 32
  pub called : IsSomeAnd (port_of port (slice_get conf.parts p)) (IsCalled name kind)
  pub end : IsSome (channel_of conf p port)
