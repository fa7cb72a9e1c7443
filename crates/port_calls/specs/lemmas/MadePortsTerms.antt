-- For proofs and private clauses: made ports as the calls find them in the configuration.
use Rattle.std.specs.Prelude.{◌≡◌, ℕ, ◌<◌, if◌then◌else◌, Option, Some, None, slice_get, unwrap_or}
use Rattle.xm_conf.specs.Configuration.{Chan, Conf}
use Rattle.xm_conf.specs.View.{channel_of}
use Rattle.xm_conf.specs.declared.port.Kind.{Kind}
use Rattle.xm_conf.specs.declared.port.Kind.TheVariants as kind
use Rattle.xm_conf.specs.declared.port.Port.{Port}
use Rattle.xm_conf.specs.declared.port.Way.{Way}
use Rattle.xm_ports.specs.Channels.{ChannelTable, HasQueue, HasSampling, IsTable, content_at}
use Rattle.xm_ports.specs.Ports.{are_same_kind}
use Rattle.machine_model.specs.PortEffects.{MadePort}
use Rattle.machine_model.specs.View.{name_of, named, part_of}
use Rattle.system_state.specs.State.{SysState}
use Rattle.port_calls.specs.declared.made_ports.MadePort as found
use Rattle.port_calls.specs.MadePorts.{table_in}

-- the table has a channel of that number for ports of a kind
abbrev pub HasKind : Kind → ℕ → ChannelTable → Type 0
HasKind kind.Sampling c table = HasSampling c table
HasKind kind.Queuing c table = HasQueue c table

-- a port of a way, where its channel is there
abbrev pub found_with : Way → ℕ → Option Chan → Option found.MadePort
found_with way c None = None
found_with way c (Some chan) = Some (record { way = way; chan = c; kind = chan.kind; length = chan.length })

-- a port of a way, where it is the end of a channel
abbrev pub found_end : Conf → Way → Option ℕ → Option found.MadePort
found_end conf way None = None
found_end conf way (Some c) = found_with way c (slice_get conf.chans c)

-- a port that is of a kind
abbrev pub found_port : Conf → ℕ → ℕ → Kind → Option Port → Option found.MadePort
found_port conf p r the_kind None = None
found_port conf p r the_kind (Some port) = if are_same_kind port.kind the_kind then found_end conf port.way (channel_of conf p r) else None

-- port r of a partition with its channel, where it is of a kind and the end of a channel
unfoldable pub found_in : Conf → ℕ → ℕ → Kind → Option found.MadePort
found_in conf p r the_kind = found_port conf p r the_kind (slice_get (part_of conf p).ports r)

-- the same port with the partition's name for its channel and what the channel holds
abbrev pub port_in : ℕ → SysState → found.MadePort → MadePort
port_in p sys port = record {
  way = port.way;
  shape = record { kind = port.kind; length = port.length };
  name = unwrap_or (name_of sys.machine.system.conf p port.chan) 0;
  content = content_at port.chan (table_in sys);
}

-- the channel of a port that is found is there under the partition's name for it: it is of the port's kind, with the stated shape, and what it holds is there
pub record IsMade (the_kind : Kind) (p : ℕ) (sys : SysState) (port : found.MadePort) : Type 0 where
  pub named : named sys.machine.system.conf p (port_in p sys port).name ≡ Some port.chan
  pub shaped : slice_get sys.shapes port.chan ≡ Some (port_in p sys port).shape
  pub held : slice_get sys.machine.channels port.chan ≡ Some (port_in p sys port).content
  pub of_kind : HasKind the_kind port.chan (table_in sys)
  pub few : port.chan < 64
  pub table : IsTable (table_in sys)
