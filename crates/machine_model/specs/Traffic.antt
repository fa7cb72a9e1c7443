-- Traffic on channels and links: what a message that is put or taken does to a channel, and to the partitions at its ends, and what a signal does to the
-- partition at its link's end.
use Rattle.std.specs.Prelude.{ℕ, ◌==◌, ◌&&◌, Bool, true, false, if◌then◌else◌, List, [], ◌∷◌, Option, Some, None, slice_get}
use Rattle.xm_conf.specs.Configuration.{Conf}
use Rattle.xm_conf.specs.declared.channel.ChanKind.{ChanKind}
use Rattle.xm_conf.specs.declared.channel.ChanKind.TheVariants as kind
use Rattle.xm_conf.specs.declared.port.Port.{Port}
use Rattle.xm_conf.specs.declared.port.Way.{Way}
use Rattle.xm_conf.specs.declared.port.Way.TheVariants as way
use Rattle.xm_ports.specs.Channels.{Content, put, first_taken}
use Rattle.virt_traps.specs.Virtual.{raised}
use Rattle.xm_base.specs.Options.{on}
use Rattle.machine_model.specs.Lists.{by_option, each, is_number, table}
use Rattle.machine_model.specs.Partition.{PartitionState, is_halted, link_signal}
use Rattle.machine_model.specs.Emission.{Act, OwnPuts, OwnSignals, OwnStill, OwnTakes, OwnTraffic, reach_of}
use Rattle.machine_model.specs.View.{PartitionView, PortChannel, linked, name_of, named}

-- traffic on channels that go by their numbers in the system, and over links: none, a message that is put, the first one that is taken, or a signal over
-- the link of this number that goes from a partition
pub data Traffic : Type 0 where
  Still : Traffic
  Puts : (channel : ℕ) (bytes : List ℕ) → Traffic
  Takes : (channel : ℕ) → Traffic
  Signals : (source : ℕ) (number : ℕ) → Traffic

-- the traffic of an act
abbrev pub traffic_of : Act → OwnTraffic
traffic_of act = (reach_of act).traffic

-- a partition's traffic under the system's numbers; none where a name has no channel
abbrev pub puts_at : Option ℕ → List ℕ → Traffic
puts_at channel bytes = by_option channel Still (λ number. Puts number bytes)

abbrev pub takes_at : Option ℕ → Traffic
takes_at channel = by_option channel Still Takes

abbrev pub traffic_as : Conf → ℕ → OwnTraffic → Traffic
traffic_as conf p OwnStill = Still
traffic_as conf p (OwnPuts name bytes) = puts_at (named conf p name) bytes
traffic_as conf p (OwnTakes name) = takes_at (named conf p name)
traffic_as conf p (OwnSignals number) = Signals p number

-- traffic of the system under a partition's names; none where the partition has no name for the channel, and none where a signal goes to another
-- one
abbrev pub own_puts_at : Option ℕ → List ℕ → OwnTraffic
own_puts_at name bytes = by_option name OwnStill (λ number. OwnPuts number bytes)

abbrev pub own_takes_at : Option ℕ → OwnTraffic
own_takes_at name = by_option name OwnStill OwnTakes

abbrev pub own_signals_at : Bool → ℕ → OwnTraffic
own_signals_at false number = OwnStill
own_signals_at true number = OwnSignals number

abbrev pub heard_as : Conf → ℕ → Traffic → OwnTraffic
heard_as conf p Still = OwnStill
heard_as conf p (Puts channel bytes) = own_puts_at (name_of conf p channel) bytes
heard_as conf p (Takes channel) = own_takes_at (name_of conf p channel)
heard_as conf p (Signals source number) = own_signals_at (is_number (linked conf source number) p) number

-- what a partition hears of its own traffic: its messages, but not its signals, which go to others
abbrev pub heard_of_own : OwnTraffic → OwnTraffic
heard_of_own OwnStill = OwnStill
heard_of_own (OwnPuts name bytes) = OwnPuts name bytes
heard_of_own (OwnTakes name) = OwnTakes name
heard_of_own (OwnSignals number) = OwnStill

-- what traffic leaves of channel c
abbrev pub after_traffic : ℕ → Traffic → ℕ → Content → Content
after_traffic time Still c content = content
after_traffic time (Puts channel bytes) c content = if channel == c then put time bytes content else content
after_traffic time (Takes channel) c content = if channel == c then first_taken content else content
after_traffic time (Signals source number) c content = content

-- what it leaves of a partition's copy of the channel that the partition calls q
abbrev pub after_own : ℕ → OwnTraffic → ℕ → Content → Content
after_own time OwnStill q content = content
after_own time (OwnPuts name bytes) q content = if name == q then put time bytes content else content
after_own time (OwnTakes name) q content = if name == q then first_taken content else content
after_own time (OwnSignals number) q content = content

-- what a partition has of the channels: a copy of each under its own name
abbrev pub content_if : List Content → Option ℕ → Option Content
content_if contents None = None
content_if contents (Some c) = slice_get contents c

unfoldable pub copies_of : Conf → ℕ → ℕ → List Content → List (Option Content)
copies_of conf p ports contents = table (λ q. content_if contents (named conf p q)) ports

-- what traffic leaves of a partition's copies
unfoldable pub copies_after : ℕ → OwnTraffic → List (Option Content) → List (Option Content)
copies_after time traffic copies = each (λ q copy. on (after_own time traffic q) copy) copies

-- the interrupt that a message brings, by the kind of its channel
abbrev pub interrupt_of : ChanKind → ℕ
interrupt_of (kind.Sampling refresh) = 3
interrupt_of (kind.Queuing most) = 4

-- whether a port is a destination
abbrev pub is_destination : Way → Bool
is_destination way.Source = false
is_destination way.Destination = true

-- the interrupt of a message in the channel that a partition calls q, for one of its ports: the port is a made destination on that channel
abbrev pub hears : ℕ → Port → Bool → Option PortChannel → Option ℕ
hears q port made None = None
hears q port made (Some channel) =
    if is_destination port.way && made && channel.name == q then Some (interrupt_of channel.shape.kind) else None

-- the interrupt, where one of these ports hears it
abbrev pub first_heard : Option ℕ → Option ℕ → Option ℕ
first_heard None other = other
first_heard (Some n) other = Some n

abbrev pub heard_from : ℕ → List Port → List Bool → List (Option PortChannel) → Option ℕ
heard_from q [] made channels = None
heard_from q (port ∷ ports) [] channels = None
heard_from q (port ∷ ports) (one ∷ made) [] = None
heard_from q (port ∷ ports) (one ∷ made) (channel ∷ channels) = first_heard (hears q port one channel) (heard_from q ports made channels)

-- the partition with an interrupt pending, unless it has halted
abbrev pub interrupted : Option ℕ → PartitionState → PartitionState
interrupted None ps = ps
interrupted (Some n) ps = if is_halted ps.state then ps else record ps { traps = raised n ps.traps }

-- a partition after traffic under its own names: a message raises the interrupt of its kind where a made destination port hears it, and a signal the
-- one of its link's number
unfoldable pub after_message : PartitionView → ℕ → PartitionState → PartitionState
after_message view q ps = interrupted (heard_from q view.part.ports ps.made view.channels) ps

abbrev pub hearing : PartitionView → OwnTraffic → PartitionState → PartitionState
hearing view OwnStill ps = ps
hearing view (OwnPuts q bytes) ps = after_message view q ps
hearing view (OwnTakes q) ps = ps
hearing view (OwnSignals number) ps = interrupted (Some (link_signal number)) ps
