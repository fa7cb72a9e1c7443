-- What a message does to the partitions that hear it.
use Rattle.std.specs.Prelude.{◌≡◌, ℕ, suc, Bool, true, false, ◌&&◌, if◌then◌else◌, List, [], ◌∷◌, Option, None, Some, slice_get, IsSomeAnd}
use Rattle.xm_conf.specs.Configuration.{Chan, Conf}
use Rattle.xm_conf.specs.View.{channel_of}
use Rattle.xm_conf.specs.declared.channel.End.{End}
use Rattle.xm_conf.specs.declared.port.Port.{Port}
use Rattle.xm_ports.specs.Ports.{is_made}
use Rattle.machine_model.specs.Lists.{each, is_number}
use Rattle.machine_model.specs.Machine.{Machine}
use Rattle.machine_model.specs.Partition.{PartitionState}
use Rattle.machine_model.specs.Traffic.{interrupt_of, interrupted, is_destination}
use Rattle.machine_model.specs.View.{part_of}

-- whether a port of partition q is made, and on the channel
unfoldable pub is_on : Conf → ℕ → ℕ → List Bool → ℕ → Bool
is_on conf q chan made r = is_made r made && is_number (channel_of conf q r) chan

-- whether one of these ports, which are numbered from r on, is a destination for which the test holds
abbrev pub hears_from : (ℕ → Bool) → ℕ → List Port → Bool
hears_from test r [] = false
hears_from test r (port ∷ ports) = if is_destination port.way && test r then true else hears_from test (suc r) ports

-- whether partition q hears what is put into the channel
unfoldable pub hears_in : Conf → ℕ → ℕ → PartitionState → Bool
hears_in conf q chan ps = hears_from (is_on conf q chan ps.made) 0 (part_of conf q).ports

-- the destinations of a channel, where there is one
abbrev pub dests_of : Option Chan → List End
dests_of None = []
dests_of (Some chan) = chan.dests

-- an end is in partition q
abbrev pub EndsIn : ℕ → End → Type 0
EndsIn q end = end.part ≡ q

-- the partition with the interrupt pending, where it hears
abbrev pub heard_at : Conf → ℕ → ℕ → ℕ → PartitionState → PartitionState
heard_at conf chan n q ps = if hears_in conf q chan ps then interrupted (Some n) ps else ps

-- the machine in which all that hear have the interrupt pending
abbrev pub notified : ℕ → ℕ → Machine → Machine
notified chan n g = record g { parts = each (heard_at g.system.conf chan n) g.parts }

-- the configuration has the channel, whose messages bring the interrupt
abbrev pub Brings : Conf → ℕ → ℕ → Type 0
Brings conf chan n = IsSomeAnd (slice_get conf.chans chan) (λ (the_chan : Chan). interrupt_of the_chan.kind ≡ n)
