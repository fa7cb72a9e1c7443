-- What a partition has of a configuration: the channels of its ports, its links, and what a system partition sees.
use Rattle.std.specs.Prelude.{◌≡◌, ◌==◌, ℕ, Bool, true, false, ◌&&◌, ◌||◌, ◌⊎◌, length, slice_get, Contains, Option, Some, None}
use Rattle.std.specs.List.{find, list_any, position_from}
use Rattle.xm_base.specs.Options.{on}
use Rattle.xm_conf.specs.Configuration.{Part, Chan, Conf}
use Rattle.xm_conf.specs.declared.channel.End.{End}
use Rattle.xm_conf.specs.declared.link.Link.{Link}
use Rattle.xm_conf.specs.declared.conf.Seen.{Seen}

-- a port of a partition is an end of a channel: its source, or one of its destinations
abbrev pub HasEnd : ℕ → ℕ → Chan → Type 0
HasEnd part port chan =
    (chan.source ≡ record { part = part; port = port }) ⊎ Contains chan.dests (record { part = part; port = port })

-- whether an end is a port of a partition
unfoldable pub is_port : ℕ → ℕ → End → Bool
is_port part port end = end.part == part && end.port == port

-- whether a port of a partition is an end of a channel
unfoldable pub has_end : ℕ → ℕ → Chan → Bool
has_end part port chan = is_port part port chan.source || list_any (is_port part port) chan.dests

-- the number of the first channel that has a port of a partition as an end
unfoldable pub channel_of : Conf → ℕ → ℕ → Option ℕ
channel_of conf part port = position_from (has_end part port) 0 conf.chans

-- a link is a partition's, of a number
abbrev pub IsLinkOf : ℕ → ℕ → Link → Type 0
IsLinkOf part number link = (link.source ≡ part) × (link.number ≡ number)

-- whether a link is a partition's, of a number
unfoldable pub is_link_of : ℕ → ℕ → Link → Bool
is_link_of part number link = link.source == part && link.number == number

-- where the first link goes that is a partition's, of a number
unfoldable pub link_of : Conf → ℕ → ℕ → Option ℕ
link_of conf part number = on (λ link. link.dest) (find (is_link_of part number) conf.links)

-- two counts for a system partition, and 0 and 0 for another
abbrev pub counts_seen : ℕ → ℕ → Bool → Seen
counts_seen parts plans true = record { parts = parts; plans = plans }
counts_seen parts plans false = record { parts = 0; plans = 0 }

-- whether a partition, where there is one, is a system partition
abbrev pub is_system : Option Part → Bool
is_system None = false
is_system (Some part) = part.system

-- what a partition sees: how many partitions and plans there are, where it is a system partition
unfoldable pub sees : Conf → ℕ → Seen
sees conf part = counts_seen (length conf.parts) (length conf.plans) (is_system (slice_get conf.parts part))
