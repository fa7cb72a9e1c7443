-- The binary form of a configuration: the one spelling of each in each version.
use Rattle.std.specs.Prelude.{ℕ, ◌+◌, Bool, true, false, List, [], ◌∷◌, ◌++◌, length, codes, flat_map, Option, Some, None}
use Rattle.std.specs.Int.{w16, w32, to_be_bytes}
use Rattle.xm_conf.specs.Configuration.{Plan, Part, Chan, Conf}
use Rattle.xm_conf.specs.Health.{action_row}
use Rattle.xm_conf.specs.declared.health.Action.{Action}
use Rattle.xm_conf.specs.declared.plan.Slot.{Slot}
use Rattle.xm_conf.specs.declared.part.Area.{Area}
use Rattle.xm_conf.specs.declared.part.Need.{Need}
use Rattle.xm_conf.specs.declared.part.HmTable.{HmTable}
use Rattle.xm_conf.specs.declared.port.Port.{Port}
use Rattle.xm_conf.specs.declared.port.Kind.{Kind}
use Rattle.xm_conf.specs.declared.port.Kind.TheVariants as kind
use Rattle.xm_conf.specs.declared.port.Way.{Way}
use Rattle.xm_conf.specs.declared.port.Way.TheVariants as way
use Rattle.xm_conf.specs.declared.channel.ChanKind.{ChanKind}
use Rattle.xm_conf.specs.declared.channel.ChanKind.TheVariants as chan_kind
use Rattle.xm_conf.specs.declared.channel.End.{End}
use Rattle.xm_conf.specs.declared.link.Link.{Link}
use Rattle.xm_conf.specs.declared.raw.Region.{Region}
use Rattle.bin_config.specs.Version.{version_number}
use Rattle.bin_config.specs.declared.version.Version.{Version}
use Rattle.bin_config.specs.declared.version.Version.TheVariants as version

-- two bytes of a number, the higher one first
abbrev pub half_word : ℕ → List ℕ
half_word n = to_be_bytes w16 n

-- four bytes of a number, the highest one first
abbrev pub word_field : ℕ → List ℕ
word_field n = to_be_bytes w32 n

-- a text: a byte with its length, and its bytes
unfoldable pub text_field : List ℕ → List ℕ
text_field bytes = (length bytes ∷ []) ++ bytes

-- a list: a byte with the number of its elements, and each of them
abbrev pub list_field : {X : Type 0} → (X → List ℕ) → List X → List ℕ
list_field f xs = (length xs ∷ []) ++ flat_map f xs

-- whether something is so
abbrev pub flag_field : Bool → ℕ
flag_field true = 1
flag_field false = 0

-- a region
unfoldable pub region_record : Region → List ℕ
region_record r = word_field r.start ++ word_field r.size

-- a slot
unfoldable pub slot_record : Slot → List ℕ
slot_record s = word_field s.start ++ word_field s.duration ++ (s.part ∷ [])

-- a plan
unfoldable pub plan_record : Plan → List ℕ
plan_record p = word_field p.frame ++ list_field slot_record p.slots

-- the UART of a console, or 255 for none
abbrev pub console_field : Option ℕ → ℕ
console_field None = 255
console_field (Some uart) = uart

-- a requirement, or zeros for none
abbrev pub need_field : Option Need → List ℕ
need_field None = word_field 0 ++ word_field 0
need_field (Some n) = word_field n.duration ++ word_field n.period

-- an action's number
unfoldable pub action : Action → List ℕ
action a = (action_row a).number ∷ []

-- the actions of all events, and a bit for each event that is logged
unfoldable pub monitor : HmTable → List ℕ
monitor hm = flat_map action hm.actions ++ half_word hm.logged

-- an area
unfoldable pub area_record : Area → List ℕ
area_record a = word_field a.start ++ word_field a.size ++ (flag_field a.read_only ∷ [])

-- a port's kind
abbrev pub kind_byte : Kind → ℕ
kind_byte kind.Sampling = 0
kind_byte kind.Queuing = 1

-- a port's way
abbrev pub way_byte : Way → ℕ
way_byte way.Source = 0
way_byte way.Destination = 1

-- a port
unfoldable pub port_record : Port → List ℕ
port_record p = text_field p.name ++ (kind_byte p.kind ∷ []) ++ (way_byte p.way ∷ [])

-- who a partition is, and what time it requires
unfoldable pub identity : Part → List ℕ
identity p = text_field p.name ++ (flag_field p.system ∷ []) ++ (console_field p.console ∷ []) ++ need_field p.need ++ word_field p.trace_mask

-- what a partition has
unfoldable pub belongings : Part → List ℕ
belongings p = list_field area_record p.areas ++ list_field port_record p.ports

-- a partition
unfoldable pub part_record : Part → List ℕ
part_record p = identity p ++ monitor p.hm ++ belongings p

-- a channel's kind
abbrev pub chan_byte : ChanKind → ℕ
chan_byte (chan_kind.Sampling refresh) = 0
chan_byte (chan_kind.Queuing most) = 1

-- what a channel's kind has beside it
abbrev pub keeps : ChanKind → List ℕ
keeps (chan_kind.Sampling refresh) = word_field refresh
keeps (chan_kind.Queuing most) = most ∷ []

-- an end of a channel
unfoldable pub end : End → List ℕ
end e = (e.part ∷ []) ++ (e.port ∷ [])

-- a channel
unfoldable pub chan : Chan → List ℕ
chan c = (chan_byte c.kind ∷ []) ++ half_word c.length ++ keeps c.kind ++ end c.source ++ list_field end c.dests

-- a link
unfoldable pub link_text : Link → List ℕ
link_text l = (l.number ∷ []) ++ (l.source ∷ []) ++ (l.dest ∷ [])

-- the links, which version 1 does not have
abbrev pub links : Version → List Link → List ℕ
links version.One ls = []
links version.Two ls = list_field link_text ls

-- what stands after the length of the whole
unfoldable pub body : Version → Conf → List ℕ
body v conf =
    text_field conf.name ++ list_field region_record conf.regions ++ word_field conf.hv_size ++ list_field text_field conf.uarts ++ list_field plan_record conf.plans
    ++ list_field part_record conf.parts ++ list_field chan conf.chans ++ links v conf.links

-- the first bytes of a file of this many bytes
unfoldable pub head : Version → ℕ → List ℕ
head v total = codes "XMCF" ++ half_word (version_number v) ++ word_field total

-- the binary form
unfoldable pub xmc : Version → Conf → List ℕ
xmc v conf = head v (10 + length (body v conf)) ++ body v conf
