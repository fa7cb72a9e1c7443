-- A configuration with its numbers cut down to what their fields can hold: such a number stays past what the rules allow.
use Rattle.std.specs.Prelude.{ℕ, nat_lt, if◌then◌else◌, map}
use Rattle.xm_base.specs.Options.{on}
use Rattle.xm_conf.specs.Configuration.{Plan, Part, Chan, Conf}
use Rattle.xm_conf.specs.declared.plan.Slot.{Slot}
use Rattle.xm_conf.specs.declared.channel.ChanKind.{ChanKind}
use Rattle.xm_conf.specs.declared.channel.ChanKind.TheVariants as chan_kind
use Rattle.xm_conf.specs.declared.channel.End.{End}
use Rattle.xm_conf.specs.declared.link.Link.{Link}

-- a number, or the greatest that a field holds where it is greater
unfoldable pub capped : ℕ → ℕ → ℕ
capped most n = if nat_lt most n then most else n

-- a slot whose partition's number a field holds
unfoldable pub capped_slot : Slot → Slot
capped_slot slot = record { start = slot.start; duration = slot.duration; part = capped 255 slot.part }

-- a plan of such slots
unfoldable pub capped_plan : Plan → Plan
capped_plan plan = record { frame = plan.frame; slots = map capped_slot plan.slots }

-- an end of a channel whose numbers fields hold
unfoldable pub capped_end : End → End
capped_end end = record { part = capped 255 end.part; port = capped 255 end.port }

-- what a channel keeps, with a count that a field holds
unfoldable pub capped_kind : ChanKind → ChanKind
capped_kind (chan_kind.Sampling refresh) = chan_kind.Sampling refresh
capped_kind (chan_kind.Queuing most) = chan_kind.Queuing (capped 255 most)

-- a channel whose numbers fields hold
unfoldable pub capped_chan : Chan → Chan
capped_chan chan =
    record { kind = capped_kind chan.kind; length = capped 65535 chan.length; source = capped_end chan.source; dests = map capped_end chan.dests }

-- a link whose numbers fields hold
unfoldable pub capped_link : Link → Link
capped_link link = record { number = capped 255 link.number; source = capped 255 link.source; dest = capped 255 link.dest }

-- a partition whose console's number a field holds
unfoldable pub capped_part : Part → Part
capped_part part =
    record {
      name = part.name;
      system = part.system;
      console = on (capped 255) part.console;
      need = part.need;
      trace_mask = part.trace_mask;
      hm = part.hm;
      areas = part.areas;
      ports = part.ports;
    }

-- a configuration whose numbers fields hold
unfoldable pub capped_conf : Conf → Conf
capped_conf conf =
    record {
      name = conf.name;
      regions = conf.regions;
      hv_size = conf.hv_size;
      uarts = conf.uarts;
      plans = map capped_plan conf.plans;
      parts = map capped_part conf.parts;
      chans = map capped_chan conf.chans;
      links = map capped_link conf.links;
    }
