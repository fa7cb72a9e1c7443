-- Bytes of parts of saved machines, worked by hand, and what is read of bytes.
use Rattle.std.specs.Prelude.{◌≡◌, ℕ, ◌++◌, Bool, true, false, List, [], ◌∷◌, replicate, Some, None, Ok, Err}
use Rattle.guest_bus.specs.Memory.{Area, Memory}
use Rattle.machine_model.specs.View.{no_part}
use Rattle.saved_machines.specs.SavedFields.{content_field, health_field, log_counts, made_field, timer_field, trace_field}
use Rattle.saved_machines.specs.SavedFormat.{area_pages_format, clock_format, head_format, loaded_page, page_format, pages_format, processor_format, standing_format, traps_format}
use Rattle.saved_machines.specs.Saved.{SavedHead}
use Rattle.saved_machines.specs.declared.fault.SavedFault.TheVariants as fault
use Rattle.xm_base.specs.Cursor.{Place, cursor_start}
use Rattle.xm_base.specs.declared.partition.State.TheVariants.{Suspended}
use Rattle.xm_conf.specs.Configuration.{Chan, Conf, Part}
use Rattle.xm_conf.specs.declared.channel.ChanKind.TheVariants as chan_kind
use Rattle.xm_conf.specs.declared.health.Action.TheVariants as action
use Rattle.xm_conf.specs.declared.health.Event.TheVariants as event
use Rattle.xm_conf.specs.declared.port.Kind.TheVariants as kind
use Rattle.xm_conf.specs.declared.port.Way.TheVariants as way
use Rattle.xm_ports.specs.Channels.{Queuing, Sampling}

-- a queue from port 1 of partition 0 to port 0 of partition 1
abbrev pub one_queue : Chan
one_queue = record { kind = chan_kind.Queuing 2; length = 8; source = record { part = 0; port = 1 }; dests = record { part = 1; port = 0 } ∷ [] }

-- an area of 8192 bytes
abbrev pub some_area : Area
some_area = record { start = 0x40000000; size = 8192; read_only = true }

-- partition 0 has two ports and an area of 8192 bytes
abbrev pub first_part : Part
first_part = record no_part {
  areas = record { start = 0x40000000; size = 8192; read_only = true } ∷ [];
  ports = record { name = []; kind = kind.Queuing; way = way.Source } ∷ record { name = []; kind = kind.Queuing; way = way.Source } ∷ [];
}

-- two plans, of 1000 and of 500 ticks
abbrev pub two_plans : Conf
two_plans = record {
  name = [];
  regions = [];
  hv_size = 0;
  uarts = [];
  plans = record { frame = 1000; slots = [] } ∷ record { frame = 500; slots = [] } ∷ [];
  parts = first_part ∷ no_part ∷ [];
  chans = one_queue ∷ [];
  links = [];
}

-- a place in bytes
abbrev pub place_in_file : List ℕ → ℕ → Place
place_in_file bytes at = record { bytes = bytes; at = at }

-- 1000 as eight bytes
abbrev pub thousand : List ℕ
thousand = 0 ∷ 0 ∷ 0 ∷ 0 ∷ 0 ∷ 0 ∷ 3 ∷ 232 ∷ []

-- a head after 5000 ticks
abbrev pub some_head : Bool → SavedHead
some_head halted = record { container = replicate 16 7; ticks = 5000; time = 1200; resets = 2; halted = halted; clock = record { plan = 1; frame_start = 1000; asked = None } }

-- plan clocks
pub record ClockRows : Type 0 where
  pub clock : (clock_format two_plans 1200).spell (record { plan = 1; frame_start = 1000; asked = None }) ≡ 1 ∷ [] ++ thousand ++ 0 ∷ 0 ∷ []
  pub asked : (clock_format two_plans 1200).spell (record { plan = 1; frame_start = 1000; asked = Some 1 }) ≡ 1 ∷ [] ++ thousand ++ 1 ∷ 1 ∷ []
  pub read : (clock_format two_plans 1499).read (cursor_start (1 ∷ [] ++ thousand ++ 1 ∷ 0 ∷ []))
      ≡ Ok (record { plan = 1; frame_start = 1000; asked = Some 0 }, place_in_file (1 ∷ [] ++ thousand ++ 1 ∷ 0 ∷ []) 11)
  pub no_plan : (clock_format two_plans 1200).read (cursor_start (2 ∷ [])) ≡ Err (fault.Field 0)
  pub later : (clock_format two_plans 999).read (cursor_start (1 ∷ [] ++ thousand)) ≡ Err (fault.Field 1)
  pub ended : (clock_format two_plans 1500).read (cursor_start (1 ∷ [] ++ thousand)) ≡ Err (fault.Field 1)
  pub other : (clock_format two_plans 1200).read (cursor_start (1 ∷ [] ++ thousand ++ 1 ∷ 2 ∷ [])) ≡ Err (fault.Field 10)
  pub filled : (clock_format two_plans 1200).read (cursor_start (1 ∷ [] ++ thousand ++ 0 ∷ 1 ∷ [])) ≡ Err (fault.Field 10)
  pub cut : (clock_format two_plans 1200).read (cursor_start (1 ∷ 0 ∷ [])) ≡ Err (fault.Short 1)

-- heads
pub record HeadRows : Type 0 where
  pub head : (head_format two_plans (replicate 16 7)).spell (some_head true)
      ≡ replicate 16 7 ++ 0 ∷ 0 ∷ 0 ∷ 0 ∷ 0 ∷ 0 ∷ 19 ∷ 136 ∷ 0 ∷ 0 ∷ 0 ∷ 0 ∷ 0 ∷ 0 ∷ 4 ∷ 176 ∷ 0 ∷ 0 ∷ 0 ∷ 2 ∷ 1 ∷ 1 ∷ [] ++ thousand ++ 0 ∷ 0 ∷ []
  pub container : (head_format two_plans (replicate 16 8)).read (cursor_start (replicate 16 7)) ≡ Err (fault.Container (replicate 16 7) (replicate 16 8))
  pub most : (head_format two_plans (replicate 16 7)).fits (record (some_head false) { ticks = 4000000000 }) ≡ true
  pub more : (head_format two_plans (replicate 16 7)).fits (record (some_head false) { ticks = 4000000001 }) ≡ false
  pub halts : (head_format two_plans (replicate 16 7)).fits (record (some_head true) { ticks = 3999999999 }) ≡ true
  pub after : (head_format two_plans (replicate 16 7)).fits (record (some_head true) { ticks = 4000000000 }) ≡ false
  pub time : (head_format two_plans (replicate 16 7)).fits (record (some_head false) { ticks = 1200 }) ≡ true
  pub ahead : (head_format two_plans (replicate 16 7)).fits (record (some_head false) { ticks = 1199 }) ≡ false

-- what channels hold
pub record ChannelRows : Type 0 where
  pub empty : (content_field (chan_kind.Sampling 100) 4).spell (Sampling None) ≡ 0 ∷ []
  pub sample : (content_field (chan_kind.Sampling 100) 4).spell (Sampling (Some record { time = 1000; bytes = 5 ∷ 6 ∷ [] })) ≡ 1 ∷ [] ++ thousand ++ 0 ∷ 2 ∷ 5 ∷ 6 ∷ []
  pub queue : (content_field (chan_kind.Queuing 2) 4).spell (Queuing ((5 ∷ []) ∷ (6 ∷ 7 ∷ []) ∷ [])) ≡ 2 ∷ 0 ∷ 1 ∷ 5 ∷ 0 ∷ 2 ∷ 6 ∷ 7 ∷ []
  pub full : (content_field (chan_kind.Queuing 2) 4).read (cursor_start (3 ∷ [])) ≡ Err (fault.Field 0)
  pub none : (content_field (chan_kind.Queuing 2) 4).read (cursor_start (1 ∷ 0 ∷ 0 ∷ [])) ≡ Err (fault.Field 1)
  pub long : (content_field (chan_kind.Queuing 2) 4).read (cursor_start (1 ∷ 0 ∷ 5 ∷ [])) ≡ Err (fault.Field 1)
  pub kind : (content_field (chan_kind.Queuing 2) 4).fits (Sampling None) ≡ false

-- parts of a partition
pub record PartitionRows : Type 0 where
  pub standing : (standing_format (some_head false) 1).spell (record { state = Suspended; resets = 3; reset_status = 4; execution = 1000 }) ≡ 1 ∷ 2 ∷ 0 ∷ 0 ∷ 0 ∷ 3 ∷ 0 ∷ 0 ∷ 0 ∷ 4 ∷ [] ++ thousand
  pub number : (standing_format (some_head false) 1).read (cursor_start (0 ∷ [])) ≡ Err (fault.Field 0)
  pub state : (standing_format (some_head false) 1).read (cursor_start (1 ∷ 4 ∷ [])) ≡ Err (fault.Field 1)
  pub began : (standing_format (some_head true) 1).fits (record { state = Suspended; resets = 3; reset_status = 4; execution = 5001 }) ≡ true
  pub never : (standing_format (some_head false) 1).fits (record { state = Suspended; resets = 3; reset_status = 4; execution = 5001 }) ≡ false
  pub processor : processor_format.spell (record { pc = 0x40000000; npc = 0x40000004; y = 1; icc = 15; cwp = 0; inv = 7 }) ≡ 64 ∷ 0 ∷ 0 ∷ 0 ∷ 64 ∷ 0 ∷ 0 ∷ 4 ∷ 0 ∷ 0 ∷ 0 ∷ 1 ∷ 15 ∷ 0 ∷ 7 ∷ []
  pub window : processor_format.fits (record { pc = 0; npc = 4; y = 0; icc = 0; cwp = 7; inv = 7 }) ≡ false
  pub aligned : processor_format.read (cursor_start (0 ∷ 0 ∷ 0 ∷ 2 ∷ [])) ≡ Err (fault.Field 0)
  pub traps : traps_format.spell (record { enabled = true; base = 4096; pending = 1; mask = 2 }) ≡ 1 ∷ 0 ∷ 0 ∷ 16 ∷ 0 ∷ 0 ∷ 0 ∷ 0 ∷ 1 ∷ 0 ∷ 0 ∷ 0 ∷ 2 ∷ []
  pub timer : timer_field.spell (Some record { deadline = 1000; interval = 1000 }) ≡ 1 ∷ [] ++ thousand ++ thousand
  pub no_timer : timer_field.spell None ≡ 0 ∷ 0 ∷ 0 ∷ 0 ∷ 0 ∷ 0 ∷ 0 ∷ 0 ∷ 0 ∷ 0 ∷ 0 ∷ 0 ∷ 0 ∷ 0 ∷ 0 ∷ 0 ∷ 0 ∷ []
  pub unarmed : timer_field.read (cursor_start (1 ∷ 0 ∷ 0 ∷ 0 ∷ 0 ∷ 0 ∷ 0 ∷ 0 ∷ 0 ∷ [])) ≡ Err (fault.Field 1)
  pub made : (made_field two_plans 0).spell (false ∷ true ∷ replicate 30 false) ≡ 0 ∷ 0 ∷ 0 ∷ 2 ∷ []
  pub no_end : (made_field two_plans 0).read (cursor_start (0 ∷ 0 ∷ 0 ∷ 1 ∷ [])) ≡ Err (fault.Field 0)
  pub no_port : (made_field two_plans 1).read (cursor_start (0 ∷ 0 ∷ 0 ∷ 1 ∷ [])) ≡ Err (fault.Field 0)

-- logs
pub record LogRows : Type 0 where
  pub few : (log_counts 100).spell 3 ≡ 0 ∷ 0 ∷ 0 ∷ 0 ∷ 0 ∷ 0 ∷ 0 ∷ 3 ∷ []
  pub many : (log_counts 100).spell 70 ≡ 0 ∷ 0 ∷ 0 ∷ 6 ∷ 0 ∷ 0 ∷ 0 ∷ 70 ∷ []
  pub last : (log_counts 100).fits 100 ≡ true
  pub past : (log_counts 100).fits 101 ≡ false
  pub oldest : (log_counts 100).read (cursor_start (0 ∷ 0 ∷ 0 ∷ 7 ∷ 0 ∷ 0 ∷ 0 ∷ 70 ∷ [])) ≡ Err (fault.Field 4)
  pub trace : trace_field.spell (record { time = 1000; bits = 1; seq = 2; load = 1 ∷ 2 ∷ 3 ∷ 4 ∷ 5 ∷ 6 ∷ 7 ∷ 8 ∷ [] })
      ≡ thousand ++ 0 ∷ 0 ∷ 0 ∷ 1 ∷ 0 ∷ 0 ∷ 0 ∷ 2 ∷ 1 ∷ 2 ∷ 3 ∷ 4 ∷ 5 ∷ 6 ∷ 7 ∷ 8 ∷ []
  pub health : health_field.spell (record { time = 1000; seq = 2; event = event.SparcDataAccess; action = action.SwitchToMaintenance; word = 3 })
      ≡ thousand ++ 0 ∷ 0 ∷ 0 ∷ 2 ∷ 11 ∷ 10 ∷ 0 ∷ 0 ∷ 0 ∷ 0 ∷ 0 ∷ 3 ∷ []

-- pages
pub record PageRows : Type 0 where
  pub spelled : (loaded : Memory) → (page_format some_area loaded 0).spell (record { address = 0x40001F00; bytes = 9 ∷ [] }) ≡ 64 ∷ 0 ∷ 31 ∷ 0 ∷ 9 ∷ []
  pub last : (loaded : Memory) → (page_format some_area loaded 0x40001F00).read (cursor_start (64 ∷ 0 ∷ 31 ∷ 0 ∷ [])) ≡ Err (fault.Short 4)
  pub outside : (loaded : Memory) → (page_format some_area loaded 0).read (cursor_start (64 ∷ 0 ∷ 32 ∷ 0 ∷ [])) ≡ Err (fault.Field 0)
  pub within : (loaded : Memory) → (page_format some_area loaded 0).read (cursor_start (64 ∷ 0 ∷ 0 ∷ 128 ∷ [])) ≡ Err (fault.Field 0)
  pub falls : (loaded : Memory) → (page_format some_area loaded 0x40000100).read (cursor_start (64 ∷ 0 ∷ 0 ∷ 0 ∷ [])) ≡ Err (fault.Field 0)
  pub below : (loaded : Memory) → (area_pages_format loaded some_area).read (cursor_start (0 ∷ 0 ∷ 0 ∷ 1 ∷ 63 ∷ 255 ∷ 255 ∷ 0 ∷ [])) ≡ Err (fault.Field 4)
  pub none : (loaded : Memory) → (pages_format two_plans loaded 0).spell ([] ∷ []) ≡ 0 ∷ 0 ∷ 0 ∷ 0 ∷ []
  pub areas : (loaded : Memory) → (pages_format two_plans loaded 0).fits [] ≡ false
  pub same : (loaded : Memory) (address : ℕ) → (page_format some_area loaded 0).fits (record { address = address; bytes = loaded_page loaded address }) ≡ false
