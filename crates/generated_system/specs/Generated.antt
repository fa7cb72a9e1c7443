-- The system that is generated out of a number: sixteen partitions, of which each two neighbours share a queue.
use Rattle.std.specs.Prelude.{ℕ, zero, suc, ◌+◌, ◌*◌, ◌%◌, ◌==◌, if◌then◌else◌, false, List, [], ◌∷◌, ◌++◌, length, map, codes, decimal, None}
use Rattle.std.specs.Int.{to_be_bytes, w32}
use Rattle.std.specs.List.{flat_map, range_with_len}
use Rattle.xm_conf.specs.Configuration.{Chan, Conf, Part, Plan}
use Rattle.xm_conf.specs.declared.channel.ChanKind.TheVariants as chan_kind
use Rattle.xm_conf.specs.declared.plan.Slot.{Slot}
use Rattle.xm_conf.specs.declared.port.Kind.TheVariants as kind
use Rattle.xm_conf.specs.declared.port.Way.{Way}
use Rattle.xm_conf.specs.declared.port.Way.TheVariants as way
use Rattle.xef_images.specs.Image.{Image}
use Rattle.loaded_system.specs.Bare.{default_table}
use Rattle.loaded_system.specs.System.{System}

-- this many things, each by its number
abbrev pub numbered : {X : Type 0} → (ℕ → X) → ℕ → List X
numbered f count = map f (range_with_len 0 count)

-- what begins at a place, of things so far apart from each other
abbrev pub spaced : ℕ → ℕ → ℕ → ℕ
spaced first apart i = first + apart * i

-- numbers are drawn one after the other: the first is what is left of the number given, and each later one is made of the one before
unfoldable pub next_drawn : ℕ → ℕ
next_drawn x = (75 * x + 74) % 65537

abbrev pub drawn : ℕ → ℕ → ℕ
drawn number zero = number % 65537
drawn number (suc i) = next_drawn (drawn number i)

-- the slot of partition i begins with its millisecond of the frame, and lasts up to as long
unfoldable pub slot_drawn : ℕ → ℕ → Slot
slot_drawn i x = record { start = spaced 0 1000 i; duration = 100 + x % 901; part = i }

abbrev pub generated_slot : ℕ → ℕ → Slot
generated_slot number i = slot_drawn i (drawn number (suc i))

unfoldable pub generated_slots : ℕ → List Slot
generated_slots number = numbered (generated_slot number) 16

-- the plan of these slots
unfoldable pub generated_plan : List Slot → Plan
generated_plan slots = record { frame = 16000; slots = slots }

-- where the area of partition i begins
unfoldable pub area_start : ℕ → ℕ
area_start i = spaced 0x4010_0000 4096 i

-- the end of a channel that partition i has: even ones send, and odd ones receive
unfoldable pub generated_way : ℕ → Way
generated_way i = if i % 2 == 0 then way.Source else way.Destination

-- the name of every port
unfoldable pub port_name : List ℕ
port_name = codes "q"

-- partition i: it is no system partition, has no console and no requirement, one page, and one port
unfoldable pub generated_part : ℕ → Part
generated_part i = record {
  name = codes "G" ++ decimal i;
  system = false;
  console = None;
  need = None;
  trace_mask = 0;
  hm = default_table;
  areas = record { start = area_start i; size = 4096; read_only = false } ∷ [];
  ports = record { name = port_name; kind = kind.Queuing; way = generated_way i } ∷ [];
}

unfoldable pub all_parts : List Part
all_parts = numbered generated_part 16

-- channel j, from one partition to the next: four messages of a byte
unfoldable pub chan_of : ℕ → Chan
chan_of j = record {
  kind = chan_kind.Queuing 4;
  length = 1;
  source = record { part = 2 * j; port = 0 };
  dests = record { part = 2 * j + 1; port = 0 } ∷ [];
}

unfoldable pub all_chans : List Chan
all_chans = numbered chan_of 8

-- the configuration with these slots: a region of 4 MiB, no UART, one plan, and no link
unfoldable pub conf_with : List Slot → Conf
conf_with slots = record {
  name = codes "gen";
  regions = record { start = 0x4000_0000; size = 0x40_0000 } ∷ [];
  hv_size = 0x1_0000;
  uarts = [];
  plans = generated_plan slots ∷ [];
  parts = all_parts;
  chans = all_chans;
  links = [];
}

unfoldable pub generated_conf : ℕ → Conf
generated_conf number = conf_with (generated_slots number)

-- the first word of an image: SETHI of a register with the area's first addresses
unfoldable pub first_word : ℕ → ℕ
first_word i = spaced 0x0310_0400 4 i

-- what a partition that sends does after it: its port is made, and a byte is sent again and again; the names stand at the end
unfoldable pub sending_code : List ℕ
sending_code =
    0x9210_6038 ∷ 0x9410_2004 ∷ 0x9610_2001 ∷ 0x9810_2000 ∷ 0x9010_2014 ∷ 0x91d0_2070
    ∷ 0x9210_2000 ∷ 0x9410_603c ∷ 0x9610_2001 ∷ 0x9010_2015 ∷ 0x91d0_2070 ∷ 0x10bf_fffb ∷ 0x0100_0000 ∷ 0x7100_0000 ∷ 0x6d00_0000 ∷ []

-- and one that receives: its port is made, a byte is taken and written to the console, and it waits for its next slot, again and again
unfoldable pub receiving_code : List ℕ
receiving_code =
    0x9210_6050 ∷ 0x9410_2004 ∷ 0x9610_2001 ∷ 0x9810_2001 ∷ 0x9010_2014 ∷ 0x91d0_2070
    ∷ 0x9210_2000 ∷ 0x9410_6054 ∷ 0x9610_2001 ∷ 0x9010_2016 ∷ 0x91d0_2070
    ∷ 0x9210_6054 ∷ 0x9410_2001 ∷ 0x9010_2020 ∷ 0x91d0_2070 ∷ 0x9010_2007 ∷ 0x91d0_2070 ∷ 0x10bf_fff5 ∷ 0x0100_0000 ∷ 0x7100_0000 ∷ 0x0000_0000 ∷ []

-- what partition i does after its first word
unfoldable pub program_of : ℕ → List ℕ
program_of i = if i % 2 == 0 then sending_code else receiving_code

-- the bytes of partition i's image
unfoldable pub image_bytes : ℕ → List ℕ
image_bytes i = flat_map (to_be_bytes w32) (first_word i ∷ program_of i)

-- the image: one segment, loaded at the start of the area and entered there
unfoldable pub generated_image : ℕ → Image
generated_image i = record {
  entry = area_start i;
  segments = record { address = area_start i; memory = length (image_bytes i); bytes = image_bytes i } ∷ [];
}

unfoldable pub all_images : List Image
all_images = numbered generated_image 16

-- the system that is generated out of a number
unfoldable pub generated : ℕ → System
generated number = record { conf = generated_conf number; images = all_images }
