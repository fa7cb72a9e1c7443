-- The system that runs one raw image.
use Rattle.std.specs.Prelude.{◌≡◌, ℕ, ◌<◌, ◌≤◌, ◌⊎◌, false, List, [], ◌∷◌, length, map, codes, Some, None, Result, Ok, Err}
use Rattle.xm_base.specs.declared.limits.TheConstants.{IMAGE_BYTES}
use Rattle.xm_conf.specs.Configuration.{Conf, Part, Plan}
use Rattle.xm_conf.specs.Health.{default_action, events}
use Rattle.xm_conf.specs.declared.part.HmTable.{HmTable}
use Rattle.xm_conf.specs.declared.raw.Region.{Region}
use Rattle.xef_images.specs.Image.{Image}
use Rattle.loaded_system.specs.System.{System}
use Rattle.loaded_system.specs.declared.raw_image.BareFault.{BareFault}
use Rattle.loaded_system.specs.declared.raw_image.BareFault.TheVariants.{Length, Memory}

-- the default answers to all events, each of which is logged
abbrev pub default_table : HmTable
default_table = record { actions = map default_action events; logged = 0xfff }

-- the hypervisor's region of one page, and a region of 1 MiB
unfoldable pub bare_regions : List Region
bare_regions = record { start = 0x3000_0000; size = 4096 } ∷ record { start = 0x4000_0000; size = 0x10_0000 } ∷ []

-- the plan: a frame of 1000 microseconds, and one slot that lasts as long
unfoldable pub bare_plan : Plan
bare_plan = record { frame = 1000; slots = record { start = 0; duration = 1000; part = 0 } ∷ [] }

-- the partition: it is no system partition, has the console, and all of the second region
unfoldable pub bare_part : Part
bare_part = record {
  name = codes "bare";
  system = false;
  console = Some 0;
  need = None;
  trace_mask = 0;
  hm = default_table;
  areas = record { start = 0x4000_0000; size = 0x10_0000; read_only = false } ∷ [];
  ports = [];
}

-- the configuration: one UART, one plan and one partition
unfoldable pub bare_conf : Conf
bare_conf = record {
  name = codes "bare";
  regions = bare_regions;
  hv_size = 4096;
  uarts = codes "Uart" ∷ [];
  plans = bare_plan ∷ [];
  parts = bare_part ∷ [];
  chans = [];
  links = [];
}

-- the image: one segment, loaded at the start of the area and entered there
unfoldable pub bare_image : List ℕ → Image
bare_image image =
    record { entry = 0x4000_0000; segments = record { address = 0x4000_0000; memory = length image; bytes = image } ∷ [] }

-- the system that runs a raw image
abbrev pub bare_system : List ℕ → System
bare_system image = record { conf = bare_conf; images = bare_image image ∷ [] }

-- an image has bytes, and not too many
pub record IsImageLength (bytes : ℕ) : Type 0 where
  pub some : 0 < bytes
  pub most : bytes ≤ IMAGE_BYTES

-- what an image makes: its system, or the length that is refused
abbrev pub IsBare : Result System BareFault → List ℕ → Type 0
IsBare (Ok system) image = IsImageLength (length image) × (system ≡ bare_system image)
IsBare (Err (Length found)) image = (found ≡ length image) × ((found ≡ 0) ⊎ (IMAGE_BYTES < found))
IsBare (Err Memory) image = IsImageLength (length image)
