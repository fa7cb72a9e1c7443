-- The reading of a container: the system that the bytes spell, or the first fault from left to right.
use Rattle.std.specs.Prelude.{ℕ, zero, suc, ◌+◌, ◌==◌, nat_le, List, [], ◌∷◌, length, codes, Option, Some, None, Result, Ok, Err}
use Rattle.std.specs.Int.{w8, w32}
use Rattle.xm_base.specs.Cursor.{Place, left, past, cursor_start}
use Rattle.xm_conf.specs.Configuration.{Conf}
use Rattle.fault_messages.specs.OfHeads.{box_fault}
use Rattle.file_headers.specs.Faults.{HeadFaults}
use Rattle.file_headers.specs.Fields.{field_bytes, listed_at, number_at}
use Rattle.file_headers.specs.Heads.{stated_version, unsealed}
use Rattle.file_headers.specs.Known.{head_faults}
use Rattle.file_headers.specs.Lifted.{lifted_faults}
use Rattle.file_headers.specs.Steps.{◌>>=◌, unless}
use Rattle.bin_config.specs.Reading.{read_as}
use Rattle.bin_config.specs.Version.{version_numbered}
use Rattle.bin_config.specs.declared.version.Version.{Version}
use Rattle.fault_messages.specs.declared.fault.XmcFault.{XmcFault}
use Rattle.fault_messages.specs.declared.fault.XmcFault.TheVariants as xmc
use Rattle.xef_images.specs.Image.{Image}
use Rattle.xef_images.specs.Reading.{xef}
use Rattle.fault_messages.specs.declared.fault.XefFault.{XefFault}
use Rattle.fault_messages.specs.declared.fault.XefFault.TheVariants as xef_fault
use Rattle.loaded_system.specs.Inside.{first_outside}
use Rattle.loaded_system.specs.System.{System}
use Rattle.xm_container.specs.Entries.{Entries}
use Rattle.xm_container.specs.Numbers.{extra, missing}
use Rattle.xm_container.specs.declared.image.Image.{Image as Given}
use Rattle.fault_messages.specs.declared.fault.BoxFault.{BoxFault}
use Rattle.fault_messages.specs.declared.fault.BoxFault.TheVariants as fault

-- how the faults of its head and its digest are made
abbrev pub box_faults : HeadFaults BoxFault
box_faults = lifted_faults box_fault head_faults

-- a field that passes the end, and one whose value is not allowed
abbrev pub box_short : ℕ → BoxFault
box_short at = fault.Short at

abbrev pub box_field : ℕ → BoxFault
box_field at = fault.Field at

-- the fault of a configuration as that of its container
abbrev pub config_fault : XmcFault → BoxFault
config_fault xmc.Memory = fault.Memory
config_fault other = fault.Config other

-- a configuration that was read, with its fault as that of the container
abbrev pub as_config : Result Conf XmcFault → Result Conf BoxFault
as_config (Ok conf) = Ok conf
as_config (Err reported_fault) = Err (config_fault reported_fault)

-- the fault of an image as that of its container
abbrev pub image_fault : ℕ → XefFault → BoxFault
image_fault id xef_fault.Memory = fault.Memory
image_fault id other = fault.Image id other

-- an image that was read, with its fault as that of the container
abbrev pub as_image : ℕ → Result Image XefFault → Result Image BoxFault
as_image id (Ok image) = Ok image
as_image id (Err reported_fault) = Err (image_fault id reported_fault)

-- the length of the configuration, after the 10 bytes of name, version and length. A file so short that its head and its digest overlap never has the digest of its other bytes, so what is said here of fewer than 10 bytes is reported for no file
unfoldable pub length_at : Place → Result (ℕ × Place) BoxFault
length_at place = number_at box_short w32 (past 10 place)

-- the configuration, which is of the same version
unfoldable pub conf_at : Version → Place → Result (Conf × Place) BoxFault
conf_at v place = do
  count ← length_at place
  bytes ← field_bytes box_short count.0 count.1
  conf ← as_config (read_as v bytes.0)
  Ok (conf, bytes.1)

-- the number of an image's partition, which is not below the floor
unfoldable pub id_at : ℕ → Place → Result (ℕ × Place) BoxFault
id_at floor place = listed_at box_short box_field w8 (λ id. nat_le floor id) place

-- an image, by its length and its bytes
unfoldable pub image_at : ℕ → Place → Result (Image × Place) BoxFault
image_at id place = do
  count ← number_at box_short w32 place
  bytes ← field_bytes box_short count.0 count.1
  image ← as_image id (xef bytes.0)
  Ok (image, bytes.1)

-- an image with the number of its partition
unfoldable pub image_entry_at : ℕ → Place → Result (Given × Place) BoxFault
image_entry_at floor place = do
  id ← id_at floor place
  image ← image_at id.0 id.1
  Ok (record { id = id.0; xef = image.0 }, image.1)

-- an image before others
abbrev pub with_entry : Given → Entries → Entries
with_entry entry later = record { ids = entry.id ∷ later.ids; images = entry.xef ∷ later.images }

-- this many images, each with a number above that of the one before it
unfoldable pub image_entries_at : ℕ → ℕ → Place → Result (Entries × Place) BoxFault
image_entries_at zero floor place = Ok (record { ids = []; images = [] }, place)
image_entries_at (suc count) floor place = do
  entry ← image_entry_at floor place
  later ← image_entries_at count (entry.0.id + 1) entry.1
  Ok (with_entry entry.0 later.0, later.1)

-- the images after their number
unfoldable pub image_table_at : Place → Result (Entries × Place) BoxFault
image_table_at place = do
  count ← number_at box_short w8 place
  image_entries_at count.0 0 count.1

-- the configuration and the images of the bytes before the digest, and nothing after them
unfoldable pub container_fields : Version → List ℕ → Result (Conf × Entries) BoxFault
container_fields v bytes = do
  conf ← conf_at v (cursor_start bytes)
  entries ← image_table_at conf.1
  unless (left entries.1 == 0) (fault.Trailing entries.1.at) (conf.0, entries.0)

-- refused where there is something
abbrev pub unless_some : {X A : Type 0} → (X → BoxFault) → Option X → Result A BoxFault → Result A BoxFault
unless_some refusal None later = later
unless_some refusal (Some x) later = Err (refusal x)

-- the system of a configuration and images; refused by the first of these: an image too many, an image too few, a segment that lies outside
unfoldable pub assigned : Conf → Entries → Result System BoxFault
assigned conf entries =
    unless_some (λ id. fault.Extra id) (extra (length conf.parts) entries.ids)
    (unless_some (λ id. fault.Missing id) (missing (length conf.parts) entries.ids)
    (unless_some (λ outside. fault.Outside outside.id outside.address) (first_outside conf.parts entries.images)
    (Ok (record { conf = conf; images = entries.images }))))

-- a version where there is one; else its number is at fault
abbrev pub or_container_version : ℕ → Option Version → Result Version BoxFault
or_container_version number None = Err (fault.Version number)
or_container_version number (Some v) = Ok v

-- the version of the bytes before the digest
unfoldable pub version_in : List ℕ → Result Version BoxFault
version_in bytes = do
  number ← stated_version box_faults (codes "XMPK") 2 bytes
  or_container_version number (version_numbered number)

-- the system of the bytes before the digest
unfoldable pub system_in : List ℕ → Result System BoxFault
system_in bytes = do
  version ← version_in bytes
  fields ← container_fields version bytes
  assigned fields.0 fields.1

-- the system of a container, or its first fault
unfoldable pub unpacked : List ℕ → Result System BoxFault
unpacked bytes = unsealed box_faults (codes "XMPK") 2 bytes >>= system_in
