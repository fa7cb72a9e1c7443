-- The outcome of a configuration and images: a container of version 2, or why there is none.
use Rattle.std.specs.Prelude.{◌≡◌, ℕ, zero, suc, ◌+◌, ◌==◌, nat_le, if◌then◌else◌, List, [], ◌∷◌, ◌++◌, length, map, Option, Some, None, Result, Ok, Err, Vec}
use Rattle.std.specs.Option.{option_to_list}
use Rattle.xm_base.specs.declared.limits.TheConstants.{FILE_BYTES}
use Rattle.bin_config.specs.declared.version.Version.TheVariants.{Two}
use Rattle.xm_conf.specs.Configuration.{Conf}
use Rattle.xef_images.specs.Image.{Image}
use Rattle.xef_images.specs.Spelling.{xef_text}
use Rattle.loaded_system.specs.Inside.{first_outside}
use Rattle.loaded_system.specs.System.{System}
use Rattle.loaded_system.specs.declared.system.Outside.{Outside}
use Rattle.xm_container.specs.Box.{box_length, fields_text, sealed_text}
use Rattle.xm_container.specs.Numbers.{extra, missing}
use Rattle.xm_container.specs.declared.image.Image.{Image as Given}
use Rattle.fault_messages.specs.declared.fault.PackFault.{PackFault}
use Rattle.fault_messages.specs.declared.fault.PackFault.TheVariants as fault

-- the numbers of images
abbrev pub partition_numbers : List Given → List ℕ
partition_numbers images = map (λ image. image.id) images

-- the image of a partition's number, where there is one
abbrev pub image_of : List Given → ℕ → Option Image
image_of [] id = None
image_of (image ∷ later) id = if image.id == id then Some image.xef else image_of later id

-- each of the files is that of the image at its place
abbrev pub AreFilesOf : List (List ℕ) → List Given → Type 0
AreFilesOf [] images = Unit {0}
AreFilesOf (file ∷ files) [] = Unit {0}
AreFilesOf (file ∷ files) (image ∷ images) = (file ≡ xef_text image.xef) × AreFilesOf files images

-- the images of this many partitions from one on, in the order of their numbers
abbrev pub in_order : List Given → ℕ → ℕ → List Image
in_order images from zero = []
in_order images from (suc count) = option_to_list (image_of images from) ++ in_order images (from + 1) count

-- the system in which each partition has the image of its number
abbrev pub system_of : Conf → List Given → System
system_of conf images = record { conf = conf; images = in_order images 0 (length conf.parts) }

-- a container with these fields, where it is not too long
unfoldable pub sealed : List ℕ → Result (List ℕ) PackFault
sealed fields =
    if nat_le (box_length fields) FILE_BYTES then Ok (sealed_text Two fields) else Err (fault.Long (box_length fields))

-- refused where a segment lies outside
abbrev pub unless_outside : Option Outside → Result (List ℕ) PackFault → Result (List ℕ) PackFault
unless_outside None later = later
unless_outside (Some outside) later = Err (fault.Outside outside.id outside.address)

-- refused where a partition has no image
abbrev pub unless_image_missing : Option ℕ → Result (List ℕ) PackFault → Result (List ℕ) PackFault
unless_image_missing None later = later
unless_image_missing (Some id) later = Err (fault.Missing id)

-- refused where an image has no partition
abbrev pub unless_extra : Option ℕ → Result (List ℕ) PackFault → Result (List ℕ) PackFault
unless_extra None later = later
unless_extra (Some id) later = Err (fault.Extra id)

-- the container of a configuration and images; refused by the first of these: an image too many, an image too few, a
-- segment that lies outside, too many bytes
unfoldable pub packed : Conf → List Given → Result (List ℕ) PackFault
packed conf images =
    unless_extra (extra (length conf.parts) (partition_numbers images))
    (unless_image_missing (missing (length conf.parts) (partition_numbers images))
    (unless_outside (first_outside conf.parts (in_order images 0 (length conf.parts)))
    (sealed (fields_text Two (system_of conf images)))))

-- what was answered is the outcome of packing, unless memory runs out
abbrev pub Packs : {A : Type 0} → Result (Vec ℕ A) PackFault → Result (List ℕ) PackFault → Type 0
Packs (Ok bytes) packed = packed ≡ Ok bytes.items
Packs (Err fault.Memory) packed = Unit {0}
Packs (Err (fault.Missing id)) packed = packed ≡ Err (fault.Missing id)
Packs (Err (fault.Extra id)) packed = packed ≡ Err (fault.Extra id)
Packs (Err (fault.Outside id address)) packed = packed ≡ Err (fault.Outside id address)
Packs (Err (fault.Long length)) packed = packed ≡ Err (fault.Long length)
