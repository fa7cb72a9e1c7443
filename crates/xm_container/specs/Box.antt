-- The one spelling of a system in each version: its container, byte by byte.
use Rattle.std.specs.Prelude.{◌≡◌, ℕ, ◌+◌, ◌<◌, ◌^◌, List, [], ◌∷◌, ◌++◌, length, codes}
use Rattle.std.specs.Int.{w16, w32, to_be_bytes}
use Rattle.md5.specs.Md5.{md5}
use Rattle.bin_config.specs.Spelled.{HasConfRanges}
use Rattle.bin_config.specs.Version.{version_number, FitsVersion}
use Rattle.bin_config.specs.Xmc.{xmc}
use Rattle.bin_config.specs.declared.version.Version.{Version}
use Rattle.xef_images.specs.Image.{Image}
use Rattle.xef_images.specs.Spelling.{xef_text}
use Rattle.loaded_system.specs.System.{System, IsSystem}

-- bytes after their length
unfoldable pub sized_text : List ℕ → List ℕ
sized_text bytes = to_be_bytes w32 (length bytes) ++ bytes

-- an image: the number of its partition, its length and its bytes
unfoldable pub image_entry_text : ℕ → Image → List ℕ
image_entry_text id image = id ∷ sized_text (xef_text image)

-- images, of which the first has this number, and each later one the next number
abbrev pub entries_text : ℕ → List Image → List ℕ
entries_text id [] = []
entries_text id (image ∷ images) = image_entry_text id image ++ entries_text (id + 1) images

-- what stands between the length of the whole and the digest: the configuration, the number of images, and the images
unfoldable pub fields_text : Version → System → List ℕ
fields_text v system = sized_text (xmc v system.conf) ++ length system.images ∷ entries_text 0 system.images

-- the length of a container with these fields: 10 bytes before them and 16 after them
abbrev pub box_length : List ℕ → ℕ
box_length fields = 26 + length fields

-- what stands before the digest: the name, the version, the length of the whole, and the fields
unfoldable pub front_text : Version → List ℕ → List ℕ
front_text v fields = codes "XMPK" ++ to_be_bytes w16 (version_number v) ++ to_be_bytes w32 (box_length fields) ++ fields

-- a container with these fields: the digest of all that stands before it is at its end
unfoldable pub sealed_text : Version → List ℕ → List ℕ
sealed_text v fields = front_text v fields ++ md5 (front_text v fields)

-- the container of a system, whose configuration is of the same version
unfoldable pub box_text : Version → System → List ℕ
box_text v system = sealed_text v (fields_text v system)

-- the bytes are the container of a system in a version. The system can be loaded, its configuration meets the rules of the
-- version and has its numbers in the ranges of their fields; a word can say how many the bytes are
pub record IsSpelledContainer (v : Version) (bytes : List ℕ) (system : System) : Type 0 where
  pub loads : IsSystem system
  pub fits : FitsVersion v system.conf
  pub ranges : HasConfRanges system.conf
  pub short : length bytes < 2 ^ 32
  pub text : bytes ≡ box_text v system
