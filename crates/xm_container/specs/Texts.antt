-- The lines that describe a container.
use Rattle.std.specs.Prelude.{ℕ, ◌+◌, ◌-◌, List, [], ◌∷◌, ◌++◌, length, drop, codes, decimal}
use Rattle.hex.specs.Hex.{encode_lower}
use Rattle.md5.specs.Md5.{md5}
use Rattle.fault_messages.specs.Texts.{address_text}
use Rattle.xef_images.specs.Image.{Image}
use Rattle.xef_images.specs.Spelling.{before_text, xef_text}
use Rattle.loaded_system.specs.System.{System}

-- the line of a container: its length, and the digest at its end
unfoldable pub container_line : ℕ → List ℕ → List ℕ
container_line length digest = codes "container length=" ++ decimal length ++ codes " md5=" ++ encode_lower digest ++ codes "\n"

-- the line of a configuration: its name, and how many partitions, plans and channels it has
unfoldable pub system_line : List ℕ → ℕ → ℕ → ℕ → List ℕ
system_line name parts plans channels =
    codes "system name=" ++ name ++ codes " parts=" ++ decimal parts ++ codes " plans=" ++ decimal plans ++ codes " channels=" ++ decimal channels ++ codes "\n"

-- the line of an image's file: the number of its partition, its length, where the image starts, and the digest at its end
unfoldable pub file_line : ℕ → ℕ → ℕ → List ℕ → List ℕ
file_line id length entry digest =
    codes "image id=" ++ decimal id ++ codes " length=" ++ decimal length ++ codes " entry=" ++ address_text entry ++ codes " md5=" ++ encode_lower digest ++ codes "\n"

-- the line of an image
abbrev pub image_line : ℕ → Image → List ℕ
image_line id image = file_line id (length (xef_text image)) image.entry (md5 (before_text image))

-- the lines of images, of which the first has this number
abbrev pub image_lines : ℕ → List Image → List ℕ
image_lines id [] = []
image_lines id (image ∷ images) = image_line id image ++ image_lines (id + 1) images

-- the lines that describe a container and its system
unfoldable pub box_lines : List ℕ → System → List ℕ
box_lines bytes system =
    container_line (length bytes) (drop (length bytes - 16) bytes)
    ++ system_line system.conf.name (length system.conf.parts) (length system.conf.plans) (length system.conf.chans)
    ++ image_lines 0 system.images
