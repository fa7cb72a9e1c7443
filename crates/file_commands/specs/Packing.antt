-- The outcome of a configuration and the images of its partitions, by the bytes of their files.
use Rattle.std.specs.Prelude.{ℕ, List, [], ◌∷◌, map, Result, Ok, Err}
use Rattle.xm_conf.specs.Configuration.{Conf}
use Rattle.bin_config.specs.Reading.{read_of}
use Rattle.fault_messages.specs.Texts.{xmc_fault_text}
use Rattle.fault_messages.specs.declared.fault.XmcFault.{XmcFault}
use Rattle.xef_images.specs.Image.{Image}
use Rattle.xef_images.specs.Reading.{xef}
use Rattle.fault_messages.specs.Texts.{xef_fault_text}
use Rattle.fault_messages.specs.declared.fault.XefFault.{XefFault}
use Rattle.xm_container.specs.Pack.{packed}
use Rattle.fault_messages.specs.Texts.{pack_fault_text}
use Rattle.fault_messages.specs.declared.fault.PackFault.{PackFault}
use Rattle.xm_container.specs.declared.image.Image.{Image as Given}
use Rattle.command_line.specs.Words.{PartFile}
use Rattle.file_commands.specs.Denial.{Denial}

-- the names of files for partitions
abbrev pub file_names : List PartFile → List (List ℕ)
file_names files = map (λ named. named.file) files

-- a refusal that names a file
abbrev pub denial : List ℕ → List ℕ → Denial
denial file text = record { file = file; text = text }

-- an image, or the refusal of its file
abbrev pub image_by : List ℕ → Result Image XefFault → Result Image Denial
image_by file (Ok image) = Ok image
image_by file (Err fault) = Err (denial file (xef_fault_text fault))

-- the image of a partition before those of others, or the first refusal
abbrev pub image_before : ℕ → Result Image Denial → Result (List Given) Denial → Result (List Given) Denial
image_before part (Err refusal) rest = Err refusal
image_before part (Ok image) (Err refusal) = Err refusal
image_before part (Ok image) (Ok images) = Ok (record { id = part; xef = image } ∷ images)

-- the images of partitions, by the contents of their files, or the refusal of the first file that is none
abbrev pub images_of : List PartFile → List (List ℕ) → Result (List Given) Denial
images_of [] contents = Ok []
images_of (named ∷ files) [] = Ok []
images_of (named ∷ files) (bytes ∷ contents) = image_before named.part (image_by named.file (xef bytes)) (images_of files contents)

-- a container, or a refusal that names the configuration's file
abbrev pub container_by : List ℕ → Result (List ℕ) PackFault → Result (List ℕ) Denial
container_by configuration (Ok bytes) = Ok bytes
container_by configuration (Err fault) = Err (denial configuration (pack_fault_text fault))

-- the container of a configuration and of images, where all of them were read
abbrev pub container_with : List ℕ → Conf → Result (List Given) Denial → Result (List ℕ) Denial
container_with configuration conf (Ok images) = container_by configuration (packed conf images)
container_with configuration conf (Err refusal) = Err refusal

-- the container of a configuration, where it was read, and of images
abbrev pub container_for : List ℕ → Result Conf XmcFault → Result (List Given) Denial → Result (List ℕ) Denial
container_for configuration (Ok conf) images = container_with configuration conf images
container_for configuration (Err fault) images = Err (denial configuration (xmc_fault_text fault))

-- the container of a configuration's file with these bytes and of images' files with these contents; refused by the first
-- of these: the configuration's bytes, an image's bytes in the order of the files, what the images are to the configuration
unfoldable pub container_of : List ℕ → List ℕ → List PartFile → List (List ℕ) → Result (List ℕ) Denial
container_of configuration bytes files contents = container_for configuration (read_of bytes) (images_of files contents)
