-- Laws on the files of images.
use Rattle.std.specs.Prelude.{◌≡◌, ℕ, List, [], ◌++◌, length, Ok}
use Rattle.xef_images.specs.Image.{Image, IsImage, xef_length}
use Rattle.xef_images.specs.Spelling.{xef_text}
use Rattle.xef_images.specs.Reading.{xef}

-- each image is read of its file
abbrev pub WrittenImageIsRead : Type 0
WrittenImageIsRead = (image : Image) → IsImage image → xef (xef_text image) ≡ Ok image

-- no file of an image is a proper prefix of another: what stands after one that is a prefix is nothing
abbrev pub ImagesArePrefixFree : Type 0
ImagesArePrefixFree = (image other : Image) (rest : List ℕ) → IsImage image → IsImage other → xef_text other ≡ xef_text image ++ rest → rest ≡ []

-- a file is as long as its head states
abbrev pub LengthIsStated : Type 0
LengthIsStated = (image : Image) → IsImage image → length (xef_text image) ≡ xef_length image.segments
