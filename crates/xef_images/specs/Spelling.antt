-- The one spelling of an image, byte by byte.
use Rattle.std.specs.Prelude.{◌≡◌, ℕ, List, [], ◌∷◌, ◌++◌, length, codes}
use Rattle.std.specs.Int.{w16, w32, to_be_bytes}
use Rattle.std.specs.List.{flat_map}
use Rattle.md5.specs.Md5.{md5}
use Rattle.xef_images.specs.Image.{Image, IsImage, Segment, contents, xef_length}

-- the head of a file of this many bytes: its name, version 1, its length, the entry and the number of segments
unfoldable pub image_head_text : ℕ → ℕ → ℕ → List ℕ
image_head_text length entry count = codes "XMEF" ++ to_be_bytes w16 1 ++ to_be_bytes w32 length ++ to_be_bytes w32 entry ++ count ∷ []

-- the row of a segment: its address, the size of its memory and the number of its bytes
unfoldable pub row_text : Segment → List ℕ
row_text segment = to_be_bytes w32 segment.address ++ to_be_bytes w32 segment.memory ++ to_be_bytes w32 (length segment.bytes)

-- what stands before the digest: the head, the rows, and the segments' bytes
unfoldable pub before_text : Image → List ℕ
before_text image =
    image_head_text (xef_length image.segments) image.entry (length image.segments) ++ flat_map row_text image.segments ++ contents image.segments

-- the file of an image: the digest of all that stands before it is at its end
unfoldable pub xef_text : Image → List ℕ
xef_text image = before_text image ++ md5 (before_text image)

-- the bytes are the file of an image, which may be loaded
pub record IsSpelledImage (bytes : List ℕ) (image : Image) : Type 0 where
  pub loads : IsImage image
  pub text : bytes ≡ xef_text image
