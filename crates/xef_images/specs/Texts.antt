-- The lines that describe an image's file.
use Rattle.std.specs.Prelude.{ℕ, List, ◌++◌, length, codes, decimal}
use Rattle.std.specs.List.{flat_map}
use Rattle.hex.specs.Hex.{encode_lower}
use Rattle.md5.specs.Md5.{md5}
use Rattle.fault_messages.specs.Texts.{address_text}
use Rattle.xef_images.specs.Image.{Image, Segment}
use Rattle.xef_images.specs.Spelling.{before_text}

-- the line of the entry
unfoldable pub entry_line : ℕ → List ℕ
entry_line entry = codes "entry=" ++ address_text entry ++ codes "\n"

-- the line of a segment: where it begins, the size of its memory, and the number of its bytes
unfoldable pub segment_line : Segment → List ℕ
segment_line segment =
    codes "segment address=" ++ address_text segment.address ++ codes " memory=" ++ decimal segment.memory ++ codes " file=" ++ decimal (length segment.bytes) ++ codes "\n"

-- the line of the digest
unfoldable pub digest_line : List ℕ → List ℕ
digest_line digest = codes "md5=" ++ encode_lower digest ++ codes "\n"

-- the lines that describe the file of an image: its entry, its segments, and the digest that stands at its end
unfoldable pub xef_lines : Image → List ℕ
xef_lines image = entry_line image.entry ++ flat_map segment_line image.segments ++ digest_line (md5 (before_text image))
