-- For proofs and private clauses: the images of a container, where their files stand, and when each partition has one of them.
use Rattle.std.specs.Prelude.{◌≡◌, ℕ, ◌+◌, ◌≤◌, ◌<◌, ◌^◌, List, [], ◌∷◌, ◌++◌, length, Option, Some, None}
use Rattle.xef_images.specs.Image.{Image}
use Rattle.xef_images.specs.Spelling.{xef_text}
use Rattle.xm_container.specs.Box.{sized_text}
use Rattle.xm_container.specs.Entries.{Entries}

-- numbers that strictly rise, the first of them at the floor or above it
abbrev pub RiseFrom : ℕ → List ℕ → Type 0
RiseFrom floor [] = Unit {0}
RiseFrom floor (id ∷ later) = (floor ≤ id) × RiseFrom (id + 1) later

-- rising numbers, each with an image
pub record AreEntries (entries : Entries) : Type 0 where
  pub rise : RiseFrom 0 entries.ids
  pub counted : length entries.images ≡ length entries.ids

-- a text after its length is the beginning of bytes, and the rest of them stands after it
pub record BeginsSized (bytes : List ℕ) : Type 0 where
  pub text : List ℕ
  pub rest : List ℕ
  pub short : length text < 2 ^ 32
  pub stands : bytes ≡ sized_text text ++ rest

-- the file is the image's, where there are both
abbrev pub IsFileOf : Option Image → Option (List ℕ) → Type 0
IsFileOf image None = Unit {0}
IsFileOf None (Some file) = Unit {0}
IsFileOf (Some image) (Some file) = file ≡ xef_text image
