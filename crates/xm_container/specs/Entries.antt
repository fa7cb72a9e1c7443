-- The images of a container, and when each partition has one of them.
use Rattle.std.specs.Prelude.{ℕ, List}
use Rattle.xef_images.specs.Image.{Image}

-- images with the numbers of their partitions, in the order in which they stand
pub record Entries : Type 0 where
  pub ids : List ℕ
  pub images : List Image
