-- The images of a generated system as they are packed.
use Rattle.std.specs.Prelude.{ℕ, List}
use Rattle.xm_container.specs.declared.image.Image.{Image}
use Rattle.generated_system.specs.Generated.{generated_image, numbered}

-- the image of partition i, with its number
unfoldable pub generated_given : ℕ → Image
generated_given i = record { id = i; xef = generated_image i }

unfoldable pub all_given : List Image
all_given = numbered generated_given 16
