-- A system: its configuration, and the image of each partition.
use Rattle.std.specs.Prelude.{◌≡◌, ◌+◌, ◌≤◌, List, [], ◌∷◌, length, All, Any}
use Rattle.xm_conf.specs.Configuration.{Part, Conf}
use Rattle.xm_conf.specs.Description.{described}
use Rattle.xm_conf.specs.Fits.{Fits}
use Rattle.xm_conf.specs.declared.part.Area.{Area}
use Rattle.xef_images.specs.Image.{Image, IsImage, Segment, end_of}

-- a configuration, and the images of its partitions in the order of their numbers
pub record System : Type 0 where
  pub conf : Conf
  pub images : List Image

-- an area has all addresses of a segment
pub record HasSegment (segment : Segment) (area : Area) : Type 0 where
  pub start : area.start ≤ segment.address
  pub end : end_of segment ≤ area.start + area.size

-- each segment of an image lies inside one area of a partition
abbrev pub FitsInto : Part → Image → Type 0
FitsInto part image = All (λ segment. Any (HasSegment segment) part.areas) image.segments

-- each image lies inside the partition of its number
abbrev pub AreInside : List Part → List Image → Type 0
AreInside [] images = Unit {0}
AreInside (part ∷ parts) [] = Unit {0}
AreInside (part ∷ parts) (image ∷ images) = FitsInto part image × AreInside parts images

-- what can be loaded: a configuration that meets the rules, and an image for each partition that lies inside its areas
pub record IsSystem (system : System) : Type 0 where
  pub fits : Fits (described system.conf)
  pub images : All IsImage system.images
  pub counted : length system.images ≡ length system.conf.parts
  pub inside : AreInside system.conf.parts system.images
