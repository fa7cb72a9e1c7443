use Rattle.std.proofs.Common.{◌≡◌, drop}
use Rattle.xm_container.specs.Pack.{image_of}
use Rattle.xm_container.proofs.writing.image_of.Given as goal

abbrev pub invariant-loop-image : goal.invariant-loop-image
invariant-loop-image l = image_of (drop l.image-index l.images) l.id ≡ image_of l.images l.id
