use Rattle.std.proofs.Common.{◌≡◌, take}
use Rattle.xm_container.specs.Pack.{partition_numbers}
use Rattle.xm_container.proofs.writing.ids_of.Given as goal

abbrev pub invariant-loop-image : goal.invariant-loop-image
invariant-loop-image l = l.ids.items ≡ partition_numbers (take l.image-index l.images)
