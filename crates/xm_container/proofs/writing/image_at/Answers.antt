use Rattle.std.proofs.Common.{sym}
use Rattle.xm_container.proofs.PackLemmas.{image_there}
use Rattle.xm_container.proofs.writing.image_at.Goals as goal

pub unreachable-requires : goal.unreachable-requires
unreachable-requires c = image_there c.args.images.now c.args.parts c.args.id c.requires.complete c.requires.below (sym c.in_default.ensures)
