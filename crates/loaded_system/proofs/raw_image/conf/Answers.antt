use Rattle.loaded_system.proofs.BareLemmas.{bare_not_broken}
use Rattle.loaded_system.proofs.raw_image.conf.Goals as goal

pub unreachable-requires : goal.unreachable-requires
unreachable-requires c = bare_not_broken c.in_ok-raw.raw c.in_default.field-0 c.in_ok-raw.ensures c.in_default.ensures.refused
