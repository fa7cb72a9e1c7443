use Rattle.sparc_step.specs.lemmas.CachedLemmas.{front_written}
use Rattle.sparc_step.proofs.processor.take_globals.Goals as goal

pub returns : goal.returns
returns c = front_written 8 _ _ _ c.copy_from_slice.ensures.after c.requires.globals
