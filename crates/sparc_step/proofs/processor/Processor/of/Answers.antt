use Rattle.sparc_step.specs.lemmas.CachedLemmas.{gathered_from}
use Rattle.sparc_step.proofs.processor.Processor.of.Goals as goal

pub returns : goal.returns
returns c =
    rw (← c.core.view_is, c.of.ensures)
    (gathered_from _ _ _ _ _ _ _ _ _ _ c.take_globals.ensures c.take_window.ensures.globals c.take_window.ensures.windows)
