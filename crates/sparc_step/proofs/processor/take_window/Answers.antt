use Rattle.std.proofs.Common.{ap}
use Rattle.std.specs.Prelude.{◌*◌}
use Rattle.sparc_step.specs.lemmas.CachedLemmas.{taken_in_two}
use Rattle.sparc_step.proofs.processor.take_window.Goals as goal

pub returns-clause-windows : goal.returns-clause-windows
returns-clause-windows c =
    taken_in_two c.args.window _ _ _ _ _ _ c.requires.window c.requires.cached c.requires.windows
    (ap (λ window. 16 * window) c.from.ensures) (ap (λ window. 16 * window) c.from-2.ensures) c.copy_words.ensures c.copy_words-2.ensures
