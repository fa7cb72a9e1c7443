use Rattle.std.proofs.Common.{sym, ◌∙◌}
use Rattle.virt_traps.specs.lemmas.SavedLemmas.{saved_is}
use Rattle.virt_traps.proofs.windows.saved.Goals as goal

pub returns : goal.returns
returns c = c.saved.ensures.saved ∙ sym (saved_is _ _ c.requires.window c.saved.ensures.whole)
