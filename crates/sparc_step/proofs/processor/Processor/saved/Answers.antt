use Rattle.std.proofs.Common.{ℕ, refl, ap, ◌+◌, ◌*◌}
use Rattle.sparc_step.specs.lemmas.CachedLemmas.{saved_seen, windows_seen}
use Rattle.sparc_step.proofs.processor.Processor.saved.Goals as goal

pub returns-clause-saved : goal.returns-clause-saved
returns-clause-saved c =
    saved_seen c.self.inside.pc c.self.inside.npc c.self.inside.y c.self.inside.icc c.self.inside.cwp c.self.inside.inv c.self.inside.cached c.self.inside.windows c.args.self.now c.self.view_is c.self.invariant c.args.window c.requires.window _ _ _ _ _ c.requires.other c.requires.below
    (ap (λ (w : ℕ). 16 * w + 8) c.from.ensures) (ap (λ (w : ℕ). 16 * w) c.from-ins.ensures) refl c.take_first.ensures c.copy_words.ensures

pub returns-clause-whole : goal.returns-clause-whole
returns-clause-whole c = windows_seen c.self.inside.pc c.self.inside.npc c.self.inside.y c.self.inside.icc c.self.inside.cwp c.self.inside.inv c.self.inside.cached c.self.inside.windows c.args.self.now c.self.view_is c.self.invariant c.args.window c.requires.window
