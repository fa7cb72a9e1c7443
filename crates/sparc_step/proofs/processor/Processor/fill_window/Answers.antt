use Rattle.std.proofs.Common.{ℕ, ap, arith, ◌+◌, ◌*◌}
use Rattle.sparc_step.specs.lemmas.CachedLemmas.{filled_seen, windows_seen}
use Rattle.sparc_step.proofs.processor.Processor.fill_window.Goals as goal

pub returns-clause-filled : goal.returns-clause-filled
returns-clause-filled c =
    filled_seen c.self.inside.pc c.self.inside.npc c.self.inside.y c.self.inside.icc c.self.inside.cwp c.self.inside.inv c.self.inside.cached c.self.inside.windows c.args.self.now c.self.view_is c.self.invariant
    _ _ c.args.words.now _ _ c.requires (ap (λ (w : ℕ). 16 * w + 8) c.from.ensures) (ap (λ (w : ℕ). 16 * w) c.from-2.ensures) (omega arith) c.copy_words.ensures c.copy_words-2.ensures

pub returns-clause-whole : goal.returns-clause-whole
returns-clause-whole c = windows_seen c.self.inside.pc c.self.inside.npc c.self.inside.y c.self.inside.icc c.self.inside.cwp c.self.inside.inv c.self.inside.cached c.self.inside.windows c.args.self.now c.self.view_is c.self.invariant 0 (omega arith)
