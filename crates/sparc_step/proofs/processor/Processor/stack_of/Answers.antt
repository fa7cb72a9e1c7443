use Rattle.std.proofs.Common.{ℕ, ◌+◌, ◌*◌, ap}
use Rattle.std.specs.Prelude.{slice_index}
use Rattle.sparc_step.specs.lemmas.CachedLemmas.{stack_seen}
use Rattle.sparc_step.proofs.processor.Processor.stack_of.Goals as goal

pub returns : goal.returns
returns c =
    stack_seen c.self.inside.pc c.self.inside.npc c.self.inside.y c.self.inside.icc c.self.inside.cwp c.self.inside.inv c.self.inside.cached c.self.inside.windows c.args.self.now c.self.view_is c.self.invariant c.args.window c.requires.window _ c.requires.other c.requires.above
    (ap (λ (w : ℕ). slice_index c.self.inside.windows (16 * w + 6)) c.from.ensures)
