use Rattle.std.proofs.Common.{arith}
use Rattle.sparc_step.specs.lemmas.CachedLemmas.{apart_seen, windows_seen}
use Rattle.sparc_step.specs.Registers.{window_filled, with_inv, register_at}
use Rattle.sparc_step.proofs.processor.Processor.enter_filled.Goals as goal

pub returns-clause-apart : goal.returns-clause-apart
unfolding window_filled with_inv register_at
returns-clause-apart c = λ r low.
    apart_seen c.self.inside.pc c.self.inside.npc c.self.inside.y c.self.inside.icc c.self.inside.cwp c.self.inside.inv c.self.inside.cached c.self.inside.windows c.args.self.now c.self.view_is c.self.invariant c.args.self.now.inv (omega (arith, c.requires.needed)) c.args.words.now r
    (omega (arith, c.requires.needed)) (omega (arith, c.requires.needed)) (omega arith) low

pub returns-clause-whole : goal.returns-clause-whole
returns-clause-whole c = windows_seen c.self.inside.pc c.self.inside.npc c.self.inside.y c.self.inside.icc c.self.inside.cwp c.self.inside.inv c.self.inside.cached c.self.inside.windows c.args.self.now c.self.view_is c.self.invariant 0 (omega arith)
