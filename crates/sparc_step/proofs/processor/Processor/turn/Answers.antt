use Rattle.std.proofs.Common.{rules}
use Rattle.sparc_step.specs.Execution.{turned}
use Rattle.sparc_step.specs.lemmas.UndoneLemmas.{called_pieces, undone_pieces}
use Rattle.sparc_step.proofs.processor.Processor.turn.Goals as goal

pub returns-in-Ok-clause-turn : goal.returns-in-Ok-clause-turn
unfolding turned
returns-in-Ok-clause-turn g c = search rules

pub returns-in-Ok-clause-core : goal.returns-in-Ok-clause-core
unfolding turned
returns-in-Ok-clause-core g c = search rules

pub returns-in-Ok-clause-memory : goal.returns-in-Ok-clause-memory
unfolding turned
returns-in-Ok-clause-memory g c = search rules

pub returns-in-Ok-clause-trapped : goal.returns-in-Ok-clause-trapped
returns-in-Ok-clause-trapped g c =
    undone_pieces (g.B.Bus.areas c.args.bus.now) _ _ _ _ _ (returns-in-Ok-clause-turn g c) (returns-in-Ok-clause-core g c)
    (returns-in-Ok-clause-memory g c)

pub returns-in-Ok-clause-called : goal.returns-in-Ok-clause-called
returns-in-Ok-clause-called g c =
    called_pieces (g.B.Bus.areas c.args.bus.now) _ _ (g.B.Bus.memory c.args.bus.now) _ (returns-in-Ok-clause-turn g c)
    (returns-in-Ok-clause-core g c)
