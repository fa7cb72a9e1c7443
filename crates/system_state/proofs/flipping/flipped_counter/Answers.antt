use Rattle.upset_model.specs.lemmas.BitLemmas.{aligned}
use Rattle.system_state.proofs.flipping.flipped_counter.Goals as goal

pub returns-clause-aligned : goal.returns-clause-aligned
returns-clause-aligned c = rw c.flipped.ensures (aligned c.args.bit c.args.counter c.requires.low c.requires.aligned)
