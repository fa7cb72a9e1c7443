use Rattle.upset_model.specs.lemmas.BitLemmas.{on_page}
use Rattle.system_state.proofs.flipping.flipped_base.Goals as goal

pub returns-clause-aligned : goal.returns-clause-aligned
returns-clause-aligned c = rw c.flipped.ensures (on_page c.args.bit c.args.base c.requires.low c.requires.aligned)
