use Rattle.upset_model.specs.lemmas.BitLemmas.{conditions}
use Rattle.system_state.proofs.flipping.flipped_conditions.Goals as goal

pub returns-clause-four : goal.returns-clause-four
returns-clause-four c = rw c.flipped_codes.ensures (conditions c.args.bit c.args.conditions c.requires.bit c.requires.four)
