use Rattle.cue_scripts.proofs.FileAgainLemmas.{none_longer}
use Rattle.cue_scripts.proofs.law.none_is_prefix.Goals as goal

pub returns : goal.returns
returns c = none_longer
