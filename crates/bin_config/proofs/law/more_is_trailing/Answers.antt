use Rattle.bin_config.specs.lemmas.XmcLemmas.{more_trailing}
use Rattle.bin_config.proofs.law.more_is_trailing.Goals as goal

pub returns : goal.returns
returns c = record { law = more_trailing }
