use Rattle.bin_config.specs.lemmas.XmcLemmas.{xmc_short}
use Rattle.bin_config.proofs.law.spelling_is_short.Goals as goal

pub returns : goal.returns
returns c = record { law = xmc_short }
