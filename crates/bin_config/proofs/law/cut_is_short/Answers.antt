use Rattle.bin_config.specs.lemmas.XmcLemmas.{cut_short}
use Rattle.bin_config.proofs.law.cut_is_short.Goals as goal

pub returns : goal.returns
returns c = record { law = cut_short }
