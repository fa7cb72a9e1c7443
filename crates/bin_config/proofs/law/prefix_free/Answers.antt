use Rattle.bin_config.specs.lemmas.XmcLemmas.{prefix_free}
use Rattle.bin_config.proofs.law.prefix_free.Goals as goal

pub returns : goal.returns
returns c = record { law = prefix_free }
