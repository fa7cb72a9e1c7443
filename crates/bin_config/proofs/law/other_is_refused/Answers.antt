use Rattle.bin_config.specs.lemmas.XmcLemmas.{other_refused}
use Rattle.bin_config.proofs.law.other_is_refused.Goals as goal

pub returns : goal.returns
returns c = record { law = other_refused }
