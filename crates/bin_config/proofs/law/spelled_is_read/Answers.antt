use Rattle.bin_config.specs.lemmas.XmcLemmas.{spelled_read}
use Rattle.bin_config.proofs.law.spelled_is_read.Goals as goal

pub returns : goal.returns
returns c = record { law = spelled_read c.broken_unless_fits.ensures.law }
