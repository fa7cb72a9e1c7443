use Rattle.bin_config.proofs.ReadLemmas.{upgraded_same}
use Rattle.bin_config.proofs.law.upgraded_is_same.Goals as goal

pub returns : goal.returns
returns c = record { law = upgraded_same c.read_is_spelled.ensures.law c.spelled_is_read.ensures.law }
