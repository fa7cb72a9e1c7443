use Rattle.bin_config.specs.lemmas.XmcLemmas.{read_spelled}
use Rattle.bin_config.proofs.law.read_is_spelled.Goals as goal

pub returns : goal.returns
returns c = record { law = read_spelled c.broken_unless_fits.ensures.law }
