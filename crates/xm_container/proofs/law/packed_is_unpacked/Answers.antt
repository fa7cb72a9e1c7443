use Rattle.xm_container.proofs.BoxLemmas.{packed_unpacked}
use Rattle.xm_container.proofs.law.packed_is_unpacked.Goals as goal

pub returns : goal.returns
returns c = record { law = packed_unpacked c.broken_unless_fits.ensures.law }
