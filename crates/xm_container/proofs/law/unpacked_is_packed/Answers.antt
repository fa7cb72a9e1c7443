use Rattle.xm_container.proofs.SpelledLemmas.{unpacked_packed}
use Rattle.xm_container.proofs.law.unpacked_is_packed.Goals as goal

pub returns : goal.returns
returns c = record { law = unpacked_packed c.broken_unless_fits.ensures.law }
