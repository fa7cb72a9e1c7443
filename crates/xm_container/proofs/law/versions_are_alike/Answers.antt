use Rattle.xm_container.proofs.BoxLemmas.{versions_alike}
use Rattle.xm_container.proofs.law.versions_are_alike.Goals as goal

pub returns : goal.returns
returns c = record { law = versions_alike c.packed_is_unpacked.ensures.law }
