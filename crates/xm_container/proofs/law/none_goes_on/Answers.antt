use Rattle.xm_container.proofs.BoxLemmas.{none_goes_on}
use Rattle.xm_container.proofs.law.none_goes_on.Goals as goal

pub returns : goal.returns
returns c = record { law = none_goes_on }
