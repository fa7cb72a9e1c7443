use Rattle.builders.proofs.SteeringLemmas as lemmas
use Rattle.builders.proofs.law.shows_steerers.Goals as goal

pub returns : goal.returns
returns c = record { law = lemmas.shows_steerers }
