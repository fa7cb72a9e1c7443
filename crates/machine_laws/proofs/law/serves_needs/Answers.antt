use Rattle.machine_laws.proofs.ServedLemmas as lemmas
use Rattle.machine_laws.proofs.law.serves_needs.Goals as goal

pub returns : goal.returns
returns c = record { law = lemmas.serves_needs c.goes_as_planned.ensures.law }
