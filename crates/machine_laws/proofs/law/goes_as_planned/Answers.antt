use Rattle.machine_laws.proofs.PlannedLemmas as lemmas
use Rattle.machine_laws.proofs.law.goes_as_planned.Goals as goal

pub returns : goal.returns
returns c = record { law = lemmas.goes_as_planned c.keeps_numbers.ensures.ticks }
