use Rattle.xm_traces.proofs.RingLemmas.{finds_by_number, keeps_last}
use Rattle.xm_traces.proofs.law.last_by_number.Goals as goal

pub returns-clause-law : goal.returns-clause-law
returns-clause-law g c = keeps_last _

pub returns-clause-numbered : goal.returns-clause-numbered
returns-clause-numbered g c = finds_by_number _
