use Rattle.machine_model.proofs.WorkTickLemmas.{keeps_facts_alone}
use Rattle.machine_model.proofs.law.keeps_facts_alone.Goals as goal

pub returns : goal.returns
returns c = record { law = keeps_facts_alone }
