use Rattle.machine_model.proofs.WorkTickLemmas.{boots_with_facts, keeps_facts, runs_with_facts}
use Rattle.machine_model.proofs.law.keeps_facts.Goals as goal

pub returns : goal.returns
returns c = record { boots = boots_with_facts; ticks = keeps_facts; runs = runs_with_facts }
