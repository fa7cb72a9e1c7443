use Rattle.machine_laws.proofs.FromEqualLemmas as lemmas
use Rattle.machine_laws.proofs.law.two_runs_from.Goals as goal

pub returns : goal.returns
returns c = record { law = lemmas.two_runs_from c.all_ticks.ensures.law c.earlier_ticks.ensures.scripts c.keeps_numbers.ensures.runs }
