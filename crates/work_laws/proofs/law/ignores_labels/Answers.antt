use Rattle.work_laws.proofs.LabelLemmas as lemmas
use Rattle.work_laws.proofs.law.ignores_labels.Goals as goal

pub returns : goal.returns
returns c = record {
  tick = lemmas.tick_ignores_labels;
  rest = lemmas.rest_ignores_labels;
  runs = lemmas.runs_ignore_labels c.all_ticks.ensures.law c.earlier_ticks.ensures.scripts c.keeps_numbers.ensures.runs;
}
