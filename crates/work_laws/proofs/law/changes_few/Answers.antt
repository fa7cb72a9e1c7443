use Rattle.work_laws.proofs.ChangeRunLemmas.{runs_change_few}
use Rattle.work_laws.proofs.ChangeTickLemmas.{tick_changes_few}
use Rattle.work_laws.proofs.law.changes_few.Goals as goal

pub returns : goal.returns
returns c = record {
  tick = tick_changes_few;
  runs = runs_change_few c.one_tick.ensures.law c.trades_few_bytes.ensures.sights c.keeps_facts.ensures.runs c.keeps_shapes.ensures.runs c.keeps_numbers.ensures.runs tick_changes_few;
}
