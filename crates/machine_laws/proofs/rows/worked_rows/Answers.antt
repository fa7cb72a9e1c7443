use Rattle.machine_laws.proofs.RowLemmas as lemmas
use Rattle.machine_laws.proofs.rows.worked_rows.Goals as goal

pub returns : goal.returns
returns c = record {
  turns = lemmas.turns_of_two_plans;
  outside = lemmas.outside_interrupts;
  resets = lemmas.resets;
  spared = lemmas.not_spared;
  bounds = lemmas.bounds_are_reached;
  same = lemmas.same_for_the_first;
}
