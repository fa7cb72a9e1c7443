use Rattle.run_records.proofs.TickLemmas as lemmas
use Rattle.run_records.proofs.law.finds_ticks.Goals as goal

pub returns : goal.returns
returns c = record {
  doing = lemmas.does_its_work;
  alone = lemmas.finds_ticks_alone c.contains_upsets.ensures.tick c.keeps_numbers.ensures.ticks;
  pieces = lemmas.finds_ticks_in_pieces;
}
