use Rattle.run_records.proofs.StopLemmas as lemmas
use Rattle.run_records.proofs.law.stops_first.Goals as goal

pub returns : goal.returns
returns c = record {
  first = lemmas.stops_first;
  prefix = lemmas.stops_in_prefix;
  alone = lemmas.stops_alone c.contains_upsets.ensures.tick c.keeps_numbers.ensures.ticks;
}
