use Rattle.run_records.proofs.CallLemmas as lemmas
use Rattle.run_records.proofs.TickLemmas.{keeps_runs}
use Rattle.run_records.proofs.law.lists_calls.Goals as goal

pub returns : goal.returns
returns c = record {
  events = lemmas.has_each_event;
  texts = lemmas.texts_as_reported;
  pieces = lemmas.calls_in_pieces c.finds_ticks.ensures.pieces (keeps_runs c.keeps_numbers.ensures.ticks);
  alone = lemmas.calls_alone c.finds_ticks.ensures.alone;
}
