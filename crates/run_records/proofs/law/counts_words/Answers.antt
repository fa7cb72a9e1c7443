use Rattle.run_records.proofs.CountLemmas as lemmas
use Rattle.run_records.proofs.TextLemmas.{texts_determine_counts}
use Rattle.run_records.proofs.law.counts_words.Goals as goal

pub returns : goal.returns
returns c = record {
  exact = lemmas.counts_words;
  rising = lemmas.rows_rise;
  once = lemmas.counts_each_once;
  taken = lemmas.takes_no_more;
  busy = lemmas.counts_busy_ticks;
  all = lemmas.counts_all_ticks;
  last = lemmas.is_tried_last;
  outside = lemmas.traps_outside;
  alone = lemmas.counts_alone c.finds_ticks.ensures.alone;
  text = texts_determine_counts;
}
