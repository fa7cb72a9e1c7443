use Rattle.run_records.proofs.UseLemmas as lemmas
use Rattle.run_records.proofs.law.counts_use.Goals as goal

pub returns : goal.returns
returns c = record {
  slots = lemmas.slots_have_busy_ticks;
  pieces = lemmas.slot_ticks_in_pieces;
  occurrences = lemmas.occurrences_have_all_ticks;
  overruns = lemmas.overruns_are_occurrences;
  alone = lemmas.uses_alone c.finds_ticks.ensures.alone;
  text = lemmas.use_text_alone c.finds_ticks.ensures.alone;
}
