use Rattle.run_records.proofs.RowLemmas as lemmas
use Rattle.run_records.proofs.rows.records_small_cases.Goals as goal

pub returns : goal.returns
returns c = record {
  doing = lemmas.doing_rows;
  taken = lemmas.taken_rows;
  counts = lemmas.count_rows;
  stops = lemmas.stop_rows;
  lines = lemmas.line_rows;
  accessed = lemmas.accessed_rows;
  used = lemmas.use_rows;
  text = lemmas.use_text_rows;
}
