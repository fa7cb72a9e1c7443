use Rattle.work_laws.proofs.RowLemmas as lemmas
use Rattle.work_laws.proofs.rows.worked_rows.Goals as goal

pub returns : goal.returns
returns c = record { labels = lemmas.labels_alone; changes = lemmas.counted_changes; owners = lemmas.owners_of_slots }
