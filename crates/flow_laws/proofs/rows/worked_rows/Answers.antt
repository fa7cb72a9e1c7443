use Rattle.flow_laws.proofs.RowLemmas as lemmas
use Rattle.flow_laws.proofs.rows.worked_rows.Goals as goal

pub returns : goal.returns
returns c = record { steerers = lemmas.who_may_steer }
