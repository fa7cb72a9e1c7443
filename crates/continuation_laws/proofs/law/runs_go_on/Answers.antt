use Rattle.continuation_laws.proofs.OnwardLemmas as lemmas
use Rattle.continuation_laws.proofs.law.runs_go_on.Goals as goal

pub returns : goal.returns
returns c = record { law = lemmas.runs_go_on }
