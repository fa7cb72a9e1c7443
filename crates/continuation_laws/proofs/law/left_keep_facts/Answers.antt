use Rattle.continuation_laws.proofs.KeptLemmas as lemmas
use Rattle.continuation_laws.proofs.law.left_keep_facts.Goals as goal

pub returns : goal.returns
returns c = record { law = lemmas.left_keep_facts }
