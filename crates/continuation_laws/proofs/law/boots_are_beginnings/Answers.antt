use Rattle.continuation_laws.proofs.OnwardLemmas as lemmas
use Rattle.continuation_laws.proofs.law.boots_are_beginnings.Goals as goal

pub returns : goal.returns
returns c = record { law = lemmas.boots_are_beginnings }
