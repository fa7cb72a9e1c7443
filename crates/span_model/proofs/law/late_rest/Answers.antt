use Rattle.span_model.proofs.LateLemmas.{meets_after_rest, rests_before}
use Rattle.span_model.proofs.RestLemmas.{rested_once, rested_twice}
use Rattle.span_model.proofs.law.late_rest.Goals as goal

pub returns : goal.returns
returns c = record { twice = rested_twice; once = rested_once; before = rests_before; met = meets_after_rest }
