use Rattle.machine_model.proofs.WithinLemmas.{acts_within_bounds, acts_within_own}
use Rattle.machine_model.proofs.law.acts_within_bounds.Goals as goal

pub returns : goal.returns
returns c = record { law = acts_within_bounds; own = acts_within_own }
