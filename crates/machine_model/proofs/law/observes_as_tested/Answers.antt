use Rattle.machine_model.proofs.ObservingLemmas.{observes_as_tested, shows_its_size}
use Rattle.machine_model.proofs.WorkTickLemmas.{shows_its_size_in_runs}
use Rattle.machine_model.proofs.law.observes_as_tested.Goals as goal

pub returns : goal.returns
returns c = record { tested = observes_as_tested; sized = shows_its_size; runs = shows_its_size_in_runs }
