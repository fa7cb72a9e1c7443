use Rattle.machine_model.proofs.PortRowLemmas.{sample_interrupts, unmade_port_is_silent}
use Rattle.machine_model.proofs.rows.writes_samples.Goals as goal

pub returns : goal.returns
returns c = record { heard = sample_interrupts; unmade = unmade_port_is_silent }
