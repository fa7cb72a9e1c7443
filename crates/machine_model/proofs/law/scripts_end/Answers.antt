use Rattle.machine_model.proofs.RunLemmas.{last_cue, no_script}
use Rattle.machine_model.proofs.law.scripts_end.Goals as goal

pub returns : goal.returns
returns c = record { last = last_cue; none = no_script }
