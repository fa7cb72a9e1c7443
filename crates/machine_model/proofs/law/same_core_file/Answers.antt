use Rattle.machine_model.proofs.ScriptLemmas.{same_core_file}
use Rattle.machine_model.proofs.law.same_core_file.Goals as goal

pub returns : goal.returns
returns c = record { law = same_core_file }
