use Rattle.machine_model.proofs.ScriptLemmas.{earlier_scripts, two_runs_earlier}
use Rattle.machine_model.proofs.law.earlier_ticks.Goals as goal

pub returns : goal.returns
returns c = record { scripts = earlier_scripts; runs = two_runs_earlier }
