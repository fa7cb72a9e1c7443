use Rattle.machine_model.proofs.MachineFactLemmas.{boots_complete, keeps_numbers, runs_complete, runs_keep_numbers}
use Rattle.machine_model.proofs.law.keeps_numbers.Goals as goal

pub returns : goal.returns
returns c = record { ticks = keeps_numbers; runs = runs_keep_numbers; boots = boots_complete; complete = runs_complete }
