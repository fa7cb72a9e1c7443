use Rattle.machine_model.proofs.MachineFactLemmas.{boots_timed, keeps_timed, runs_timed}
use Rattle.machine_model.proofs.law.keeps_hardware_clock.Goals as goal

pub returns : goal.returns
returns c = record { boots = boots_timed; ticks = keeps_timed; runs = runs_timed }
