use Rattle.machine_model.proofs.ClockFactLemmas.{boots_clocked, keeps_clocked, runs_clocked}
use Rattle.machine_model.proofs.law.keeps_plans.Goals as goal

pub returns : goal.returns
returns c = record { boots = boots_clocked; ticks = keeps_clocked; runs = runs_clocked }
