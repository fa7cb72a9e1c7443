use Rattle.std.proofs.Common.{ap, sym, ◌∙◌}
use Rattle.machine_model.specs.Machine.{start}
use Rattle.saved_machines.specs.Saving.{machine_saved}
use Rattle.saved_machines.specs.declared.machine.Saved.{Saved}
use Rattle.run_commands.specs.declared.beginning.Beginning.{Beginning}
use Rattle.run_commands.specs.lemmas.Beginnings.{machine_of}
use Rattle.run_commands.proofs.beginning.Beginning.ticks.Goals as goal

pub returns-in-Boot : goal.returns-in-Boot
unfolding start
returns-in-Boot c = λ system. sym (ap (λ (b : Beginning). (machine_of system b).ticks) c.in-Boot.is)

pub returns-in-Saved : goal.returns-in-Saved
unfolding machine_saved
returns-in-Saved c = λ system. ap (λ (s : Saved). s.values.ticks) c.saved.view_is ∙ sym (ap (λ (b : Beginning). (machine_of system b).ticks) c.in-Saved.is)
