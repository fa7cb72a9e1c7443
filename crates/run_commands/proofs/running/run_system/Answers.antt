use Rattle.std.proofs.Common.{◌+◌, ◌≤◌, length, sym, subst}
use Rattle.xm_base.specs.declared.limits.TheConstants.{TICKS}
use Rattle.command_line.specs.Seen.{seen_files}
use Rattle.machine_model.specs.Machine.{Machine}
use Rattle.run_commands.specs.lemmas.Cores.{AreForPartitions}
use Rattle.upset_files.specs.Fits.{AllFit}
use Rattle.run_commands.proofs.BeginLemmas.{machine_conf}
use Rattle.run_commands.proofs.running.run_system.Goals as goal

pub run_machine-requires-clause-most : goal.run_machine-requires-clause-most
run_machine-requires-clause-most g c = subst (λ (m : Machine). m.ticks + c.args.ticks ≤ TICKS) (sym c.in-Ok.ensures) c.requires.most

pub run_machine-requires-clause-fit : goal.run_machine-requires-clause-fit
run_machine-requires-clause-fit g c =
    subst (λ (m : Machine). AllFit m.system.conf (m.ticks + c.args.ticks) m.ticks c.args.upsets.now) (sym c.in-Ok.ensures)
    (rw (machine_conf c.args.system c.args.beginning) c.requires.fit)

pub run_machine-requires-clause-inside : goal.run_machine-requires-clause-inside
run_machine-requires-clause-inside g c =
    subst (λ (m : Machine). AreForPartitions (length m.system.conf.parts) (seen_files c.args.cores)) (sym c.in-Ok.ensures)
    (rw (machine_conf c.args.system c.args.beginning) c.requires.inside)

pub returns-in-Ok-clause-outcome : goal.returns-in-Ok-clause-outcome
returns-in-Ok-clause-outcome g c = rw (← c.in-Ok.ensures) c.run_machine.ensures.outcome

pub returns-in-Ok-clause-board : goal.returns-in-Ok-clause-board
returns-in-Ok-clause-board g c = rw (← c.in-Ok.ensures) c.run_machine.ensures.board
