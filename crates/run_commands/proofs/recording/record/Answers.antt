use Rattle.std.proofs.Common.{length, ap, sym, ◌∙◌, arith}
use Rattle.machine_model.specs.Machine.{Machine}
use Rattle.run_commands.proofs.RunLemmas.{all_may, fit_ordered}
use Rattle.run_commands.proofs.recording.record.Goals as goal

pub record_run-requires-clause-strike : goal.record_run-requires-clause-strike
record_run-requires-clause-strike c =
    let many = ap (λ (g : Machine). length g.parts) (sym c.sys-sys.ensures.machine) ∙ c.sys-sys.ensures.kept.complete.parts ∙ ap (λ (g : Machine). length g.system.conf.parts) c.sys-sys.ensures.machine in
    all_may c.places_are_spelled.ensures.strike c.args.machine.now.state _ _ c.args.upsets.now many c.requires.fit

pub record_run-requires-clause-ordered : goal.record_run-requires-clause-ordered
record_run-requires-clause-ordered c = fit_ordered c.args.machine.now.state.system.conf _ _ c.args.upsets.now c.requires.fit

pub record_run-requires-clause-inside : goal.record_run-requires-clause-inside
record_run-requires-clause-inside c = λ k d within.
    let many = ap (λ (g : Machine). length g.parts) (sym c.sys-sys.ensures.machine) ∙ c.sys-sys.ensures.kept.complete.parts ∙ ap (λ (g : Machine). length g.system.conf.parts) c.sys-sys.ensures.machine in
    omega (arith, c.requires.inside k d within, many)
