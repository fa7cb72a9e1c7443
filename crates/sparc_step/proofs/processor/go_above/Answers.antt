use Rattle.std.proofs.Common.{ap, ◌∙◌, arith}
use Rattle.sparc_step.specs.Cached.{windows_with}
use Rattle.sparc_step.specs.Registers.{with_locals_and_ins}
use Rattle.sparc_step.proofs.EnteringLemmas.{all_windows, put_back}
use Rattle.sparc_step.proofs.processor.go_above.Goals as goal

pub returns-clause-windows : goal.returns-clause-windows
returns-clause-windows c =
    c.go_filled.ensures.windows
    ∙ ap (with_locals_and_ins (windows_with c.args.window c.args.cached.now c.args.windows.now) c.args.above) c.requires.words
    ∙ put_back (windows_with c.args.window c.args.cached.now c.args.windows.now) c.args.above (all_windows c.args.window c.args.cached.now c.args.windows.now) (omega (arith, c.requires.above))
