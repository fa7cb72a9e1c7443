use Rattle.std.proofs.Common.{◌≡◌, ◌+◌, ◌-◌, ◌*◌, ◌%◌, ap, arith, ◌∙◌}
use Rattle.std.specs.Prelude.{slice_index}
use Rattle.sparc_step.specs.Registers.{register_at}
use Rattle.virt_traps.proofs.windows.stack_of.Goals as goal

pub returns-then-window-cwp : goal.returns-then-window-cwp
unfolding register_at
returns-then-window-cwp c =
    let core = c.args.processor.now in
    let same : 16 * ((core.cwp + 1) % 8) + 30 - 24 ≡ 16 * c.args.window + 14 - 8 = omega (arith, c.if-window-cwp.true, c.cwp.ensures.value) in
    c.get.ensures.value ∙ ap (slice_index core.windows) same
