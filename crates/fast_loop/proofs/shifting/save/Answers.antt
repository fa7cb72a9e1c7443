use Rattle.std.proofs.Common.{ℕ, ◌+◌, ◌%◌, sym, ap, ◌∙◌}
use Rattle.fast_loop.proofs.ShiftLemmas.{shift_save}
use Rattle.fast_loop.proofs.shifting.save.Goals as goal

pub enter_below-requires-clause-valid : goal.enter_below-requires-clause-valid
enter_below-requires-clause-valid g c = λ e. c.if-spill.ensures.done.valid (ap (λ (n : ℕ). (n + 7) % 8) (sym c.if-spill.ensures.done.current) ∙ e)

pub returns-then-spill-clause-done : goal.returns-then-spill-clause-done
returns-then-spill-clause-done g c =
    shift_save c.args.row.now c.args.here (g.B.Bus.areas c.args.bus.now) c.args.own.now c.spill.new.own c.enter_below.new.own (g.B.Bus.memory c.args.bus.now) (g.B.Bus.memory c.spill.new.bus) c.requires.kind c.requires.registers
    (ap (λ (n : ℕ). (n + 7) % 8) (sym c.cwp.ensures.value) ∙ c.if-window-inv.false ∙ c.inv.ensures.value) c.if-spill.ensures.done c.enter_below.ensures.zero c.enter_below.ensures.entered
