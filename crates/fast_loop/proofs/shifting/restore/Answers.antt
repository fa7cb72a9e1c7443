use Rattle.std.proofs.Common.{ℕ, ◌+◌, ◌%◌, refl, sym, ap, ◌∙◌}
use Rattle.sparc_step.specs.Registers.{window_filled, with_saved}
use Rattle.fast_loop.proofs.SavedLemmas.{filled_by}
use Rattle.fast_loop.proofs.ShiftLemmas.{shift_filled}
use Rattle.fast_loop.proofs.shifting.restore.Goals as goal

pub enter_filled-requires-clause-needed : goal.enter_filled-requires-clause-needed
enter_filled-requires-clause-needed g c = ap (λ (n : ℕ). (n + 1) % 8) (sym c.cwp.ensures.value) ∙ c.if-window-inv.false ∙ c.inv.ensures.value

pub returns-in-Some-clause-done : goal.returns-in-Some-clause-done
unfolding window_filled
returns-in-Some-clause-done g c = λ here.
    let needed = ap (λ (n : ℕ). (n + 1) % 8) (sym c.cwp.ensures.value) ∙ c.if-window-inv.false ∙ c.inv.ensures.value in
    shift_filled c.args.row.now here (g.B.Bus.areas c.args.bus.now) c.args.own.now c.enter_filled.new.own (g.B.Bus.memory c.args.bus.now) c.in-Some.words c.requires.kind c.requires.registers needed
    (filled_by c.args.own.now.inv c.get.result (g.B.Bus.areas c.args.bus.now) c.args.own.now (with_saved c.args.own.now c.args.own.now.inv c.in-Some.words) (window_filled c.args.own.now c.in-Some.words) (g.B.Bus.memory c.args.bus.now) c.in-Some.words
    refl needed c.enter_filled.ensures.whole c.enter_filled.ensures.counted c.get.ensures.value c.in-Some.ensures.words c.in-Some.ensures.free refl refl)
    c.enter_filled.ensures.apart c.enter_filled.ensures.zero c.enter_filled.ensures.done
