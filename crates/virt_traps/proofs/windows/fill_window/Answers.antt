use Rattle.std.proofs.Common.{ℕ, List, ap, arith, sym, ◌∙◌, ◌+◌, ◌%◌}
use Rattle.sparc_step.specs.Registers.{window_filled, with_inv, with_saved}
use Rattle.virt_traps.specs.lemmas.SavedLemmas.{given_is}
use Rattle.virt_traps.proofs.windows.fill_window.Goals as goal

pub returns : goal.returns
unfolding window_filled with_inv with_saved
returns c =
    let old = c.args.processor.now in
    c.fill_window.ensures.filled
    ∙ ap (λ (windows : List ℕ). record old { windows = windows; inv = (old.inv + 1) % 8 }) (sym (given_is old.windows old.inv c.args.words.now c.fill_window.ensures.window c.fill_window.ensures.whole (omega arith)))
