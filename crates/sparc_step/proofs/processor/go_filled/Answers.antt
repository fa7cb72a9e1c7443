use borrow.Rule.Slice.PartMut.{put_mid}
use Rattle.std.proofs.Common.{ℕ, ap, ◌∙◌, ◌*◌}
use Rattle.std.specs.Prelude.{drop, take}
use Rattle.sparc_step.proofs.EnteringLemmas.{gone_filled, gone_filled_globals}
use Rattle.sparc_step.proofs.processor.go_filled.Goals as goal

pub returns-clause-windows : goal.returns-clause-windows
returns-clause-windows c =
    gone_filled c.args.window c.args.above c.args.cached.now c.args.windows.now _ c.requires.window c.requires.above c.requires.cached c.requires.windows
    (c.copy_words.ensures ∙ ap (λ (w : ℕ). put_mid (16 * w) 16 c.args.windows.now (take 16 (drop 8 c.args.cached.now))) c.from.ensures)
    _ c.move_eight.ensures c.args.words.now _ c.requires.words c.copy_words-2.ensures

pub returns-clause-globals : goal.returns-clause-globals
returns-clause-globals c =
    gone_filled_globals c.args.window c.args.above c.args.cached.now c.args.windows.now _ c.requires.window c.requires.above c.requires.cached c.requires.windows
    (c.copy_words.ensures ∙ ap (λ (w : ℕ). put_mid (16 * w) 16 c.args.windows.now (take 16 (drop 8 c.args.cached.now))) c.from.ensures)
    _ c.move_eight.ensures c.args.words.now _ c.requires.words c.copy_words-2.ensures
