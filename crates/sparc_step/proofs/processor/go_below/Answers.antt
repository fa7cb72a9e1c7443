use borrow.Rule.Slice.PartMut.{put_mid}
use Rattle.std.proofs.Common.{ℕ, ap, ◌∙◌, ◌+◌, ◌*◌}
use Rattle.std.specs.Prelude.{drop, take}
use Rattle.sparc_step.proofs.EnteringLemmas.{gone_below, gone_below_globals}
use Rattle.sparc_step.proofs.processor.go_below.Goals as goal

pub returns-clause-windows : goal.returns-clause-windows
returns-clause-windows c =
    gone_below c.args.window c.args.below c.args.cached.now c.args.windows.now _ _ _ _ c.requires.window c.requires.below c.requires.cached c.requires.windows
    (c.copy_words.ensures ∙ ap (λ (w : ℕ). put_mid (16 * w + 8) 8 c.args.windows.now (take 8 (drop 16 c.args.cached.now))) c.from.ensures)
    (c.copy_words-2.ensures ∙ ap (λ (w : ℕ). put_mid (16 * w) 8 c.copy_words.new.to (take 8 (drop 24 c.args.cached.now))) c.from-2.ensures)
    c.move_eight.ensures
    (c.copy_words-3.ensures ∙ ap (λ (w : ℕ). put_mid 8 16 c.move_eight.new.words (take 16 (drop (16 * w) c.copy_words-2.new.to))) c.from-3.ensures)

pub returns-clause-globals : goal.returns-clause-globals
returns-clause-globals c =
    gone_below_globals c.args.window c.args.below c.args.cached.now c.args.windows.now _ _ _ _ c.requires.window c.requires.below c.requires.cached c.requires.windows
    (c.copy_words.ensures ∙ ap (λ (w : ℕ). put_mid (16 * w + 8) 8 c.args.windows.now (take 8 (drop 16 c.args.cached.now))) c.from.ensures)
    (c.copy_words-2.ensures ∙ ap (λ (w : ℕ). put_mid (16 * w) 8 c.copy_words.new.to (take 8 (drop 24 c.args.cached.now))) c.from-2.ensures)
    c.move_eight.ensures
    (c.copy_words-3.ensures ∙ ap (λ (w : ℕ). put_mid 8 16 c.move_eight.new.words (take 16 (drop (16 * w) c.copy_words-2.new.to))) c.from-3.ensures)
