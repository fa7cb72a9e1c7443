use Rattle.std.proofs.Common.{subst, ℕ, arith}
use Rattle.sparc_step.specs.Registers.{register_at}
use Rattle.fast_loop.specs.lemmas.Moves.{HaveNoRows}
use Rattle.fast_loop.proofs.KeptLemmas.{single_rows}
use Rattle.fast_loop.proofs.moving.store_register.Goals as goal

pub returns-then-store_word-clause-rows : goal.returns-then-store_word-clause-rows
returns-then-store_word-clause-rows g c =
    single_rows c.args.rows.now (g.B.Bus.areas c.args.bus.now) (g.B.Bus.memory c.args.bus.now) (g.B.Bus.memory c.store_word.new.bus) c.args.origin c.args.address c.args.size (register_at c.args.own.now c.args.rd) c.requires.size
    (subst (λ (n : ℕ). HaveNoRows c.args.rows.now n 1) c.word_after.ensures.value (c.has_row.ensures c.if-has_row.false)) (omega (arith, c.ranges.address)) c.if-store_word.ensures.stored c.requires.rows
