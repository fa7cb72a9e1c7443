use Rattle.std.proofs.Common.{subst, ℕ, arith}
use Rattle.fast_loop.specs.lemmas.Moves.{HaveNoRows}
use Rattle.fast_loop.proofs.KeptLemmas.{two_unmade}
use Rattle.fast_loop.proofs.moving.have_two.Goals as goal

pub returns-else-has_row : goal.returns-else-has_row
returns-else-has_row c = λ no.
    two_unmade c.args.rows.now c.args.origin c.args.address c.requires (omega (arith, c.ranges.origin)) (omega (arith, c.ranges.address))
    (subst (λ (n : ℕ). HaveNoRows c.args.rows.now n 1) c.word_after-place.ensures.value (c.has_row.ensures c.if-has_row.false))
    (subst (λ (n : ℕ). HaveNoRows c.args.rows.now n 1) c.word_after.ensures.value (c.has_row-else-has_row.ensures no))
