use Rattle.std.proofs.Common.{◌≡◌, ℕ, subst, arith}
use Rattle.fast_loop.specs.lemmas.Moves.{HaveNoRows}
use Rattle.fast_loop.proofs.SixteenLemmas.{HasNoneOf, all_unmade, none_more}
use Rattle.fast_loop.proofs.moving.has_some.Goals as goal

pub loop-k-init : goal.loop-k-init
loop-k-init c = λ j small. absurd (omega (arith, small))

pub loop-k-preserved : goal.loop-k-preserved
loop-k-preserved c =
    none_more c.args.rows.now c.args.origin c.args.address c.loop-k.k c.loop-k.invariant
    (subst (λ (n : ℕ). HaveNoRows c.args.rows.now n 1) c.word_after.ensures.value (c.has_row.ensures c.if-has_row.false))

pub returns : goal.returns
returns c = λ no.
    all_unmade c.args.rows.now c.args.origin c.args.address 16 c.requires (omega (arith, c.ranges.origin)) (omega (arith, c.ranges.address)) (omega arith)
    (subst (HasNoneOf c.args.rows.now c.args.origin c.args.address) all c.loop-k.invariant)
  where
    all : c.loop-k.k ≡ 16
    all = omega (arith, c.loop-k-test.false, c.loop-k.auto.k-end)
