use Rattle.std.proofs.Common.{ℕ, ◌/◌, ◌%◌, ◌^◌, ap, ◌∙◌, arith}
use Rattle.guest_memory.proofs.SixteenLemmas.{first_word, second_word}
use Rattle.guest_memory.proofs.bytes.two_words.Goals as goal

pub returns-clause-first : goal.returns-clause-first
returns-clause-first c = ap (λ (n : ℕ). n / 2 ^ 32) c.double-both.ensures ∙ first_word c.args.bytes.now c.args.at (λ i. omega (arith, c.type_inv.bytes i))

pub returns-clause-second : goal.returns-clause-second
returns-clause-second c = ap (λ (n : ℕ). n % 2 ^ 32) c.double-both.ensures ∙ second_word c.args.bytes.now c.args.at (λ i. omega (arith, c.type_inv.bytes i))
