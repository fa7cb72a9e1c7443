use Rattle.std.specs.Prelude.{◌≡◌, ℕ, ◌*◌, ◌<◌, not, ◌==◌}
use Rattle.std.specs.Int.{bit_at}
use Rattle.std.proofs.Common.{arith}
use Rattle.std.proofs.lemmas.Bool.Decides.{nat_tests}
use Rattle.std.proofs.lemmas.Nat.Bits.{and_pow, bit_at-lt}
use Rattle.control_calls.proofs.processor_calls.enabled_of.Goals as goal

-- a bit is set where its mask is not 0
bit_set : (bit : ℕ) → bit < 2 → not (bit * 32 == 0) ≡ (bit == 1)
bit_set bit small = grind (arith, nat_tests)

pub returns : goal.returns
returns c = rw (and_pow c.args.psr 5) (bit_set (bit_at c.args.psr 5) (bit_at-lt c.args.psr 5))
