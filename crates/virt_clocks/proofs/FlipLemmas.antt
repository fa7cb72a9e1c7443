-- Numbers of 63 bits, one of which flips.
use Rattle.std.proofs.Common.{ℕ, ◌<◌, ◌^◌}
use Rattle.std.specs.Prelude.{bit_xor}
use Rattle.std.proofs.Math.Pow.{pow-lt}
use Rattle.std.proofs.lemmas.Nat.{xor_lt}

pub stays_below : (deadline bit : ℕ) → deadline < 2 ^ 63 → bit < 63 → bit_xor deadline (2 ^ bit) < 2 ^ 63
stays_below deadline bit below small = xor_lt 63 deadline (2 ^ bit) below (pow-lt small)
