-- The shares of all partitions, one after another.
use Rattle.std.proofs.Common.{ℕ, ◌+◌, ◌*◌, ◌/◌, ◌<◌, ◌≤◌, min, arith, div-mul-le_self}
use Rattle.std.proofs.lemmas.Nat.{mul-le, row_fits_turned}
use Rattle.predecoded_memory.specs.Shares.{share_for}

-- all shares together are few
pub shares_fit : (count wide : ℕ) → count * share_for count wide ≤ 1048576
unfolding share_for
shares_fit count wide =
    omega (arith, div-mul-le_self 1048576 count, mul-le count (min (1048576 / count) wide) count (1048576 / count) (omega arith) (omega arith))

-- that of each partition ends within all of them
pub share_fits : (p share count : ℕ) → p < count → p * share + share ≤ count * share
share_fits p share count below = omega (arith, row_fits_turned p share share count below (omega arith))
