-- Flags are the bits of a number, both ways.
use Rattle.std.proofs.Common.{◌≡◌, ℕ, zero, suc, ◌+◌, ◌*◌, ◌/◌, ◌%◌, ◌^◌, ◌<◌, Bool, true, false, List, [], ◌∷◌, length, refl, ap, arith}
use Rattle.std.specs.Prelude.{◌==◌}
use Rattle.machine_model.specs.CoreFile.{bits_of_flags}
use Rattle.machine_model.specs.Structures.{flag}
use Rattle.saved_machines.specs.SavedFields.{flags_of}

-- there are as many as are asked for
pub length-flags : (count n : ℕ) → length (flags_of count n) ≡ count
unfolding flags_of
length-flags zero n = refl
length-flags (suc count) n = ap suc (length-flags count (n / 2))

-- a bit as a flag and as a number
flag_bit : (bit : ℕ) → bit < 2 → flag (bit == 1) ≡ bit
flag_bit zero below = refl
flag_bit (suc zero) below = refl
flag_bit (suc (suc more)) below = absurd (omega (arith, below))

-- the number of a number's bits is the number
pub bits_back : (count n : ℕ) → n < 2 ^ count → bits_of_flags (flags_of count n) ≡ n
unfolding flags_of
bits_back zero n below = omega (arith, below)
bits_back (suc count) n below =
    let half : n / 2 < 2 ^ count = omega (arith, below) in
    omega (arith, flag_bit (n % 2) (omega arith), bits_back count (n / 2) half)

-- the bits of the number of flags are the flags
pub flags_back : (flags : List Bool) → flags_of (length flags) (bits_of_flags flags) ≡ flags
unfolding flags_of
flags_back [] = refl
flags_back (false ∷ flags) =
    let bits = bits_of_flags flags in
    let low : (0 + 2 * bits) % 2 ≡ 0 = omega arith in
    let high : (0 + 2 * bits) / 2 ≡ bits = omega arith in
    rw (low, high) (ap (λ rest. false ∷ rest) (flags_back flags))
flags_back (true ∷ flags) =
    let bits = bits_of_flags flags in
    let low : (1 + 2 * bits) % 2 ≡ 1 = omega arith in
    let high : (1 + 2 * bits) / 2 ≡ bits = omega arith in
    rw (low, high) (ap (λ rest. true ∷ rest) (flags_back flags))
