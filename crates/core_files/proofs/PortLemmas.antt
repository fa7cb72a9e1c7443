-- The made ports as the bits of a number.
use Rattle.std.proofs.Common.{◌≡◌, ℕ, zero, suc, ◌+◌, ◌-◌, ◌*◌, ◌^◌, ◌<◌, ◌≤◌, Bool, true, false, List, [], ◌∷◌, length, drop, get_or, ap, sym, subst, arith, pow-suc}
use Rattle.std.proofs.lemmas.List.{drop_more}
use Rattle.machine_model.specs.CoreFile.{bits_of_flags}
use Rattle.machine_model.specs.Structures.{flag}

-- a flag is 0 or 1
flag_few : (one : Bool) → flag one ≤ 1
flag_few true = omega arith
flag_few false = omega arith

-- the bits of this many flags
pub bits_below : (made : List Bool) → bits_of_flags made < 2 ^ length made
bits_below [] = omega arith
bits_below (one ∷ rest) = omega (arith, bits_below rest, flag_few one, pow-suc 2 (length rest))

-- those from a port on are no more
bits_fewer : (made : List Bool) (port : ℕ) → bits_of_flags (drop port made) ≤ bits_of_flags made
bits_fewer made zero = omega arith
bits_fewer [] (suc port) = omega arith
bits_fewer (one ∷ rest) (suc port) = omega (arith, bits_fewer rest port)

-- the bits from a port on are its own and those from the next one on
pub bits_more : (made : List Bool) (port : ℕ) → port < length made → bits_of_flags (drop port made) ≡ flag (get_or made port false) + 2 * bits_of_flags (drop (port + 1) made)
bits_more made port below = ap bits_of_flags (drop_more made port false below)

-- and they stay below the bound
pub bits_within : (made : List Bool) (port : ℕ) → length made ≡ 32 → port < length made → flag (get_or made port false) + 2 * bits_of_flags (drop (port + 1) made) < 2 ^ 32
bits_within made port counted below =
    let most : bits_of_flags made < 2 ^ 32 = subst (λ (n : ℕ). bits_of_flags made < 2 ^ n) counted (bits_below made) in
    omega (arith, bits_more made port below, bits_fewer made port, most)

-- as the number that has them has it
pub bits_fit : (made : List Bool) (port bits : ℕ) → length made ≡ 32 → 0 < port → port ≤ 32 → bits ≡ bits_of_flags (drop port made) → flag (get_or made (port - 1) false) + 2 * bits < 2 ^ 32
bits_fit made port bits counted some within is =
    let before : port - 1 + 1 ≡ port = omega (arith, some) in
    let fits = bits_within made (port - 1) counted (omega (arith, counted, some, within)) in
    subst (λ (b : ℕ). flag (get_or made (port - 1) false) + 2 * b < 2 ^ 32) (sym is)
    (subst (λ (n : ℕ). flag (get_or made (port - 1) false) + 2 * bits_of_flags (drop n made) < 2 ^ 32) before fits)
