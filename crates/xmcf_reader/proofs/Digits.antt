-- Lemmas on the bounds of numbers that digits spell.
use Rattle.std.proofs.Common.{◌≡◌, ℕ, ◌+◌, ◌*◌, ◌^◌, ◌<◌, ◌≤◌, lit<, refl, arith, add-one, List, length, get_or, drop, Some}
use Rattle.std.proofs.Math.Seq.{drop-cons}
use Rattle.xmcf_reader.specs.Values.{digit, spelled}
use Rattle.std.proofs.Math.Nat.{mul-le-mul_left, pow-le-pow_right, pow-suc}

-- one more digit
pub more_digits : (base n d k : ℕ) → base ≤ 16 → d < 16 → n < 16 ^ k → n * base + d < 16 ^ (k + 1)
more_digits base n d k fits below h =
    let wide : n * base ≤ n * 16 = mul-le-mul_left n fits in
    let next : 16 ^ (k + 1) ≡ 16 ^ k * 16 = rw (add-one, pow-suc) in
    omega (arith, wide, next)

-- ten digits are below 2^40
pub few_digits : (n k : ℕ) → k ≤ 10 → n < 16 ^ k → n < 1099511627776
few_digits n k few h = let most : 16 ^ k ≤ 1099511627776 = pow-le-pow_right {n = 16} (lit< tt) {i = k} {j = 10} few in omega (arith, most)

-- the digits from a place on are the one there and those after it
pub next_digit : (base n d i : ℕ) (bytes : List ℕ) → i < length bytes → Some d ≡ digit base (get_or bytes i 0) → spelled base n (drop i bytes) ≡ spelled base (n * base + d) (drop (i + 1) bytes)
next_digit base n d i bytes h e = rw (drop-cons bytes i 0) (rw (← e) (rw add-one refl))
