-- For proofs: numbers of which a bit flips.
use Rattle.std.proofs.Common.{◌≡◌, ℕ, zero, suc, ◌+◌, ◌-◌, ◌<◌, ◌≤◌, ◌%◌, ◌^◌, List, length, ap, ◌∙◌, arith}
use Rattle.std.specs.Prelude.{bit_xor, slice_index}
use Rattle.std.proofs.Math.Nat.{mul-mod_left}
use Rattle.std.proofs.lemmas.Nat.{pow-add, xor_lt, xor_mod}
use Rattle.std.proofs.lemmas.List.{get_or-set_other, length-set}
use Rattle.upset_model.specs.Places.{flipped, flipped_at}

-- a power of two of at least 4
power_mod : (bit : ℕ) → (2 ≤ bit) → 2 ^ bit % 4 ≡ 0
power_mod zero at_least = absurd (omega (arith, at_least))
power_mod (suc zero) at_least = absurd (omega (arith, at_least))
power_mod (suc (suc k)) at_least = omega arith

-- a multiple of 4 stays one
pub aligned : (bit n : ℕ) → (2 ≤ bit) → n % 4 ≡ 0 → flipped bit n % 4 ≡ 0
aligned bit n at_least zeros = xor_mod n (2 ^ bit) 2 ∙ ap (λ m. bit_xor m (2 ^ bit % 4)) zeros ∙ power_mod bit at_least

-- a number of four bits stays one
pub conditions : (bit n : ℕ) → bit < 4 → n < 16 → flipped bit n < 16
conditions zero n below word = xor_lt 4 n 1 word (omega arith)
conditions (suc zero) n below word = xor_lt 4 n 2 word (omega arith)
conditions (suc (suc zero)) n below word = xor_lt 4 n 4 word (omega arith)
conditions (suc (suc (suc zero))) n below word = xor_lt 4 n 8 word (omega arith)
conditions (suc (suc (suc (suc k)))) n below word = absurd (omega (arith, below))

-- the base of the table of traps stays a multiple of 4096
power_page : (bit : ℕ) → (12 ≤ bit) → 2 ^ bit % 4096 ≡ 0
power_page bit at_least = ap (λ n. 2 ^ n % 4096) (let e : bit ≡ (bit - 12) + 12 = omega (arith, at_least) in e) ∙ ap (λ n. n % 4096) (pow-add 2 (bit - 12) 12) ∙ mul-mod_left (2 ^ (bit - 12)) 4096

pub on_page : (bit n : ℕ) → (12 ≤ bit) → n % 4096 ≡ 0 → flipped bit n % 4096 ≡ 0
on_page bit n at_least zeros = xor_mod n (2 ^ bit) 12 ∙ ap (λ m. bit_xor m (2 ^ bit % 4096)) zeros ∙ power_page bit at_least

-- register 0 stays zero where a bit of another flips
pub zero_stays : (n bit : ℕ) (words : List ℕ) → (1 ≤ n) → slice_index words 0 ≡ 0 → slice_index (flipped_at n bit words) 0 ≡ 0
zero_stays n bit words some is = get_or-set_other words n 0 (flipped bit (slice_index words n)) 0 (λ same. absurd (omega (arith, same, some))) ∙ is

pub counted : (n bit : ℕ) (words : List ℕ) → length (flipped_at n bit words) ≡ length words
counted n bit words = length-set words n (flipped bit (slice_index words n))
