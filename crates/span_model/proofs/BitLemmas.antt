-- Bits that are set one after the other.
use Rattle.std.proofs.Common.{◌≡◌, ℕ, ◌<◌, sym, ap, ◌∙◌, arith}
use Rattle.std.specs.Prelude.{bit_or, max}
use Rattle.std.specs.Int.{bit_at}
use Rattle.std.proofs.lemmas.Nat.Bits.{bit_at-lt, bit_at_or, same_from_bits}

-- a bit of three numbers
bit_of_three : (p a b i : ℕ) → bit_at (bit_or (bit_or p a) b) i ≡ max (max (bit_at p i) (bit_at a i)) (bit_at b i)
bit_of_three p a b i = bit_at_or (bit_or p a) b i ∙ ap (λ n. max n (bit_at b i)) (bit_at_or p a i)

-- bits that are set in the other order
pub or_turned : (p a b : ℕ) → bit_or (bit_or p a) b ≡ bit_or (bit_or p b) a
or_turned p a b = same_from_bits (bit_or (bit_or p a) b) (bit_or (bit_or p b) a)
    (λ i. bit_of_three p a b i ∙ omega arith ∙ sym (bit_of_three p b a i))

-- bits that are set twice
pub or_again : (p a : ℕ) → bit_or (bit_or p a) a ≡ bit_or p a
or_again p a = same_from_bits (bit_or (bit_or p a) a) (bit_or p a)
    (λ i. bit_of_three p a a i ∙ omega arith ∙ sym (bit_at_or p a i))

-- a bit that is set stays set
pub or_kept : (p a i : ℕ) → bit_at p i ≡ 1 → bit_at (bit_or p a) i ≡ 1
or_kept p a i set =
    let more : bit_at (bit_or p a) i ≡ max (bit_at p i) (bit_at a i) = bit_at_or p a i in
    let small : bit_at a i < 2 = bit_at-lt a i in
    omega (arith, more, set, small)
