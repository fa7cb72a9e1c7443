-- For proofs: an upset changes the state of the partition that it strikes, and the upsets of a tick strike one after the other.
use Rattle.std.proofs.Common.{◌≡◌, ◌≢◌, ℕ, zero, suc, ◌<◌, Bool, true, false, List, [], ◌∷◌, length, set, get_or, refl, ap, arith}
use Rattle.std.specs.Prelude.{◌==◌}
use Rattle.std.proofs.lemmas.Bool.Decides.{nat_tests}
use Rattle.machine_model.specs.Lists.{each}
use Rattle.machine_model.specs.Machine.{Machine}
use Rattle.machine_model.specs.Partition.{PartitionState}
use Rattle.upset_model.specs.Upsets.{Strike, Upset, ready, ready_unless, struck_if, upset}

-- where none passes the test, none is struck
none_struck : (test : ℕ → Bool) → ((k : ℕ) → test k ≡ false) → (f : Strike) (xs : List PartitionState) → each (λ k ps. struck_if (test k) f ps) xs ≡ xs
none_struck test never f [] = refl
none_struck test never f (x ∷ xs) = λ i. struck_if (never 0 i) f x ∷ none_struck (λ k. test (suc k)) (λ k. never (suc k)) f xs i

-- where one alone passes it, that one is
one_struck : (test : ℕ → Bool) (p : ℕ) → test p ≡ true → ((k : ℕ) → k ≢ p → test k ≡ false) → (f : Strike) (xs : List PartitionState) (other : PartitionState) → p < length xs
    → each (λ k ps. struck_if (test k) f ps) xs ≡ set xs p (f (get_or xs p other))
one_struck test p its others f [] other below = absurd (omega (arith, below))
one_struck test zero its others f (x ∷ xs) other below =
    λ i. struck_if (its i) f x ∷ none_struck (λ k. test (suc k)) (λ k. others (suc k) (λ e. absurd (omega (arith, e)))) f xs i
one_struck test (suc p) its others f (x ∷ xs) other below =
    λ i. struck_if (others 0 (λ e. absurd (omega (arith, e))) i) f x
    ∷ one_struck (λ k. test (suc k)) p its (λ k ne. others (suc k) (λ e. ne (omega (arith, e)))) f xs other (omega (arith, below)) i

-- the partition of the number
its_number : (p : ℕ) → (p == p) ≡ true
its_number p = grind (arith, nat_tests)

other_number : (p k : ℕ) → k ≢ p → (p == k) ≡ false
other_number p k ne = grind (arith, nat_tests, ne)

pub upset_at : (p : ℕ) (f : Strike) (g : Machine) (other : PartitionState) → p < length g.parts → upset (record { part = p; strike = f }) g ≡ record g { parts = set g.parts p (f (get_or g.parts p other)) }
unfolding upset
upset_at p f g other below = ap (λ (states : List PartitionState). record g { parts = states }) (one_struck (λ k. p == k) p (its_number p) (other_number p) f g.parts other below)

-- one after the other
pub ready_again : (u : Upset) (us : List Upset) (g : Machine) → ready (u ∷ us) g ≡ ready us (ready (u ∷ []) g)
unfolding ready upset
ready_again u us g = by g.halted refl
  where
    by : (b : Bool) → g.halted ≡ b → ready_unless b (u ∷ us) g ≡ ready_unless (ready_unless b (u ∷ []) g).halted us (ready_unless b (u ∷ []) g)
    by true halts = rw halts refl
    by false goes = rw goes refl
