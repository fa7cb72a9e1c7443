-- For proofs and private clauses: the faults that the head and the digest of a file may have, however its format calls them.
use Rattle.std.specs.Prelude.{◌≢◌, ◌≡◌, ℕ, List}
use Rattle.file_headers.specs.Faults.{HeadFaults}

-- no other fault is one of digests, and two of those are equal only where their digests are
pub record AreApart {F : Type 0} (faults : HeadFaults F) : Type 0 where
  pub magic : (s f : List ℕ) → faults.magic ≢ faults.digest s f
  pub version : (found : ℕ) (s f : List ℕ) → faults.version found ≢ faults.digest s f
  pub short : (at : ℕ) (s f : List ℕ) → faults.short at ≢ faults.digest s f
  pub trailing : (at : ℕ) (s f : List ℕ) → faults.trailing at ≢ faults.digest s f
  pub stored : (s f s' f' : List ℕ) → faults.digest s f ≡ faults.digest s' f' → s ≡ s'
  pub found : (s f s' f' : List ℕ) → faults.digest s f ≡ faults.digest s' f' → f ≡ f'
