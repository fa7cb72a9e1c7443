-- The faults that the head and the digest of a file may have, however its format calls them.
use Rattle.std.specs.Prelude.{ℕ, List}

-- how they are made: another name, another version, a file that ends too early, one that is longer than its head says, and two digests, the one
-- that is stored and the one that is found
pub record HeadFaults (F : Type 0) : Type 0 where
  pub magic : F
  pub version : ℕ → F
  pub short : ℕ → F
  pub trailing : ℕ → F
  pub digest : List ℕ → List ℕ → F
