-- For proofs and private clauses: the calls that make a port, and the name that they give it, in bytes that the caller may read.
use Rattle.std.specs.Prelude.{◌≡◌, ℕ, suc, ◌==◌, ◌≤◌, ◌⊎◌, Bool, true, false, if◌then◌else◌, List, [], ◌∷◌, Option, Some, None}
use Rattle.guest_bus.specs.Memory.{all_from}
use Rattle.xm_base.specs.Options.{on}

-- the bytes before the first zero byte, where there is one
abbrev pub name_in : List ℕ → Option (List ℕ)
name_in [] = None
name_in (byte ∷ bytes) = if byte == 0 then Some [] else on (λ rest. byte ∷ rest) (name_in bytes)

-- this many bytes from an address on may be read: as many as are wanted, or all up to one that may not
pub record AreReadable (allowed : ℕ → Bool) (address most count : ℕ) : Type 0 where
  pub few : count ≤ most
  pub all : all_from allowed address count ≡ true
  pub end : (count ≡ most) ⊎ (all_from allowed address (suc count) ≡ false)
