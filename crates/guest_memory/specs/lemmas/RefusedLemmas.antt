-- A range of which all addresses are allowed is not refused.
use Rattle.std.proofs.Common.{◌≡◌, ℕ, zero, suc, Bool, true, None, refl}
use Rattle.std.proofs.lemmas.Bool.{and_parts}
use Rattle.guest_bus.specs.Memory.{all_from}
use Rattle.guest_memory.specs.Memories.{first_refused}

-- no address of it is refused
pub none_refused : (allowed : ℕ → Bool) (address count : ℕ) → all_from allowed address count ≡ true → first_refused allowed address count ≡ None
none_refused allowed address zero all = refl
none_refused allowed address (suc count) all =
    let parts = and_parts (allowed address) (all_from allowed (suc address) count) all in
    rw parts.0 (none_refused allowed (suc address) count parts.1)
