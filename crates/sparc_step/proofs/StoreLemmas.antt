-- What a refused store leaves.
use Rattle.std.proofs.Common.{◌∙◌, sym, ap}
use Rattle.std.specs.Prelude.{◌≡◌, ℕ, Option, Some, None, Err}
use Rattle.guest_bus.specs.Access.{Stores, memory_unless_refused}
use Rattle.guest_bus.specs.Memory.{Memory}
use Rattle.guest_bus.specs.declared.bus.BusFault.{BusFault}
use Rattle.sparc_step.specs.Registers.{Registers}
use Rattle.sparc_step.specs.Transfers.{exchanged_with, fault_type, refused, stored_from}

-- the same refusal, by an equal type and an equal memory
same_refusal : (fault found : BusFault) (type : ℕ) (core : Registers) (old after : Memory) → found ≡ fault → type ≡ fault_type found → after ≡ old → refused (fault_type fault) core old ≡ refused type core after
same_refusal fault found type core old after fault_is type_is after_is =
    ap (λ (n : ℕ). refused n core old) (sym (type_is ∙ ap (λ (f : BusFault). fault_type f) fault_is)) ∙ ap (refused type core) (sym after_is)

-- a refused store traps, and the memory is the old one
pub store_refused : (o : Option BusFault) (found : BusFault) (type : ℕ) (core : Registers) (old after new other : Memory) → Stores {T = Unit {0}} (Err found) o → type ≡ fault_type found → after ≡ memory_unless_refused o old new → stored_from o core old other ≡ refused type core after
store_refused None found type core old after new other fault_is type_is after_is = absurd fault_is
store_refused (Some fault) found type core old after new other fault_is type_is after_is = same_refusal fault found type core old after fault_is type_is after_is

-- and so does a refused exchange
pub exchange_refused : (o : Option BusFault) (found : BusFault) (type value rd : ℕ) (core : Registers) (old after new other : Memory) → Stores {T = Unit {0}} (Err found) o → type ≡ fault_type found → after ≡ memory_unless_refused o old new → exchanged_with o value rd core old other ≡ refused type core after
exchange_refused None found type value rd core old after new other fault_is type_is after_is = absurd fault_is
exchange_refused (Some fault) found type value rd core old after new other fault_is type_is after_is = same_refusal fault found type core old after fault_is type_is after_is
