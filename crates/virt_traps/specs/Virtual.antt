-- The virtual traps of a guest: whether it takes any, where its table of traps stands, and which of its 32 interrupts wait.
use Rattle.std.specs.Prelude.{◌≡◌, ℕ, zero, suc, ◌%◌, ◌^◌, ◌<◌, Bool, false, ◌&&◌, ◌==◌, if◌then◌else◌, Option, Some, None, IsFalse, IsTrue, bit_and, bit_or}
use Rattle.std.specs.Int.{bit_at, bit_not, w32}

-- whether virtual traps are taken, the address of their table, and a bit for each interrupt: whether it is pending, whether it is masked
pub record VirtualTraps : Type 0 where
  pub enabled : Bool
  pub base : ℕ
  pub pending : ℕ
  pub mask : ℕ

-- what holds of them at all times: the table begins at a multiple of its 4096 bytes
pub record AreVirtualTraps (v : VirtualTraps) : Type 0 where
  pub aligned : v.base % 4096 ≡ 0

-- those of a guest that has asked for none: disabled, nothing pending, every interrupt masked
unfoldable pub no_traps : VirtualTraps
no_traps = record { enabled = false; base = 0; pending = 0; mask = 0xffff_ffff }

-- interrupt n is pending
unfoldable pub raised : ℕ → VirtualTraps → VirtualTraps
raised n v = record v { pending = bit_or v.pending (2 ^ n) }

-- interrupt n is no longer pending
unfoldable pub interrupt_cleared : ℕ → VirtualTraps → VirtualTraps
interrupt_cleared n v = record v { pending = bit_and v.pending (bit_not w32 (2 ^ n)) }

-- interrupt n is pending, and it is not masked
abbrev pub is_interrupt_due : ℕ → VirtualTraps → Bool
is_interrupt_due n v = (bit_at v.pending n == 1) && (bit_at v.mask n == 0)

-- the first interrupt that is due, of this many from one on
abbrev pub first_due : ℕ → ℕ → VirtualTraps → Option ℕ
first_due from zero v = None
first_due from (suc count) v = if is_interrupt_due from v then Some from else first_due (suc from) count v

-- the lowest of the 32 interrupts that is due
unfoldable pub due : VirtualTraps → Option ℕ
due v = first_due 0 32 v

-- none of the 32 interrupts is due
abbrev pub NoneIsDue : VirtualTraps → Type 0
NoneIsDue v = (n : ℕ) → n < 32 → IsFalse (is_interrupt_due n v)

-- interrupt n is due, and no lower one is
pub record IsLowestDue (v : VirtualTraps) (n : ℕ) : Type 0 where
  pub below : n < 32
  pub waits : IsTrue (is_interrupt_due n v)
  pub lowest : (lower : ℕ) → lower < n → IsFalse (is_interrupt_due lower v)
