-- The causes of faults, as counts that rise.
use Rattle.std.specs.Prelude.{◌≡◌, ℕ, ◌+◌, ◌-◌, ◌^◌, ◌≤◌, min, Result, Ok, Err}
use Rattle.xm_outside.specs.declared.store.StoreFault.{StoreFault}
use Rattle.xm_outside.specs.declared.store.StoreFault.TheVariants.{Failed, Absent, Memory}

-- a counter of 64 bits after one more; it stands still at its last value
abbrev pub counted : ℕ → ℕ
counted n = min (n + 1) (2 ^ 64 - 1)

-- a count of faults rose, or stands at its last value
pub record Rose (before now : ℕ) : Type 0 where
  pub later : before ≤ now
  pub risen : counted before ≤ now

-- an answer of a call with one cause: a fault comes only where the count rose, and nothing else moves it
abbrev pub HasCause : {T E : Type 0} → Result T E → ℕ → ℕ → Type 0
HasCause (Ok _) before now = now ≡ before
HasCause (Err _) before now = Rose before now

-- an answer of a read: the device's fault alone moves the count of faults
abbrev pub HasReadCause : {T : Type 0} → Result T StoreFault → ℕ → ℕ → Type 0
HasReadCause (Ok _) before now = now ≡ before
HasReadCause (Err Failed) before now = Rose before now
HasReadCause (Err Absent) before now = now ≡ before
HasReadCause (Err Memory) before now = now ≡ before
