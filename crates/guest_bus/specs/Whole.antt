-- A memory whose map is what its areas say.
use Rattle.std.specs.Prelude.{◌≡◌, ℕ, ◌^◌, ◌<◌, true, false, List, None, IsSomeAnd}
use Rattle.std.specs.FinMap.{get}
use Rattle.guest_bus.specs.Memory.{Area, Memory, is_readable}

-- a byte stands at the address
abbrev pub HoldsByte : Memory → ℕ → Type 0
HoldsByte memory address = IsSomeAnd (get memory address) (λ byte. byte < 2 ^ 8)

-- the memory goes from the addresses of the areas to bytes: one stands at each of them, and nothing elsewhere
pub record IsMemoryOf (areas : List Area) (memory : Memory) : Type 0 where
  pub held : (address : ℕ) → is_readable areas address ≡ true → HoldsByte memory address
  pub nothing : (address : ℕ) → is_readable areas address ≡ false → get memory address ≡ None
