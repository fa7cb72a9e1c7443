-- Words whose window has to be spilled or filled, with that.
use Rattle.std.specs.Prelude.{◌≡◌, ◌≢◌, ℕ, ◌+◌, ◌%◌, ◌^◌, List, Ok}
use Rattle.guest_bus.specs.Access.{fetched}
use Rattle.guest_bus.specs.Memory.{Area, Memory}
use Rattle.sparc_code.specs.Decoded.{decoded}
use Rattle.sparc_step.specs.Execution.{done}
use Rattle.sparc_step.specs.Registers.{Registers, placed}
use Rattle.virt_traps.specs.Moves.{filled, move_made, spilled}
use Rattle.virt_traps.specs.Settled.{settled}
use Rattle.predecode.specs.Rows.{IsRowOf}
use Rattle.predecode.specs.declared.rows.Row.{Row}

-- the word at an address goes on to the next one, with the spill or fill that it needs
abbrev pub IsShift : Row → ℕ → List Area → Registers → Registers → Memory → Memory → Type 0
IsShift row pc areas old new memory after =
    (npc word : ℕ) → fetched areas memory pc ≡ Ok word → IsRowOf row (decoded word)
    → settled areas (placed pc npc old) memory ≡ done (placed npc ((npc + 4) % 2 ^ 32) new) after

-- a spill that a SAVE needs, which leaves the word at an address
pub record IsSpilled (pc : ℕ) (areas : List Area) (old new : Registers) (memory after : Memory) : Type 0 where
  pub moved : spilled areas old memory ≡ move_made new after
  pub current : new.cwp ≡ old.cwp
  pub valid : (old.cwp + 7) % 8 ≢ new.inv
  pub word : fetched areas after pc ≡ fetched areas memory pc

-- a fill that a RESTORE needs
pub record IsFilled (areas : List Area) (old new : Registers) (memory : Memory) : Type 0 where
  pub moved : filled areas old memory ≡ move_made new memory
  pub current : new.cwp ≡ old.cwp
  pub valid : (old.cwp + 1) % 8 ≢ new.inv
