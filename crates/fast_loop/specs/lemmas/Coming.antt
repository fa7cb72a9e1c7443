-- What came of a word of a run, and of some of them.
use Rattle.std.specs.Prelude.{◌≡◌, ℕ, ◌+◌, ◌-◌, ◌%◌, ◌^◌, ◌<◌, ⊤, false, List, Some, slice_get}
use Rattle.guest_bus.specs.Memory.{Area, Memory}
use Rattle.guest_bus.specs.Words.{word_address}
use Rattle.sparc_step.specs.Execution.{done}
use Rattle.sparc_step.specs.Registers.{Registers, placed}
use Rattle.virt_traps.specs.Settled.{settled}
use Rattle.predecode.specs.Kinds.{is_exit}
use Rattle.predecode.specs.declared.rows.Row.{Row}
use Rattle.fast_loop.specs.Runs.{AreSteps, IsCall}
use Rattle.fast_loop.specs.lemmas.Places.{at_place, at_slot}
use Rattle.fast_loop.specs.declared.one.Came.{Came}
use Rattle.fast_loop.specs.declared.one.Came.TheVariants as came
use Rattle.fast_loop.specs.declared.parts.Part.{Part}
use Rattle.fast_loop.specs.declared.parts.PartEnd.{PartEnd}
use Rattle.fast_loop.specs.declared.parts.PartEnd.TheVariants as ends

-- this many steps from its place led there
abbrev pub IsCame : Came → ℕ → ℕ → List Area → Registers → Registers → Memory → Memory → Type 0
IsCame (came.Next way) origin at areas old new memory after = AreSteps 1 areas (at_place origin at old) memory (at_place origin (at + 1) new) after
IsCame came.Passed origin at areas old new memory after = AreSteps 2 areas (at_place origin at old) memory (at_place origin (at + 2) new) after
IsCame (came.Jump displacement) origin at areas old new memory after = AreSteps 1 areas (at_place origin at old) memory (at_place origin (at + displacement) new) after
IsCame (came.Turn displacement) origin at areas old new memory after = AreSteps 2 areas (at_place origin at old) memory (at_place origin (at + displacement) new) after
IsCame (came.Slot displacement) origin at areas old new memory after = AreSteps 1 areas (at_place origin at old) memory (at_slot origin (at + 1) (at + displacement) new) after
IsCame (came.PairTurn displacement) origin at areas old new memory after = AreSteps 3 areas (at_place origin at old) memory (at_place origin (at + 1 + displacement) new) after
IsCame (came.PairSlot displacement) origin at areas old new memory after = AreSteps 2 areas (at_place origin at old) memory (at_slot origin (at + 2) (at + 1 + displacement) new) after
IsCame came.Calls origin at areas old new memory after = (new ≡ old) × (after ≡ memory) × IsCall areas (at_place origin at new) after
IsCame came.Stays origin at areas old new memory after = (new ≡ old) × (after ≡ memory)

-- the instruction of a place may go on to the next word
abbrev pub NoExit : List Row → ℕ → Type 0
NoExit rows at = (row : Row) → slice_get rows at ≡ Some row → is_exit row.kind ≡ false

-- so may those that went on
abbrev pub IsOn : Came → List Row → ℕ → Type 0
IsOn (came.Next way) rows at = NoExit rows at
IsOn came.Passed rows at = NoExit rows at × NoExit rows (at + 1)
IsOn (came.PairTurn displacement) rows at = NoExit rows at × NoExit rows (at + 1)
IsOn (came.PairSlot displacement) rows at = NoExit rows at × NoExit rows (at + 1)
IsOn c rows at = ⊤

-- the steps that are left at a place up to a limit, where both went round together
abbrev pub left_at : ℕ → ℕ → ℕ
left_at at limit = (limit + (2 ^ 64 - at)) % 2 ^ 64

-- this many steps from a place led there; one at least, where it goes on
abbrev pub ArePartSteps : PartEnd → ℕ → ℕ → ℕ → ℕ → List Area → Registers → Registers → Memory → Memory → Type 0
ArePartSteps ends.Goes count origin from at areas old new memory after = (0 < count) × AreSteps count areas (at_place origin from old) memory (at_place origin at new) after
ArePartSteps (ends.Slot displacement) count origin from at areas old new memory after = (0 < at) × AreSteps count areas (at_place origin from old) memory (at_slot origin at (at - 1 + displacement) new) after
ArePartSteps ends.Calls count origin from at areas old new memory after = AreSteps count areas (at_place origin from old) memory (at_place origin at new) after × IsCall areas (at_place origin at new) after
ArePartSteps ends.Stays count origin from at areas old new memory after = AreSteps count areas (at_place origin from old) memory (at_place origin at new) after

-- before a call steps are left
abbrev pub IsLeft : PartEnd → ℕ → Type 0
IsLeft ends.Calls left = 0 < left
IsLeft e left = ⊤

-- some words of a run from a place on, where its steps would end at a limit: where it stands after them, and what they left
pub record IsPart (part : Part) (origin from limit : ℕ) (areas : List Area) (old new : Registers) (memory after : Memory) : Type 0 where
  pub count : ℕ
  pub steps : ArePartSteps part.end count origin from part.at areas old new memory after
  pub counted : count + left_at part.at part.limit ≡ limit - from
  pub place : part.at < 2 ^ 64
  pub end : part.limit < 2 ^ 64
  pub left : IsLeft part.end (left_at part.at part.limit)

-- the word in a delay slot was done, whatever follows it
abbrev pub IsSlotDone : ℕ → ℕ → List Area → Registers → Registers → Memory → Memory → Type 0
IsSlotDone origin at areas old new memory after =
    (npc : ℕ) → settled areas (placed (word_address origin at) npc old) memory ≡ done (placed npc ((npc + 4) % 2 ^ 32) new) after

-- the word at a displacement from a place follows, this many steps after that place
pub record IsMoved (part : Part) (at limit count displacement : ℕ) : Type 0 where
  pub some : 0 < count
  pub distance : ℕ
  pub reach : distance % 2 ^ 32 ≡ displacement
  pub place : part.at ≡ (at + distance) % 2 ^ 64
  pub end : part.limit ≡ ((limit + distance) % 2 ^ 64 + (2 ^ 64 - count)) % 2 ^ 64
  pub goes : part.end ≡ ends.Goes
