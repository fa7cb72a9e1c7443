-- One instruction with the spill or the fill that it needs.
use Rattle.std.specs.Prelude.{◌≡◌, ◌≢◌, ◌⊎◌, ℕ, ◌+◌, ◌%◌, ◌^◌, if◌then◌else◌, ◌==◌, List, Result, Ok, Err, IsErr, IsOk}
use Rattle.guest_bus.specs.Access.{fetched}
use Rattle.guest_bus.specs.Memory.{Area, Memory}
use Rattle.sparc_step.specs.Execution.{Turned, refused as trapped, turned}
use Rattle.sparc_step.specs.Registers.{Registers}
use Rattle.sparc_step.specs.declared.outcome.Turn.{Turn}
use Rattle.sparc_step.specs.declared.outcome.Turn.TheVariants.{Went, Trap, Call}
use Rattle.virt_traps.specs.Moves.{Moved, filled, spilled}
use Rattle.virt_traps.specs.declared.windows.StackFault.{StackFault}

-- the instruction again where the spill or fill was made, else the window trap
abbrev pub again_or_trap : Result (Unit {0}) StackFault → ℕ → List Area → Registers → Memory → Turned
again_or_trap (Ok made) type areas core memory = turned areas core memory
again_or_trap (Err fault) type areas core memory = trapped type core memory

-- what follows a spill or a fill that a window trap asked for
unfoldable pub made_again : ℕ → List Area → Moved → Turned
made_again type areas moved = again_or_trap moved.answer type areas moved.core moved.memory

-- the outcome of a step where its instruction trapped: window overflow is met by a spill, underflow by a fill, and no other trap by anything
unfoldable pub after_trap : ℕ → List Area → Registers → Memory → Turned
after_trap type areas core memory =
    if type == 5 then made_again 5 areas (spilled areas core memory)
    else if type == 6 then made_again 6 areas (filled areas core memory)
    else trapped type core memory

-- the outcome of a step, by the outcome of its instruction
abbrev pub answered : Turn → Turned → List Area → Registers → Memory → Turned
answered Went first areas core memory = first
answered (Trap type) first areas core memory = after_trap type areas core memory
answered Call first areas core memory = first

-- the instruction at pc, with the spill or the fill that it needs
unfoldable pub settled : List Area → Registers → Memory → Turned
settled areas core memory = answered (turned areas core memory).turn (turned areas core memory) areas core memory

-- nothing changed
abbrev pub Unchanged : Registers → Registers → Memory → Memory → Type 0
Unchanged before after old new = (after ≡ before) × (new ≡ old)

-- window overflow and underflow come only where the spill or the fill was refused, and then nothing changed
pub record FailsAlone (turn : Turn) (areas : List Area) (before after : Registers) (old new : Memory) : Type 0 where
  pub overflow : turn ≡ Trap 5 → ((turned areas before old).turn ≡ Trap 5) × IsErr (spilled areas before old).answer × Unchanged before after old new
  pub underflow : turn ≡ Trap 6 → ((turned areas before old).turn ≡ Trap 6) × IsErr (filled areas before old).answer × Unchanged before after old new

-- a spill was made, nothing else changed, and the word at pc is another one now
pub record SpillStays (areas : List Area) (before after : Registers) (old new : Memory) : Type 0 where
  pub overflow : (turned areas before old).turn ≡ Trap 5
  pub made : IsOk (spilled areas before old).answer
  pub registers : after ≡ (spilled areas before old).core
  pub bytes : new ≡ (spilled areas before old).memory
  pub overwritten : fetched areas new before.pc ≢ fetched areas old before.pc

-- after a trap nothing changed, but for a spill that overwrote the word at pc
abbrev pub IsUndoneButSpill : Turn → List Area → Registers → Registers → Memory → Memory → Type 0
IsUndoneButSpill Went areas before after old new = Unit {0}
IsUndoneButSpill (Trap type) areas before after old new = Unchanged before after old new ⊎ SpillStays areas before after old new
IsUndoneButSpill Call areas before after old new = Unit {0}

-- the program goes on after the instruction
abbrev pub GoesOn : Registers → Registers → Type 0
GoesOn before after = (after.pc ≡ before.npc) × (after.npc ≡ (before.npc + 4) % 2 ^ 32)
