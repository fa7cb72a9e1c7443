-- What came of a row, by what it does.
use Rattle.std.specs.Prelude.{◌≡◌, ◌≢◌, ℕ, ◌+◌, ◌%◌, ◌^◌, ◌<◌, ⊤, Bool, true, false, List, Option, None, Some}
use Rattle.guest_bus.specs.Memory.{Area, Memory}
use Rattle.guest_bus.specs.Words.{word_address}
use Rattle.sparc_code.specs.declared.instruction.Arith.{Arith}
use Rattle.sparc_step.specs.Cached.{register_of}
use Rattle.sparc_step.specs.Conditions.{holds}
use Rattle.sparc_code.specs.declared.instruction.Instr.{Instr}
use Rattle.sparc_step.specs.Execution.{done, executed}
use Rattle.sparc_step.specs.Registers.{Registers, in_window, placed, with_register}
use Rattle.predecode.specs.Kinds.{Does, Idles, Works, Compares, Sets, Moves, ReadsY, WritesY, Saves, Restores, Calls, Jumps, BranchesAlways, Branches, Annuls, AnnulsAlways, Traps, Sum, does, follows}
use Rattle.predecode.specs.Rows.{HasForm, moved_register}
use Rattle.predecode.specs.declared.rows.Row.{Row}
use Rattle.fast_loop.specs.declared.simple.Step.{Step}
use Rattle.fast_loop.specs.declared.simple.Step.TheVariants as step
use Rattle.fast_loop.specs.lemmas.Effects.{IsTransferred, MayDivide, address_so, left_so, operand}

-- the instruction is executed and goes on to the next word, wherever it stands
abbrev pub Goes : Instr → List Area → Registers → Registers → Memory → Memory → Type 0
Goes i areas old new memory after =
    (pc npc : ℕ) → executed i areas (placed pc npc old) memory ≡ done (placed npc ((npc + 4) % 2 ^ 32) new) after

-- the window is not the invalid one, and the sum of the operands is a register of it
pub record HasEntered (window : ℕ) (row : Row) (old new : Registers) : Type 0 where
  pub valid : window ≢ old.inv
  pub entered : new ≡ with_register (in_window old window) row.rd (address_so Sum row old)

-- what a row did that goes on to the next word
abbrev pub HasDone : Does → Row → List Area → Registers → Registers → Memory → Memory → Type 0
HasDone Idles row areas old new memory after = (new ≡ old) × (after ≡ memory)
HasDone (Works operation form) row areas old new memory after = (new ≡ left_so (Works operation form) row old) × (after ≡ memory) × MayDivide operation (operand form row old)
HasDone (Compares form) row areas old new memory after = (new ≡ left_so (Compares form) row old) × (after ≡ memory)
HasDone (Sets form) row areas old new memory after = (new ≡ left_so (Sets form) row old) × (after ≡ memory)
HasDone (Moves operation form) row areas old new memory after = IsTransferred operation (moved_register operation row.rd) (address_so form row old) areas old new memory after
HasDone ReadsY row areas old new memory after = (new ≡ left_so ReadsY row old) × (after ≡ memory)
HasDone WritesY row areas old new memory after = (new ≡ left_so WritesY row old) × (after ≡ memory)
HasDone Saves row areas old new memory after = HasEntered ((old.cwp + 7) % 8) row old new × (after ≡ memory)
HasDone Restores row areas old new memory after = HasEntered ((old.cwp + 1) % 8) row old new × (after ≡ memory)
HasDone Branches row areas old new memory after = (holds row.rs1 old.icc ≡ false) × (new ≡ old) × (after ≡ memory)
HasDone d row areas old new memory after = ⊥

-- the condition of the branch that follows holds, or does not
abbrev pub FollowsBy : Bool → Option ℕ → Registers → Type 0
FollowsBy taken None core = ⊥
FollowsBy taken (Some condition) core = holds condition core.icc ≡ taken

-- the target of a jump, at which an instruction can stand
pub record IsTarget (row : Row) (origin at displacement : ℕ) (old : Registers) : Type 0 where
  pub aligned : address_so Sum row old % 4 ≡ 0
  pub there : word_address origin (at + displacement) ≡ address_so Sum row old

-- a row that goes by a displacement after its delay slot
abbrev pub HasTaken : Does → Row → ℕ → ℕ → ℕ → Registers → Registers → Type 0
HasTaken BranchesAlways row origin at displacement old new = (new ≡ old) × (displacement ≡ row.number)
HasTaken Branches row origin at displacement old new = (holds row.rs1 old.icc ≡ true) × (new ≡ old) × (displacement ≡ row.number)
HasTaken Annuls row origin at displacement old new = (holds row.rs1 old.icc ≡ true) × (new ≡ old) × (displacement ≡ row.number)
HasTaken Calls row origin at displacement old new = (new ≡ with_register old 15 (word_address origin at)) × (displacement ≡ row.number)
HasTaken Jumps row origin at displacement old new = (new ≡ with_register old (register_of row.rd) (word_address origin at)) × IsTarget row origin at displacement old
HasTaken d row origin at displacement old new = ⊥

-- a row whose delay slot is annulled
abbrev pub HasJumped : Does → Row → ℕ → Registers → Type 0
HasJumped Annuls row displacement old = (holds row.rs1 old.icc ≡ false) × (displacement ≡ 2)
HasJumped AnnulsAlways row displacement old = displacement ≡ row.number
HasJumped d row displacement old = ⊥

-- a trap that calls the hypervisor
abbrev pub HasCalled : Does → Row → Registers → Type 0
HasCalled Traps row old = address_so Sum row old % 128 ≡ 0x70
HasCalled d row old = ⊥

-- what came of the row of a place
abbrev pub IsStep : Step → Row → ℕ → ℕ → List Area → Registers → Registers → Memory → Memory → Type 0
IsStep (step.Next way) row origin at areas old new memory after = HasDone (does row.kind) row areas old new memory after
IsStep step.Passed row origin at areas old new memory after = HasDone (does row.kind) row areas old new memory after × FollowsBy false (follows row.kind) new
IsStep step.Compared row origin at areas old new memory after = HasDone (does row.kind) row areas old new memory after × FollowsBy true (follows row.kind) new
IsStep (step.Taken displacement) row origin at areas old new memory after = HasTaken (does row.kind) row origin at displacement old new × (after ≡ memory)
IsStep (step.Jumped displacement) row origin at areas old new memory after = HasJumped (does row.kind) row displacement old × (new ≡ old) × (after ≡ memory)
IsStep step.Calls row origin at areas old new memory after = HasCalled (does row.kind) row old × (new ≡ old) × (after ≡ memory)
IsStep step.Shifts row origin at areas old new memory after = (new ≡ old) × (after ≡ memory)
IsStep step.Stays row origin at areas old new memory after = (new ≡ old) × (after ≡ memory)

-- the operands of a row are registers, and operand 2 is the sum of a register and a number of which one is 0
pub record AreOperands (row : Row) : Type 0 where
  pub first : row.rs1 < 32
  pub second : row.rs2 < 32
  pub form : HasForm Sum row

-- no branch was done beside the instruction
abbrev pub IsAlone : Step → Type 0
IsAlone step.Passed = ⊥
IsAlone step.Compared = ⊥
IsAlone s = ⊤

-- what came of work that sets condition codes
abbrev pub IsChosen : Step → Bool → Bool → Type 0
IsChosen (step.Next way) paired taken = paired ≡ false
IsChosen step.Passed paired taken = (paired ≡ true) × (taken ≡ false)
IsChosen step.Compared paired taken = (paired ≡ true) × (taken ≡ true)
IsChosen s paired taken = ⊥

-- what came of a division
abbrev pub IsDivided : Step → Arith → Row → Registers → Registers → Type 0
IsDivided (step.Next way) operation row old new = (new ≡ left_so (Works operation Sum) row old) × (0 < operand Sum row old)
IsDivided step.Stays operation row old new = new ≡ old
IsDivided s operation row old new = ⊥

-- what came of a window that is entered, if it is valid
abbrev pub IsEntered : Step → ℕ → Row → Registers → Registers → Type 0
IsEntered (step.Next way) window row old new = HasEntered window row old new
IsEntered step.Shifts window row old new = new ≡ old
IsEntered s window row old new = ⊥

-- what came of a branch that annuls nothing
abbrev pub IsBranched : Step → Row → Registers → Type 0
IsBranched (step.Next way) row old = holds row.rs1 old.icc ≡ false
IsBranched (step.Taken displacement) row old = (holds row.rs1 old.icc ≡ true) × (displacement ≡ row.number)
IsBranched s row old = ⊥

-- what came of one that annuls its delay slot where it is not taken
abbrev pub IsAnnulled : Step → Row → Registers → Type 0
IsAnnulled (step.Jumped displacement) row old = (holds row.rs1 old.icc ≡ false) × (displacement ≡ 2)
IsAnnulled (step.Taken displacement) row old = (holds row.rs1 old.icc ≡ true) × (displacement ≡ row.number)
IsAnnulled s row old = ⊥

-- what came of a jump
abbrev pub IsJumped : Step → Row → ℕ → ℕ → Registers → Registers → Type 0
IsJumped (step.Taken displacement) row origin at old new = (new ≡ with_register old (register_of row.rd) (word_address origin at)) × IsTarget row origin at displacement old
IsJumped step.Stays row origin at old new = new ≡ old
IsJumped s row origin at old new = ⊥

-- what came of a trap
abbrev pub IsTrapped : Step → Row → Registers → Type 0
IsTrapped step.Calls row old = address_so Sum row old % 128 ≡ 0x70
IsTrapped step.Stays row old = ⊤
IsTrapped s row old = ⊥

-- an instruction that goes elsewhere was not done
abbrev pub IsStill : Step → Registers → Registers → Type 0
IsStill (step.Taken displacement) old new = new ≡ old
IsStill (step.Jumped displacement) old new = new ≡ old
IsStill s old new = ⊤
