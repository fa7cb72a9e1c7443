-- When a command is done: nothing stands against it.
use Rattle.std.specs.Prelude.{◌≡◌, ◌⊎◌, ℕ, List, Option, Some, None}
use Rattle.command_line.specs.Words.{Command}
use Rattle.file_commands.specs.Outcome.{inputs_of, outcome_of}
use Rattle.run_commands.specs.Boards.{HasNoMark}
use Rattle.xm_commands.specs.Top.{AreContents, HasNoFault, IsOneAbsent}
use Rattle.xm_commands.specs.World.{World}
use Rattle.file_commands.specs.declared.status.Status.{Status}
use Rattle.file_commands.specs.declared.status.Status.TheVariants.{Done, NoMemory}

-- nothing stands against a command: no count of the store or of the report's sink rose; where the store's files are known, each that the command reads is
-- among them; their contents are not refused; and no place of the board has a mark
pub record IsUnhindered (command : Command) (before after : World) : Type 0 where
  -- no count of the store or of the report's sink rose
  pub faultless : HasNoFault before.disk after.disk
  -- where the store's files are known, each that the command reads is among them
  pub there : IsOneAbsent before.disk.files (inputs_of command) → ⊥
  -- their contents are not refused
  pub granted : (contents : List (List ℕ)) → AreContents before.disk.files command contents → (outcome_of command contents).denial ≡ None
  -- no place of the board has a mark
  pub unmarked : HasNoMark after.board

-- such a command is done, or memory ran out
abbrev pub Completes : Status → Option Command → World → World → Type 0
Completes status None before after = Unit {0}
Completes status (Some command) before after = IsUnhindered command before after → (status ≡ Done) ⊎ (status ≡ NoMemory)
