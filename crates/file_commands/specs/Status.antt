-- The exit statuses.
use Rattle.std.specs.Prelude.{◌≡◌, ℕ, List, [], ◌∷◌, Some, slice_get}
use Rattle.file_commands.specs.declared.status.Status.{Status}
use Rattle.file_commands.specs.declared.status.Status.TheVariants.{Done, Refused, Usage, ReadFault, WriteFault, UartFault, NoMemory}

-- how calls end, in the order of their exit statuses, which count from 0
abbrev pub statuses : List Status
statuses = Done ∷ Refused ∷ Usage ∷ ReadFault ∷ WriteFault ∷ UartFault ∷ NoMemory ∷ []

-- the exit status of a call: its place among them
abbrev pub IsCodeOf : Status → ℕ → Type 0
IsCodeOf status code = slice_get statuses code ≡ Some status
