-- How a call ends that made nothing of a file.
use Rattle.std.specs.Prelude.{◌≡◌, ℕ, List}
use Rattle.std.specs.String.{string_bytes}
use Rattle.builders.specs.declared.unmade.Unmade.{Unmade}
use Rattle.builders.specs.declared.unmade.Unmade.TheVariants as unmade
use Rattle.file_commands.specs.Ending.{Ending, Refused, NoMemory}

-- how a call ends that made nothing of a file
abbrev pub IsUnmadeOf : Ending → List ℕ → Unmade → Type 0
IsUnmadeOf ending file (unmade.Refused text) = ending ≡ Refused file (string_bytes text)
IsUnmadeOf ending file unmade.Memory = ending ≡ NoMemory
