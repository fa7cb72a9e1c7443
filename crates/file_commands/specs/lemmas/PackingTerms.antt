-- For proofs and private clauses: the outcome of a configuration and the images of its partitions, by the bytes of their files.
use Rattle.std.specs.Prelude.{ℕ, List, codes, Option, Some, None, Result, Err}
use Rattle.file_commands.specs.Denial.{Denial}
use Rattle.file_commands.specs.Packing.{denial}

-- a file that is too long is refused before any other
abbrev pub limited : Option (List ℕ) → Result (List ℕ) Denial → Result (List ℕ) Denial
limited None container = container
limited (Some file) container = Err (denial file (codes "too-long"))
