-- The core files that a run writes.
use Rattle.std.specs.Prelude.{ℕ, ◌<◌, ◌≤◌, List, [], ◌∷◌}
use Rattle.core_files.specs.Length.{core_length_of}
use Rattle.machine_model.specs.View.{System, view_of}
use Rattle.command_line.specs.Words.{PartFile}

-- each of the files is for one of this many partitions
abbrev pub AreForPartitions : ℕ → List PartFile → Type 0
AreForPartitions parts [] = Unit {0}
AreForPartitions parts (named ∷ files) = (named.part < parts) × AreForPartitions parts files

-- the core file of each of these partitions has at most this many bytes
abbrev pub FitInto : System → ℕ → List PartFile → Type 0
FitInto system most [] = Unit {0}
FitInto system most (named ∷ files) = (core_length_of (view_of system named.part) ≤ most) × FitInto system most files
