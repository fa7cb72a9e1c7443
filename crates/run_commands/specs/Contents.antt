-- The contents of files in a world without faults.
use Rattle.std.specs.Prelude.{ℕ, List, [], ◌∷◌, Option, Some, None, Result, Ok, Err}
use Rattle.std.specs.FinMap.{get}
use Rattle.xm_outside.specs.Files.{Files}

-- a file's content before those of others, or the first file that is not there
abbrev pub read_before : List ℕ → Option (List ℕ) → Result (List (List ℕ)) (List ℕ) → Result (List (List ℕ)) (List ℕ)
read_before file None rest = Err file
read_before file (Some bytes) (Ok contents) = Ok (bytes ∷ contents)
read_before file (Some bytes) (Err absent) = Err absent

-- the contents of files, or the first of them that is not there
abbrev pub read_all : Files → List (List ℕ) → Result (List (List ℕ)) (List ℕ)
read_all files [] = Ok []
read_all files (file ∷ others) = read_before file (get files file) (read_all files others)
