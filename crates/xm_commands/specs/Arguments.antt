-- The arguments of a process.
use Rattle.std.specs.Prelude.{ℕ, List, String, drop}
use Rattle.command_line.specs.Texts.{texts_of}

-- the words after the program's name, which is the first argument
abbrev pub after_name : {A : Type 0} → List (String A) → List (List ℕ)
after_name given = drop 1 (texts_of given)
