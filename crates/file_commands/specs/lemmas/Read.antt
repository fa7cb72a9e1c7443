-- Files that are read one after another.
use Rattle.std.specs.Prelude.{◌≡◌, ℕ, List, ◌++◌, Result, Ok, Err}
use Rattle.file_commands.specs.EndingValues.{ending_of}
use Rattle.file_commands.specs.Work.{Outside, AreNotRead, ReadsFiles, called_for}
use Rattle.file_commands.specs.declared.ending.Ending as code

-- of all files the first were read, with these contents, and the rest are still to be read
pub record HasRead (all rest contents : List (List ℕ)) (before now : Outside) : Type 0 where
  pub first : List (List ℕ)
  pub named : all ≡ first ++ rest
  pub read : ReadsFiles before.files first contents
  pub outside : now ≡ called_for first before

-- the next one was read, too, or the call ends without it
abbrev pub HasReadNext : {T : Type 0} → Result T code.Ending → (all rest contents : List (List ℕ)) → Outside → Outside → Type 0
HasReadNext (Ok done) all rest contents before now = HasRead all rest contents before now
HasReadNext (Err ending) all rest contents before now = AreNotRead (ending_of ending) all before now
