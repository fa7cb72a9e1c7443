-- For proofs and private clauses: a fault as that of another format.
use Rattle.std.specs.Prelude.{Result, Ok, Err}

-- what was read, with its fault as another one
abbrev pub lifted : {A F G : Type 0} → (F → G) → Result A F → Result A G
lifted to (Ok value) = Ok value
lifted to (Err fault) = Err (to fault)
