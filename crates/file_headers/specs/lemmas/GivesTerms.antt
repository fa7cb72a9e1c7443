-- For proofs and private clauses: what a reader of a file answers, against what reading gives.
use Rattle.std.specs.Prelude.{◌≡◌, Result, Ok, Err}
use Rattle.xm_base.specs.Cursor.{Place}

-- the same for a cursor, which stands after what was read
abbrev pub IsReadAt : {X Y F : Type 0} → (X → Y) → Result X F → Place → Result (Y × Place) F → Type 0
IsReadAt view (Ok value) place read = read ≡ Ok (view value, place)
IsReadAt view (Err fault) place read = read ≡ Err fault

-- the same for a cursor
abbrev pub GivesAt : {X Y F : Type 0} → (F → Result (Y × Place) F → Type 0) → (X → Y) → Result X F → Place → Result (Y × Place) F → Type 0
GivesAt Fails view (Ok value) place read = read ≡ Ok (view value, place)
GivesAt Fails view (Err fault) place read = Fails fault read
