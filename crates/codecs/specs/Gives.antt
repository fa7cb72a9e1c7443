-- What a reader with a cursor answers, against what a format reads there.
use Rattle.std.specs.Prelude.{◌≡◌, ◌⊎◌, Result, Ok, Err}
use Rattle.xm_base.specs.Cursor.{Place}

-- what was answered is what is read, with the cursor after it; a fault may be the one for being out of memory, too
abbrev pub ReadsOr : {X Y F : Type 0} → F → (X → Y) → Result X F → Place → Result (Y × Place) F → Type 0
ReadsOr memory view (Ok value) place read = read ≡ Ok (view value, place)
ReadsOr memory view (Err fault) place read = (fault ≡ memory) ⊎ (read ≡ Err fault)
