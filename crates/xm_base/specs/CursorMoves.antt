-- How a cursor moves as it is read.
use Rattle.std.specs.Prelude.{◌≡◌, ℕ, ◌<◌, ◌≤◌, Result, Ok, Err}
use Rattle.xm_base.specs.Cursor.{Place, left, past}
use Rattle.xm_base.specs.declared.cursor.Short.{Short}

-- this many bytes are there, and the cursor is past them
pub record IsPast (count : ℕ) (old new : Place) : Type 0 where
  pub enough : count ≤ left old
  pub moved : new ≡ past count old

-- fewer bytes are left than asked: the answer has the cursor's place, and the cursor stays
pub record FallsShort (count : ℕ) (old new : Place) (short : Short) : Type 0 where
  pub few : left old < count
  pub place : short.at ≡ old.at
  pub stays : new ≡ old

-- what a read of this many bytes does to the cursor
abbrev pub Moves : {T : Type 0} → ℕ → Place → Place → Result T Short → Type 0
Moves count old new (Ok _) = IsPast count old new
Moves count old new (Err short) = FallsShort count old new short
