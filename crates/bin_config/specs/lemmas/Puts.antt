-- What a call that writes leaves.
use Rattle.std.specs.Prelude.{◌≡◌, ⊤, List, ◌++◌, ℕ, Result, Ok, Err}
use Rattle.std.specs.Borrow.{Bor}

-- the bytes grew by a piece; where memory runs out nothing is said
abbrev pub Puts : {T E : Type 0} → Result T E → List ℕ → List ℕ → List ℕ → Type 0
Puts (Ok _) old new piece = new ≡ old ++ piece
Puts (Err _) old new piece = ⊤

-- an element was put by a call that did not fail
pub record WasPut {B T R F : Type 0} (called : B → Bor T → Result R F → B → Type 0) (element : T) : Type 0 where
  pub old : B
  pub shown : Bor T
  pub given : R
  pub new : B
  pub met : called old shown (Ok given) new
  pub is : shown.now ≡ element
