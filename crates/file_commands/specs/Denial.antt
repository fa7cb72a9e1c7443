-- Why a command is refused.
use Rattle.std.specs.Prelude.{ℕ, List}

-- why a command is refused: the file that is named, and the text
pub record Denial : Type 0 where
  pub file : List ℕ
  pub text : List ℕ
