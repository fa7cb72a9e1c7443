-- The outcome of a call by its arguments, whatever the store, the sinks and the UARTs answer.
use Rattle.std.specs.Prelude.{◌≡◌, ◌⊎◌, ℕ, List}
use Rattle.xm_commands.specs.Page.{IsAnswer}
use Rattle.xm_commands.specs.World.{World}
use Rattle.file_commands.specs.declared.status.Status.{Status}
use Rattle.file_commands.specs.declared.status.Status.TheVariants.{NoMemory}

-- out of memory for the words or for the UARTs: nothing was done, and no line went out
pub record HadNoWords (status : Status) (before after : World) : Type 0 where
  -- the status is NoMemory
  pub starved : status ≡ NoMemory
  -- nothing was done, and no line went out
  pub unchanged : after ≡ before

-- the call ran out of memory for these words, or the status answers them
abbrev pub IsCall : Status → List (List ℕ) → World → World → Type 0
IsCall status words before after = HadNoWords status before after ⊎ IsAnswer status words before after
