-- One account of a call: by the same contents, what it did and what it left of the board.
use Rattle.std.specs.Prelude.{ℕ, List, Option}
use Rattle.uart_board.specs.Views.{BoardView}
use Rattle.command_line.specs.Words.{Command}
use Rattle.file_commands.specs.Ending.{Ending}
use Rattle.file_commands.specs.Work.{Outside, Works}
use Rattle.run_commands.specs.Boards.{Plays}

-- a call that ended so has an account: there are contents of the files that it read by which it did what it did to the store and to the report's
-- sink, and left what it left of the board
pub record HasAccount (ending : Ending) (command : Option Command) (before after : Outside) (board left : BoardView) : Type 0 where
  pub contents : List (List ℕ)
  -- what was done to the store and to the report's sink is what the ending says of these contents
  pub works : Works ending contents command before after
  -- what the board of UARTs holds, by the ending and by the same contents
  pub plays : Plays ending contents command before.got after.got board left
