-- What is done after a report that went out.
use Rattle.std.specs.Prelude.{◌⊎◌, List, None}
use Rattle.uart_board.specs.Views.{BoardView}
use Rattle.file_commands.specs.Ending.{Ending}
use Rattle.file_commands.specs.Outcome.{Output}
use Rattle.file_commands.specs.Work.{Outside, AreNotSaved, SavesAll}
use Rattle.run_commands.specs.Boards.{EndsRun}

-- these files were written, one after another, and the run ends as the board says; or one of them was not
abbrev pub EndsAfter : Ending → List Output → BoardView → Outside → Outside → Type 0
EndsAfter ending outputs board before after = (EndsRun ending board × SavesAll None outputs before after) ⊎ AreNotSaved ending outputs before after
