-- All that is outside of the program, in one value.
use Rattle.std.specs.Prelude.{ℕ, List, Option}
use Rattle.uart_board.specs.Views.{BoardView}
use Rattle.xm_outside.specs.Files.{Files}
use Rattle.file_commands.specs.Work.{Outside, outside}

-- what a sink got, where that is known, and how many of its writes failed
pub record SinkView : Type 0 where
  pub got : Option (List ℕ)
  pub faults : ℕ

abbrev pub sink_view : Option (List ℕ) → ℕ → SinkView
sink_view got faults = record { got = got; faults = faults }

-- the store with the report's sink, the error output, and the board of UARTs
pub record World : Type 0 where
  pub disk : Outside
  pub errors : SinkView
  pub board : BoardView

-- the world of these views: those of the store, of the report, of the error output, and of the board
abbrev pub world : Option Files → ℕ → ℕ → ℕ → SinkView → SinkView → BoardView → World
world files read_faults write_faults calls report errors board = record {
  disk = outside files read_faults write_faults calls report.got report.faults;
  errors = errors;
  board = board;
}
