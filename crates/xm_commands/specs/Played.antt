-- What a call of a command marks on the board of UARTs.
use Rattle.std.specs.Prelude.{ℕ, IsSome}
use Rattle.uart_board.specs.Views.{BoardView, mark_at}

-- some place has a mark
pub record IsMarked (board : BoardView) : Type 0 where
  pub place : ℕ
  pub marked : IsSome (mark_at place board.marks)
