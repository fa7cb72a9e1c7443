use Rattle.std.proofs.Common.{ℕ, ◌<◌, IsNone}
use Rattle.uart_board.specs.Views.{mark_at}
use Rattle.uart_board.proofs.board.Board.failed.Given as goal

abbrev pub invariant-loop-place : goal.invariant-loop-place
invariant-loop-place g l = (lower : ℕ) → lower < l.place → IsNone (mark_at lower l.self.marks)
