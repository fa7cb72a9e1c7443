use Rattle.std.proofs.Common.{◌≡◌}
use Rattle.uart_board.specs.contracts.views.BoardViewBoard.TheImpl.{ghosts}
use Rattle.xm_commands.proofs.FileBoardLemmas.{filled}
use Rattle.xm_commands.proofs.edge.on_files.OwnLists.{lawful-own-1, own-1}
use Rattle.xm_commands.proofs.edge.on_files.Given as goal

abbrev pub invariant-loop-place : goal.invariant-loop-place
invariant-loop-place g l = (ghosts (own-1, lawful-own-1)).board_view l.board ≡ filled l.place
