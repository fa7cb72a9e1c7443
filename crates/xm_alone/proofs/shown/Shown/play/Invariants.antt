use Rattle.std.proofs.Common.{◌≡◌, length}
use Rattle.uart_board.specs.contracts.views.BoardViewBoard.TheImpl.{ghosts}
use Rattle.xm_alone.specs.Kept.{AreSized, ticks_in}
use Rattle.xm_alone.proofs.ShownLemmas.{IsShowing}
use Rattle.xm_alone.proofs.shown.Shown.play.Given as goal

abbrev pub invariant-loop-tick : goal.invariant-loop-tick
invariant-loop-tick g l = record {
  sized : AreSized l.rest.ticks.now l.rest.text.now l.rest.said.now;
  showing : IsShowing l.console l.self (ticks_in l.rest.ticks.now l.rest.text.now l.rest.said.now) (g.O.Sink.got l.fn.out) (g.O.Sink.got l.out) ((ghosts (g.dyn-1.0, g.dyn-1.1)).board_view l.fn.board) ((ghosts (g.dyn-1.0, g.dyn-1.1)).board_view l.board);
  faults : g.O.Sink.faults l.out ≡ g.O.Sink.faults l.fn.out;
}

abbrev pub decreases-loop-tick : goal.decreases-loop-tick
decreases-loop-tick g l = length l.rest.ticks.now
