use Rattle.std.proofs.Common.{◌≡◌}
use Rattle.uart_board.specs.contracts.views.BoardViewBoard.TheImpl.{ghosts}
use Rattle.xm_machine.proofs.GoingLemmas.{to_come}
use Rattle.xm_machine.proofs.StruckLemmas.{GoesStruck}
use Rattle.xm_machine.proofs.machine.Machine.struck_ticks.Given as goal

abbrev pub invariant-loop-self : goal.invariant-loop-self
invariant-loop-self g l = record {
  goes : GoesStruck l.printed l.ticks l.upsets l.coming l.fn.self.state l.self.state (g.O.Sink.got l.fn.out) (g.O.Sink.got l.out) ((ghosts (g.dyn-1.0, g.dyn-1.1)).board_view l.fn.board) ((ghosts (g.dyn-1.0, g.dyn-1.1)).board_view l.board);
  faults : g.O.Sink.faults l.out ≡ g.O.Sink.faults l.fn.out;
}

abbrev pub decreases-loop-self : goal.decreases-loop-self
decreases-loop-self g l = to_come l.end l.self.state
