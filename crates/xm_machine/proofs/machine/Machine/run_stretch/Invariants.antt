use Rattle.std.proofs.Common.{◌≡◌, ◌-◌}
use Rattle.uart_board.specs.contracts.views.BoardViewBoard.TheImpl.{ghosts}
use Rattle.xm_machine.specs.Heard.{IsRunHeard}
use Rattle.tick_steps.specs.Machine.{IsCounted}
use Rattle.xm_machine.proofs.StretchLemmas.{GoesStretch}
use Rattle.xm_machine.proofs.machine.Machine.run_stretch.Given as goal

abbrev pub invariant-loop-ends : goal.invariant-loop-ends
invariant-loop-ends g l = record {
  goes : GoesStretch l.ticks l.lines l.ends l.left l.fn.self l.self (g.O.Sink.got l.fn.out) (g.O.Sink.got l.out);
  faults : g.O.Sink.faults l.out ≡ g.O.Sink.faults l.fn.out;
  heard : IsRunHeard l.fn.self.state l.self.state ((ghosts (g.dyn-1.0, g.dyn-1.1)).board_view l.fn.board) ((ghosts (g.dyn-1.0, g.dyn-1.1)).board_view l.board);
  counted : IsCounted l.self.state;
}

abbrev pub decreases-loop-ends : goal.decreases-loop-ends
decreases-loop-ends g l = l.left - l.ticks
