use Rattle.std.proofs.Common.{◌≡◌}
use Rattle.uart_board.specs.contracts.views.BoardViewBoard.TheImpl.{ghosts}
use Rattle.xm_machine.specs.Heard.{IsRunHeard}
use Rattle.xm_machine.specs.lemmas.CuesTerms.{KeepsUpTo}
use Rattle.xm_machine.proofs.GoingLemmas.{Goes, to_come}
use Rattle.xm_machine.proofs.machine.Machine.run_ticks.Given as goal

abbrev pub invariant-loop-self : goal.invariant-loop-self
invariant-loop-self g l = record {
  goes : Goes l.printed l.ticks l.fn.self.state l.self.state (g.O.Sink.got l.fn.out) (g.O.Sink.got l.out);
  kept : KeepsUpTo l.ticks l.fn.self l.self;
  faults : g.O.Sink.faults l.out ≡ g.O.Sink.faults l.fn.out;
  heard : IsRunHeard l.fn.self.state l.self.state ((ghosts (g.dyn-1.0, g.dyn-1.1)).board_view l.fn.board) ((ghosts (g.dyn-1.0, g.dyn-1.1)).board_view l.board);
}

abbrev pub decreases-loop-self : goal.decreases-loop-self
decreases-loop-self g l = to_come l.end l.self.state
