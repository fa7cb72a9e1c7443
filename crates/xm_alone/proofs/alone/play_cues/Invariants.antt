use Rattle.std.proofs.Common.{◌≡◌, length}
use Rattle.uart_board.specs.contracts.views.BoardViewBoard.TheImpl.{ghosts}
use Rattle.xm_alone.specs.lemmas.Cues.{cues_left}
use Rattle.xm_alone.proofs.ComingLemmas.{AreComing}
use Rattle.xm_alone.proofs.PlayLemmas.{IsPlaying}
use Rattle.xm_alone.proofs.alone.play_cues.Given as goal

abbrev pub invariant-loop-next : goal.invariant-loop-next
invariant-loop-next g l = record {
  playing : IsPlaying l.upsets l.p l.tick l.script (cues_left l.rest) l.fn.machine.state l.machine.state (g.O.Sink.got l.fn.out) (g.O.Sink.got l.out) ((ghosts (g.dyn-1.0, g.dyn-1.1)).board_view l.fn.board) ((ghosts (g.dyn-1.0, g.dyn-1.1)).board_view l.board);
  coming : AreComing l.upsets l.tick l.coming;
  faults : g.O.Sink.faults l.out ≡ g.O.Sink.faults l.fn.out;
}

abbrev pub decreases-loop-next : goal.decreases-loop-next
decreases-loop-next g l = length (cues_left l.rest)
