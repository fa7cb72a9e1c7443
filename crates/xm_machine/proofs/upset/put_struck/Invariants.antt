use Rattle.std.proofs.Common.{◌≡◌, drop, map}
use Rattle.upset_model.specs.Reports.{struck_line}
use Rattle.xm_machine.proofs.OutLemmas.{AreOut}
use Rattle.xm_machine.proofs.upset.put_struck.Given as goal

abbrev pub invariant-loop-line : goal.invariant-loop-line
invariant-loop-line g l = record {
  out : AreOut (map struck_line l.lines) (map struck_line (drop l.line-index l.lines)) l.count (g.O.Sink.got l.fn.out) (g.O.Sink.got l.out);
  count : l.count ≡ l.line-index;
  faults : g.O.Sink.faults l.out ≡ g.O.Sink.faults l.fn.out;
}
