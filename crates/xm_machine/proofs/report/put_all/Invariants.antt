use Rattle.std.proofs.Common.{◌≡◌, drop, map}
use Rattle.xm_report.specs.Report.{line_value}
use Rattle.xm_machine.proofs.OutLemmas.{AreOut}
use Rattle.xm_machine.proofs.report.put_all.Given as goal

abbrev pub invariant-loop-line : goal.invariant-loop-line
invariant-loop-line g l = record {
  out : AreOut (map line_value l.lines) (map line_value (drop l.line-index l.lines)) l.count (g.O.Sink.got l.fn.out) (g.O.Sink.got l.out);
  count : l.count ≡ l.line-index;
  faults : g.O.Sink.faults l.out ≡ g.O.Sink.faults l.fn.out;
}
