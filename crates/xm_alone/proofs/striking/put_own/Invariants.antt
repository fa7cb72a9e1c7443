use Rattle.std.proofs.Common.{◌≡◌, drop}
use Rattle.xm_alone.proofs.ComingLemmas.{AreOut}
use Rattle.xm_alone.proofs.striking.put_own.Given as goal

abbrev pub invariant-loop-line : goal.invariant-loop-line
invariant-loop-line g l = record {
  out : AreOut l.p l.upsets (drop l.line-index l.upsets) (g.O.Sink.got l.fn.out) (g.O.Sink.got l.out);
  faults : g.O.Sink.faults l.out ≡ g.O.Sink.faults l.fn.out;
}
