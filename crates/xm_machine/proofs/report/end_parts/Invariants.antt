use Rattle.std.proofs.Common.{◌≡◌, ◌-◌, ◌≤◌, [], ◌∷◌, drop, length}
use Rattle.machine_model.specs.Lines.{end_line}
use Rattle.machine_model.specs.Lists.{all_of}
use Rattle.xm_machine.proofs.OutLemmas.{AreOut, ends_from}
use Rattle.xm_machine.proofs.report.end_parts.Given as goal

abbrev pub invariant-loop-p : goal.invariant-loop-p
invariant-loop-p g l = record {
  out : AreOut (all_of (λ p ps. end_line p ps ∷ []) l.sys.machine.parts) (ends_from l.p (drop l.p l.sys.machine.parts)) l.p (g.O.Sink.got l.fn.out) (g.O.Sink.got l.out);
  within : l.p ≤ length l.sys.machine.parts;
  faults : g.O.Sink.faults l.out ≡ g.O.Sink.faults l.fn.out;
}

abbrev pub decreases-loop-p : goal.decreases-loop-p
decreases-loop-p g l = length l.sys.machine.parts - l.p
