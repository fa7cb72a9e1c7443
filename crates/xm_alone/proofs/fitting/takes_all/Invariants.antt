use Rattle.std.proofs.Common.{length}
use Rattle.xm_alone.specs.lemmas.Cues.{cues_left}
use Rattle.xm_alone.proofs.ComingLemmas.{AreComing}
use Rattle.xm_alone.proofs.KeptLemmas.{IsKeeping}
use Rattle.xm_alone.proofs.fitting.takes_all.Given as goal

abbrev pub invariant-loop-next : goal.invariant-loop-next
invariant-loop-next l = record {
  keeping : IsKeeping l.upsets l.p l.tick l.script (cues_left l.rest) l.fn.machine.state l.machine.state l.kept;
  coming : AreComing l.upsets l.tick l.coming;
}

abbrev pub decreases-loop-next : goal.decreases-loop-next
decreases-loop-next l = length (cues_left l.rest)
