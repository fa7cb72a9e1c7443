use Rattle.std.proofs.Common.{◌≡◌, length}
use Rattle.xm_alone.specs.lemmas.Cues.{cues_left}
use Rattle.xm_alone.proofs.cues.Cues.next.Given as goal

abbrev pub invariant-loop-rest : goal.invariant-loop-rest
invariant-loop-rest l = cues_left l.rest ≡ cues_left l.self

abbrev pub decreases-loop-rest : goal.decreases-loop-rest
decreases-loop-rest l = length l.rest.entries.now
