use Rattle.std.specs.Prelude.{length}
use Rattle.upset_files.proofs.LoopLemmas.{AreLeft}
use Rattle.upset_files.specs.declared.reading.TheConstants.{UPSETS}
use Rattle.upset_files.proofs.reading.lines.Given as goal

abbrev pub invariant-loop-rest : goal.invariant-loop-rest
invariant-loop-rest l = AreLeft UPSETS l.conf l.begun l.ticks l.lines.items l.before l.rest l.text

abbrev pub decreases-loop-rest : goal.decreases-loop-rest
decreases-loop-rest l = length l.rest
