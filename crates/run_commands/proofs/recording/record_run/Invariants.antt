-- What was done of the run is recorded, and the upsets of the ticks that are not done are to come.
use Rattle.std.specs.Prelude.{◌+◌, ◌-◌}
use Rattle.continuation_laws.specs.Onward.{coming}
use Rattle.upset_model.specs.Places.{upsets_of}
use Rattle.run_commands.proofs.RunLemmas.{AreComing, AreRecorded}
use Rattle.run_commands.proofs.recording.record_run.Given as goal

abbrev pub invariant-loop-done : goal.invariant-loop-done
invariant-loop-done l = record {
  recorded : AreRecorded (upsets_of (coming l.upsets l.fn.machine.state)) l.fn.machine.state l.ticks l.done l.machine.state l.fn.recordings l.recordings;
  comes : AreComing l.upsets (l.fn.machine.state.ticks + l.done) l.coming;
}

abbrev pub decreases-loop-done : goal.decreases-loop-done
decreases-loop-done l = l.ticks - l.done
