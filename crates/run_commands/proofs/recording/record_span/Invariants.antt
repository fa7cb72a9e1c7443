-- The recordings so far have the span.
use Rattle.run_commands.proofs.RunLemmas.{AreSpanned}
use Rattle.run_commands.proofs.recording.record_span.Given as goal

abbrev pub invariant-loop-recording : goal.invariant-loop-recording
invariant-loop-recording l = AreSpanned l.ticks l.machine l.recording-index l.fn.recordings l.recordings
