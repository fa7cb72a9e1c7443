use Rattle.std.proofs.Common.{get_or, refl, arith}
use Rattle.tick_steps.specs.CueValues.{cue_value}
use Rattle.run_commands.proofs.RunLemmas.{one_spanned, parts_kept}
use Rattle.run_commands.proofs.recording.record_span.Goals as goal

pub returns-in_err-add_span-clause-partitions : goal.returns-in_err-add_span-clause-partitions
returns-in_err-add_span-clause-partitions c =
    parts_kept c.args.ticks c.args.machine.now c.loop-recording.recording-index c.args.recordings.now c.loop-recording.recordings
    c.recording-item.result (get_or c.loop-recording.recordings c.loop-recording.recording-index c.recording-item.result) c.add_span.new.self
    c.loop-recording.invariant refl c.in_err-add_span.ensures.partition

pub loop-recording-preserved : goal.loop-recording-preserved
loop-recording-preserved c =
    one_spanned c.args.ticks c.args.machine.now c.loop-recording.recording-index c.args.recordings.now c.loop-recording.recordings
    c.recording-item.result (get_or c.loop-recording.recordings c.loop-recording.recording-index c.recording-item.result) c.add_span.new.self (cue_value c.cue.result)
    (omega (arith, c.loop-recording-test.true, c.loop-recording.auto.recordings)) c.loop-recording.auto.recordings c.loop-recording.invariant refl c.requires.inside c.cue.ensures
    c.in_ok-add_span.ensures.partition c.in_ok-add_span.ensures.written c.in_ok-add_span.ensures.numbers
