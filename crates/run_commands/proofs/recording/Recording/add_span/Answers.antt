use Rattle.tick_steps.specs.CueValues.{cue_value}
use Rattle.run_commands.proofs.RunLemmas.{bare_has, bare_written}
use Rattle.run_commands.proofs.recording.Recording.add_span.Goals as goal

pub returns-in-Some-clause-written : goal.returns-in-Some-clause-written
returns-in-Some-clause-written c =
    λ cues is. bare_written c.add_alike.result c.args.ticks c.in-Some.own (cue_value c.args.last) cues c.add_alike.new.self c.requires.some c.in-Some.ensures (c.add_alike.ensures.written cues is)

pub returns-in-Some-clause-numbers : goal.returns-in-Some-clause-numbers
returns-in-Some-clause-numbers c = bare_has c.add_alike.result c.in-Some.own (cue_value c.args.last) c.in-Some.ensures
