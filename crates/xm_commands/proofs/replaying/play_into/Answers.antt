use Rattle.std.proofs.Common.{map, option_copied}
use Rattle.recording_model.specs.Lone.{booted_alone}
use Rattle.file_commands.specs.Outcome.{name_if_any}
use Rattle.file_commands.specs.EndingValues.{ending_of}
use Rattle.xm_commands.specs.lemmas.Replaying.{lone_output}
use Rattle.xm_commands.proofs.ReplayLemmas.{after_replay, cut_outcome, lone_after, lone_cut}
use Rattle.xm_commands.proofs.replaying.play_into.Goals as goal

pub returns-in-Ok-clause-outcome : goal.returns-in-Ok-clause-outcome
returns-in-Ok-clause-outcome g c =
    let saved = c.write_lone_core.ensures (g.O.Sink.got c.show.new.out) (g.O.Sink.faults c.show.new.out) in
    after_replay (ending_of c.ended.result) (record { places = _; marks = _ }) (booted_alone c.args.alone.now.system c.args.alone.now.p) c.show.new.alone c.args.upsets.now c.args.script.now (option_copied c.args.core) _ _ _ _ _ _ _ _ (record { places = _; marks = _ }) (record { places = _; marks = _ }) _ c.in-Ok.ensures.replay c.in-Ok.ensures.cause
    (c.ended.ensures (map (lone_output c.show.new.alone) (name_if_any (option_copied c.args.core))) _ _ saved)

pub returns-in-Ok-clause-board : goal.returns-in-Ok-clause-board
returns-in-Ok-clause-board g c =
    let saved = c.write_lone_core.ensures (g.O.Sink.got c.show.new.out) (g.O.Sink.faults c.show.new.out) in
    lone_after (ending_of c.ended.result) (map (lone_output c.show.new.alone) (name_if_any (option_copied c.args.core))) _ _ (booted_alone c.args.alone.now.system c.args.alone.now.p) c.show.new.alone c.args.upsets.now c.args.script.now (option_copied c.args.core) _ _ (record { places = _; marks = _ }) (record { places = _; marks = _ }) (record { places = _; marks = _ })
    (c.ended.ensures (map (lone_output c.show.new.alone) (name_if_any (option_copied c.args.core))) _ _ saved) c.in-Ok.ensures.replay c.begin.ensures.view

pub returns-in-Err-clause-outcome : goal.returns-in-Err-clause-outcome
returns-in-Err-clause-outcome g c = cut_outcome (booted_alone c.args.alone.now.system c.args.alone.now.p) c.args.upsets.now c.args.script.now (option_copied c.args.core) _ _ _ _ _ _ _ _ (record { places = _; marks = _ }) (record { places = _; marks = _ }) c.in-Err.ensures.replay c.in-Err.ensures.cause

pub returns-in-Err-clause-board : goal.returns-in-Err-clause-board
returns-in-Err-clause-board g c = lone_cut (booted_alone c.args.alone.now.system c.args.alone.now.p) c.args.upsets.now c.args.script.now (option_copied c.args.core) _ _ (record { places = _; marks = _ }) (record { places = _; marks = _ }) (record { places = _; marks = _ }) c.in-Err.ensures.replay c.begin.ensures.view
