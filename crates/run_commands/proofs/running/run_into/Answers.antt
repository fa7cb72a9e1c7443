use Rattle.std.proofs.Common.{◌++◌, map}
use Rattle.command_line.specs.Seen.{seen_files}
use Rattle.continuation_laws.specs.Onward.{coming}
use Rattle.file_commands.specs.Outcome.{core_outputs}
use Rattle.file_commands.specs.EndingValues.{ending_of}
use Rattle.run_commands.specs.lemmas.Made.{made_output}
use Rattle.run_commands.specs.lemmas.BoardLemmas.{left_by_ending, left_cut}
use Rattle.run_commands.specs.lemmas.CoreLemmas.{run_fits, run_inside}
use Rattle.run_commands.proofs.WorkLemmas.{run_and_after, unwritten}
use Rattle.upset_model.specs.Places.{upsets_of}
use Rattle.run_commands.proofs.running.run_into.Goals as goal

pub write_later-requires-clause-inside : goal.write_later-requires-clause-inside
write_later-requires-clause-inside g c =
    run_inside c.keeps_numbers.ensures.runs (upsets_of (coming c.args.upsets.now c.args.machine.now.state)) c.args.machine.now.state c.run_struck.new.self.state c.args.ticks (seen_files c.args.cores) c.in-Ok.ensures.run.state c.requires.inside

pub write_later-requires-clause-room : goal.write_later-requires-clause-room
write_later-requires-clause-room g c =
    run_fits c.keeps_numbers.ensures.runs (upsets_of (coming c.args.upsets.now c.args.machine.now.state)) c.args.machine.now.state c.run_struck.new.self.state c.args.ticks _ (seen_files c.args.cores) c.in-Ok.ensures.run.state c.requires.room

pub returns-in-Ok-clause-outcome : goal.returns-in-Ok-clause-outcome
returns-in-Ok-clause-outcome g c =
    let saved = c.write_later.ensures (g.O.Sink.got c.run_struck.new.out) (g.O.Sink.faults c.run_struck.new.out) in
    run_and_after (ending_of c.ended.result) (record { places = _; marks = _ }) c.in-Ok.field-0 c.args.upsets.now c.args.ticks (seen_files c.args.cores) (map made_output c.args.made.now) c.args.machine.now.state c.run_struck.new.self.state _ _ _ _ _ _ _ _ _
    (c.ended.ensures (core_outputs c.run_struck.new.self.state (seen_files c.args.cores) ++ map made_output c.args.made.now) _ _ saved) c.in-Ok.ensures.run c.in-Ok.ensures.cause

pub returns-in-Ok-clause-board : goal.returns-in-Ok-clause-board
returns-in-Ok-clause-board g c =
    let saved = c.write_later.ensures (g.O.Sink.got c.run_struck.new.out) (g.O.Sink.faults c.run_struck.new.out) in
    left_by_ending (ending_of c.ended.result) (core_outputs c.run_struck.new.self.state (seen_files c.args.cores) ++ map made_output c.args.made.now) _ _ c.in-Ok.field-0 c.args.upsets.now c.args.ticks (seen_files c.args.cores) (map made_output c.args.made.now) c.args.machine.now.state c.run_struck.new.self.state _ _ (record { places = _; marks = _ }) (record { places = _; marks = _ }) (record { places = _; marks = _ })
    (c.ended.ensures (core_outputs c.run_struck.new.self.state (seen_files c.args.cores) ++ map made_output c.args.made.now) _ _ saved) c.in-Ok.ensures.run c.begin.ensures.view

pub returns-in-Err-clause-outcome : goal.returns-in-Err-clause-outcome
returns-in-Err-clause-outcome g c =
    unwritten c.in-Err.field-0 c.args.upsets.now c.args.ticks (seen_files c.args.cores) (map made_output c.args.made.now) c.args.machine.now.state _ _ _ _ _ _ _ _ _ c.in-Err.ensures.run c.in-Err.ensures.cause

pub returns-in-Err-clause-board : goal.returns-in-Err-clause-board
returns-in-Err-clause-board g c =
    left_cut c.in-Err.field-0 c.args.upsets.now c.args.ticks (seen_files c.args.cores) (map made_output c.args.made.now) c.args.machine.now.state _ _ _ (record { places = _; marks = _ }) (record { places = _; marks = _ }) (record { places = _; marks = _ }) c.in-Err.ensures.run c.begin.ensures.view
