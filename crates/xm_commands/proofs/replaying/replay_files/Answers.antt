use Rattle.std.proofs.Common.{map, codes, sym}
use Rattle.command_line.specs.Seen.{seen_replay}
use Rattle.command_line.specs.Words.{Replay}
use Rattle.file_commands.specs.EndingValues.{vector_bytes}
use Rattle.file_commands.specs.lemmas.CommandLemmas.{outcome-long, outcome-short, refused_outcome}
use Rattle.xm_commands.proofs.ReplayLemmas.{long_named}
use Rattle.xm_commands.proofs.replaying.replay_files.Goals as goal

pub returns-in-Some-clause-outcome : goal.returns-in-Some-clause-outcome
returns-in-Some-clause-outcome g c =
    let command = Replay c.args.container.now c.args.part c.args.script.now (seen_replay c.args.options) in
    let long = long_named c.args.container.now c.args.script.now _ _ (seen_replay c.args.options) (map vector_bytes c.args.contents.now) _ c.input.ensures.value c.upsets.ensures.value c.in-Some.ensures.value in
    rw (outcome-long command (map vector_bytes c.args.contents.now) c.in-Some.file.now (sym long)) (refused_outcome c.in-Some.file.now (codes "too-long") _)

pub returns-in-None-clause-outcome : goal.returns-in-None-clause-outcome
returns-in-None-clause-outcome g c =
    let command = Replay c.args.container.now c.args.part c.args.script.now (seen_replay c.args.options) in
    let short = long_named c.args.container.now c.args.script.now _ _ (seen_replay c.args.options) (map vector_bytes c.args.contents.now) _ c.input.ensures.value c.upsets.ensures.value c.in-None.ensures.value in
    rw (outcome-short command (map vector_bytes c.args.contents.now) (sym short)) c.replay_short.ensures.outcome

pub returns-in-None-clause-board : goal.returns-in-None-clause-board
returns-in-None-clause-board g c =
    let command = Replay c.args.container.now c.args.part c.args.script.now (seen_replay c.args.options) in
    let short = long_named c.args.container.now c.args.script.now _ _ (seen_replay c.args.options) (map vector_bytes c.args.contents.now) _ c.input.ensures.value c.upsets.ensures.value c.in-None.ensures.value in
    rw (outcome-short command (map vector_bytes c.args.contents.now) (sym short)) c.replay_short.ensures.board
