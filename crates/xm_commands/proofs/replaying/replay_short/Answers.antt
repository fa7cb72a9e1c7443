use Rattle.std.proofs.Common.{map}
use Rattle.command_line.specs.Seen.{seen_replay}
use Rattle.file_commands.specs.Outcome.{replay_outcome}
use Rattle.file_commands.specs.EndingValues.{vector_bytes}
use Rattle.xm_commands.proofs.ReplayLemmas.{input_short, unready_outcome, unready_leaves}
use Rattle.xm_commands.proofs.replaying.replay_short.Goals as goal

pub ready_by-requires : goal.ready_by-requires
ready_by-requires g c =
    input_short c.args.container.now c.args.script.now (seen_replay c.args.options) (map vector_bytes c.args.contents.now) c.requires

pub returns-in-Ok-clause-outcome : goal.returns-in-Ok-clause-outcome
unfolding replay_outcome
returns-in-Ok-clause-outcome g c =
    let made = c.in-Ok.ensures in
    let comes = rw c.core.ensures.value at c.play_owned.ensures.outcome in
    rw made.0 comes

pub returns-in-Ok-clause-board : goal.returns-in-Ok-clause-board
unfolding replay_outcome
returns-in-Ok-clause-board g c =
    let made = c.in-Ok.ensures in
    let leaves = rw c.core.ensures.value at c.play_owned.ensures.board in
    rw made.0 leaves

pub returns-in-Err-clause-outcome : goal.returns-in-Err-clause-outcome
unfolding replay_outcome
returns-in-Err-clause-outcome g c =
    let made = c.in-Err.ensures in
    rw c.unready.ensures (unready_outcome c.args.container.now c.args.part c.args.script.now (seen_replay c.args.options) _ _ _ made)

pub returns-in-Err-clause-board : goal.returns-in-Err-clause-board
returns-in-Err-clause-board g c = rw c.unready.ensures (unready_leaves c.args.container.now c.args.part c.args.script.now (seen_replay c.args.options) _ _ _ _ (record { places = _; marks = _ }))
