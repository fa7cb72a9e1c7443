use Rattle.std.proofs.Common.{map}
use Rattle.command_line.specs.Seen.{seen_replay}
use Rattle.command_line.specs.Words.{Replay}
use Rattle.file_commands.specs.EndingValues.{vector_bytes, ending_of}
use Rattle.run_commands.specs.lemmas.AccountLemmas.{accounted_by, accounted_unread}
use Rattle.file_commands.specs.lemmas.CommandLemmas.{outcome_from}
use Rattle.xm_commands.proofs.replaying.replay_container.Goals as goal

pub returns-in-Ok : goal.returns-in-Ok
returns-in-Ok g c =
    let command = Replay c.args.container.now c.args.part c.args.script.now (seen_replay c.args.options) in
    let ending = ending_of c.replay_files.result in
    let contents = map vector_bytes c.in-Ok.contents.items in
    let read = rw (c.input.ensures.value, c.upsets.ensures.value) at c.in-Ok.ensures (g.O.Sink.got c.args.out.now) (g.O.Sink.faults c.args.out.now) in
    let comes = rw c.deref.ensures.value at c.replay_files.ensures.outcome in
    let leaves = rw c.deref.ensures.value at c.replay_files.ensures.board in
    record { accounted = accounted_by ending command contents _ _ (record { places = _; marks = _ }) (record { places = _; marks = _ }) read.0 (outcome_from ending _ _ _ _ read.1 comes) leaves }

pub returns-in-Err : goal.returns-in-Err
returns-in-Err g c =
    let not_read = rw (c.input.ensures.value, c.upsets.ensures.value) at c.in-Err.ensures (g.O.Sink.got c.args.out.now) (g.O.Sink.faults c.args.out.now) in
    record { accounted = accounted_unread (ending_of c.in-Err.ending) (Replay c.args.container.now c.args.part c.args.script.now (seen_replay c.args.options)) _ _ (record { places = _; marks = _ }) not_read }
