use Rattle.xm_commands.proofs.replaying.play_ready.Goals as goal

pub play_into-requires-clause-room : goal.play_into-requires-clause-room
play_into-requires-clause-room g c = rw (c.deref_mut.ensures.value) c.in-Ok.ensures

pub returns-in-Ok-clause-outcome : goal.returns-in-Ok-clause-outcome
returns-in-Ok-clause-outcome g c = c.play_into.ensures.outcome

pub returns-in-Ok-clause-board : goal.returns-in-Ok-clause-board
returns-in-Ok-clause-board g c = c.play_into.ensures.board
