use Rattle.std.proofs.Common.{refl}
use Rattle.replay_tick.proofs.alone.tick_alone.Goals as goal

pub tick_away-requires-clause-can : goal.tick_away-requires-clause-can
tick_away-requires-clause-can c =
    record { machine = c.requires.machine; partition = c.requires.partition; running = c.requires.running; more = c.requires.more; cue = c.requires.cue; empty = c.requires.empty }

pub turn_in_slot-requires-clause-can : goal.turn_in_slot-requires-clause-can
turn_in_slot-requires-clause-can c =
    record { machine = c.requires.machine; partition = c.requires.partition; running = c.requires.running; more = c.requires.more; cue = c.requires.cue; empty = c.requires.empty }

pub rest_in_slot-requires-clause-can : goal.rest_in_slot-requires-clause-can
rest_in_slot-requires-clause-can c =
    record { machine = c.requires.machine; partition = c.requires.partition; running = c.requires.running; more = c.requires.more; cue = c.requires.cue; empty = refl }
