use Rattle.std.proofs.Common.{◌∙◌}
use Rattle.system_state.proofs.CallerLemmas.{room_seen}
use Rattle.system_state.proofs.answering.room.Goals as goal

pub returns : goal.returns
returns c = c.refused_if.ensures ∙ room_seen c.args.site c.args.sys.now c.args.address c.args.size c.may_write.result c.may_write.ensures.value
