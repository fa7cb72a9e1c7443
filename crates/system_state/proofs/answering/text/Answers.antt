use Rattle.std.proofs.Common.{◌∙◌}
use Rattle.system_state.proofs.CallerLemmas.{text_seen}
use Rattle.system_state.proofs.answering.text.Goals as goal

pub returns : goal.returns
returns c = c.refused_if.ensures ∙ text_seen c.args.site c.args.sys.now c.args.address c.args.size c.may_read.result c.may_read.ensures.value
