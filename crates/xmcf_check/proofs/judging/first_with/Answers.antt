use Rattle.std.proofs.Common.{map, sym}
use Rattle.xmcf_check.proofs.JudgeLemmas.{reported_some}
use Rattle.xmcf_check.proofs.judging.first_with.Goals as goal

pub returns-in-None : goal.returns-in-None
returns-in-None c = absurd (reported_some c.args.plans c.args.ids.now (map (λ list. list.items) c.args.answers.now) c.args.broken (sym c.in-None.ensures))
