use Rattle.std.proofs.Common.{rules}
use Rattle.span_engine.proofs.EndLemmas.{reset_emitted}
use Rattle.span_engine.proofs.ending.end_by_reset.Goals as goal

pub returns-clause-lines : goal.returns-clause-lines
returns-clause-lines c = reset_emitted c.args.sys.now.machine c.args.mode c.args.lines.now _ (search rules)
