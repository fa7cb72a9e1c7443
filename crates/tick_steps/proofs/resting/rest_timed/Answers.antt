use Rattle.std.proofs.Common.{sym, ◌∙◌}
use Rattle.tick_steps.proofs.IdleTimerLemmas.{all_unarmed}
use Rattle.tick_steps.proofs.resting.rest_timed.Goals as goal

pub returns-else-is_timed : goal.returns-else-is_timed
returns-else-is_timed c =
    c.is_timed.ensures.unchanged ∙ all_unarmed c.args.working c.args.time c.args.sys.now (sym c.is_timed.ensures.value ∙ c.if-is_timed.false)
