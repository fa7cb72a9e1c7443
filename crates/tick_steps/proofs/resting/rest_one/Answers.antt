use Rattle.std.proofs.Common.{sym, ◌∙◌}
use Rattle.tick_steps.proofs.IdleTimerLemmas.{rests_unarmed}
use Rattle.tick_steps.proofs.resting.rest_one.Goals as goal

pub returns-in-None : goal.returns-in-None
returns-in-None c = rests_unarmed c.args.p c.args.time c.args.sys.now (sym c.hardware_timer.ensures ∙ c.in-None.is)
