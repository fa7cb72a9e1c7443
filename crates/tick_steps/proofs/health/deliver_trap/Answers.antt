use Rattle.tick_steps.specs.lemmas.HealthLemmas.{trap_made, trap_refused}
use Rattle.tick_steps.proofs.health.deliver_trap.Goals as goal

pub returns-in-Ok-clause-done : goal.returns-in-Ok-clause-done
returns-in-Ok-clause-done c = trap_made c.args.p c.args.tt _ _ _ _ c.in-Ok.ensures.answer c.in-Ok.ensures.value

pub returns-in-Err-clause-done : goal.returns-in-Err-clause-done
returns-in-Err-clause-done c =
    trap_refused c.args.p c.args.tt _ _ _ _ _ _ c.in-Err.ensures.answer c.in-Err.ensures.unchanged c.give_up.ensures.done
