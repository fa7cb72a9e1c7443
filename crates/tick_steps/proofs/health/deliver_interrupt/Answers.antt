use Rattle.tick_steps.specs.lemmas.HealthLemmas.{interrupt_made, interrupt_refused}
use Rattle.tick_steps.proofs.health.deliver_interrupt.Goals as goal

pub returns-in-Ok-clause-done : goal.returns-in-Ok-clause-done
returns-in-Ok-clause-done c =
    interrupt_made c.args.p c.args.n _ _ _ _ _ c.requires.partition c.in-Ok.ensures.answer c.in-Ok.ensures.value c.clear.ensures

pub returns-in-Err-clause-done : goal.returns-in-Err-clause-done
returns-in-Err-clause-done c =
    interrupt_refused c.args.p c.args.n _ _ _ _ _ _ c.in-Err.ensures.answer c.in-Err.ensures.unchanged c.give_up.ensures.done
