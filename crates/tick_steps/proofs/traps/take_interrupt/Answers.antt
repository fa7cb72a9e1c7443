use Rattle.machine_model.specs.Health.{interrupt_delivered}
use Rattle.tick_steps.specs.declared.beyond.Beyond.TheVariants as beyond
use Rattle.tick_steps.specs.lemmas.ReachLemmas.{interrupt_act, worked_after}
use Rattle.tick_steps.proofs.traps.take_interrupt.Goals as goal

pub returns-clause-worked : goal.returns-clause-worked
returns-clause-worked c =
    worked_after (λ view time ps. interrupt_delivered view time c.args.n ps) c.args.p _ beyond.Nothing _ _ _ _ _ c.requires.partition c.requires.empty c.count_tick.ensures.value
    c.deliver_interrupt.ensures.done (interrupt_act _ _ c.args.n _) tt
