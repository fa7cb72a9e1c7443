use Rattle.std.specs.Prelude.{Some}
use Rattle.machine_model.specs.Health.{event_handled}
use Rattle.tick_steps.specs.declared.beyond.Beyond.TheVariants as beyond
use Rattle.tick_steps.specs.lemmas.ReachLemmas.{worked_after}
use Rattle.tick_steps.proofs.traps.meet_trap.Goals as goal

pub returns-clause-worked : goal.returns-clause-worked
returns-clause-worked c =
    rw (← c.event_of.ensures.value)
    (worked_after (λ view time ps. event_handled view time c.event_of.result c.args.pc (Some c.args.tt) ps) c.args.p _ (beyond.Whole c.handle_event.result) _ _ _ _ _ c.requires.partition c.requires.empty c.count_tick.ensures.value
    c.handle_event.ensures.done c.handle_event.ensures.act tt)
