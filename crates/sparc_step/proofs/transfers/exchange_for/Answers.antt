use Rattle.guest_bus.specs.Access.{after_store}
use Rattle.sparc_step.proofs.StoreLemmas.{exchange_refused}
use Rattle.sparc_step.proofs.transfers.exchange_for.Goals as goal

pub returns-in-Err-clause-turned : goal.returns-in-Err-clause-turned
unfolding after_store
returns-in-Err-clause-turned g c =
    exchange_refused _ c.in-Err.fault _ c.args.found _ c.args.core.now (g.B.Bus.memory c.args.bus.now) _ _ _ c.in-Err.ensures.fault c.fault_type.ensures
    c.in-Err.ensures.memory
