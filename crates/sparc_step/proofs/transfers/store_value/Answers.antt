use Rattle.guest_bus.specs.Access.{after_store}
use Rattle.sparc_step.specs.Transfers.{store_of}
use Rattle.sparc_step.proofs.StoreLemmas.{store_refused}
use Rattle.sparc_step.proofs.transfers.store_value.Goals as goal

pub returns-in-Err-clause-turned : goal.returns-in-Err-clause-turned
unfolding store_of after_store
returns-in-Err-clause-turned g c =
    store_refused _ c.in-Err.fault _ c.args.core.now (g.B.Bus.memory c.args.bus.now) _ _ _ c.in-Err.ensures.fault c.fault_type.ensures
    c.in-Err.ensures.memory
