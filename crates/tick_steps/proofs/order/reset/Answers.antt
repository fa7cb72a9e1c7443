use Rattle.machine_model.specs.Partition.{reset}
use Rattle.tick_steps.specs.lemmas.WorkLemmas.{state_then}
use Rattle.tick_steps.proofs.order.reset.Goals as goal

pub returns : goal.returns
unfolding reset
returns c =
    state_then (λ view time ps. record (reset view c.args.mode c.args.status ps) { memory = ps.memory }) c.args.p _ _ _ _ c.requires c.reload.ensures c.restart.ensures
