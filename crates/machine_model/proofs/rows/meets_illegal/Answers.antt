use Rattle.machine_model.proofs.HealthRowLemmas.{halts_at_illegal, ignores_illegal, propagates_to_halt}
use Rattle.machine_model.proofs.rows.meets_illegal.Goals as goal

pub returns : goal.returns
returns c = record { halts = halts_at_illegal; ignored = ignores_illegal; propagated = propagates_to_halt }
