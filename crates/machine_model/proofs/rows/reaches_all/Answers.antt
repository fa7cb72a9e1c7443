use Rattle.machine_model.proofs.HealthRowLemmas.{halts_all, halts_in_last_tick, resets_all_by_call, resets_all_warm, rests_in_halting_tick}
use Rattle.machine_model.proofs.rows.reaches_all.Goals as goal

pub returns : goal.returns
returns c = record { reset = resets_all_warm; raised = resets_all_by_call; halted = halts_all; last = halts_in_last_tick; rests = rests_in_halting_tick }
