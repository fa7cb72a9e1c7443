use Rattle.machine_model.proofs.CallRowLemmas.{halts_another, orders_none, resets_another, resumes_another, resumes_nothing, shuts_down_another, suspends_another}
use Rattle.machine_model.proofs.rows.orders_another.Goals as goal

pub returns : goal.returns
returns c = record { suspended = suspends_another; halted = halts_another; resumed = resumes_another; unchanged = resumes_nothing; shut_down = shuts_down_another; reset = resets_another; refused = orders_none }
