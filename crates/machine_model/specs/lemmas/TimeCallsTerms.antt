-- For proofs and private clauses: the calls on clocks, timers and plans: numbers 12 to 15.
use Rattle.std.specs.Prelude.{Bool}
use Rattle.machine_model.specs.Caller.{Caller, a_of}
use Rattle.machine_model.specs.Effects.{is_plan_missing}

-- the plan that the call names cannot be asked for
abbrev pub is_no_plan : Caller → Bool
is_no_plan caller = is_plan_missing (a_of caller) caller
