-- The calls on clocks, timers and plans: numbers 12 to 15.
use Rattle.machine_model.specs.Caller.{Caller, Served}
use Rattle.machine_model.specs.Calls.{GetPlanStatus, GetTime, SetTimer, SwitchSchedPlan, effect_of_call}
use Rattle.machine_model.specs.Effects.{performed}

-- call 12, XM_get_time(a, b): the clock a, at b
unfoldable pub get_time : Caller → Served
get_time caller = performed (effect_of_call GetTime caller) caller

-- call 13, XM_set_timer(a, b, c, d, e): the timer of clock a, with the deadline b:c and the interval d:e
unfoldable pub set_timer : Caller → Served
set_timer caller = performed (effect_of_call SetTimer caller) caller

-- call 14, XM_switch_sched_plan(a, b): asks for plan a; the current plan's number, at b
unfoldable pub switch_sched_plan : Caller → Served
switch_sched_plan caller = performed (effect_of_call SwitchSchedPlan caller) caller

-- call 15, XM_get_plan_status(a)
unfoldable pub get_plan_status : Caller → Served
get_plan_status caller = performed (effect_of_call GetPlanStatus caller) caller
