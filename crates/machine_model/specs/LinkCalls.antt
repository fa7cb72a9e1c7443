-- The call on links: number 38.
use Rattle.machine_model.specs.Caller.{Caller, Served}
use Rattle.machine_model.specs.Calls.{RaiseIpvi, effect_of_call}
use Rattle.machine_model.specs.Effects.{performed}

-- call 38, XM_raise_ipvi(a): a signal over the caller's link of number a
unfoldable pub raise_ipvi : Caller → Served
raise_ipvi caller = performed (effect_of_call RaiseIpvi caller) caller
