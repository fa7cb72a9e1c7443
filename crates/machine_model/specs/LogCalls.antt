-- The calls on traces and on the health log: numbers 24 to 29.
use Rattle.machine_model.specs.Caller.{Caller, Served}
use Rattle.machine_model.specs.Calls.{HmRead, HmStatus, RaiseEvent, TraceEvent, TraceRead, TraceStatus, effect_of_call}
use Rattle.machine_model.specs.Effects.{performed}

-- call 24, XM_trace_event(a, b): entered where a bit of a is in the partition's trace mask
unfoldable pub trace_event : Caller → Served
trace_event caller = performed (effect_of_call TraceEvent caller) caller

-- call 25, XM_trace_read(a, b, c): entry number b of partition a's traces, at c
unfoldable pub trace_read : Caller → Served
trace_read caller = performed (effect_of_call TraceRead caller) caller

-- call 26, XM_trace_status(a, b)
unfoldable pub trace_status : Caller → Served
trace_status caller = performed (effect_of_call TraceStatus caller) caller

-- call 27, XM_hm_raise_event(a): the event PARTITION_ERROR with the word a
unfoldable pub raise_event : Caller → Served
raise_event caller = performed (effect_of_call RaiseEvent caller) caller

-- call 28, XM_hm_read(a, b, c): entry number b of partition a's health log, at c
unfoldable pub hm_read : Caller → Served
hm_read caller = performed (effect_of_call HmRead caller) caller

-- call 29, XM_hm_status(a, b)
unfoldable pub hm_status : Caller → Served
hm_status caller = performed (effect_of_call HmStatus caller) caller
