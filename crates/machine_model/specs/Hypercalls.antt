-- What a hypercall does, by its number.
use Rattle.std.specs.Prelude.{ℕ}
use Rattle.machine_model.specs.Caller.{Caller, Served, number_of}
use Rattle.machine_model.specs.Calls.{by_call, call_of}

-- the call with a number; a number that is no call's is answered so
abbrev pub call_numbered : ℕ → Caller → Served
call_numbered number caller = by_call (call_of number) caller

-- the call that a partition makes
unfoldable pub served : Caller → Served
served caller = call_numbered (number_of caller) caller
