-- For proofs and private clauses: the calls on sampling and queuing ports: numbers 16 to 23.
use Rattle.machine_model.specs.Caller.{Caller, Served, b_of, c_of}
use Rattle.machine_model.specs.Effects.{putting_bytes}
use Rattle.machine_model.specs.PortEffects.{MadePort}

-- a message of c bytes at b is put into the port's channel
abbrev pub putting : Caller → MadePort → Served
putting caller port = putting_bytes (b_of caller) (c_of caller) caller port
