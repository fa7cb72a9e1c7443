-- What a reader of a container answers, against what reading gives.
use Rattle.std.specs.Prelude.{◌≡◌, Result, Err}
use Rattle.fault_messages.specs.declared.fault.BoxFault.{BoxFault}
use Rattle.fault_messages.specs.declared.fault.BoxFault.TheVariants as fault

-- the fault is what reading gives, unless memory runs out
abbrev pub Fails : {Y : Type 0} → BoxFault → Result Y BoxFault → Type 0
Fails fault.Memory read = Unit {0}
Fails other read = read ≡ Err other
