-- What a reader of a file answers, against what reading gives.
use Rattle.std.specs.Prelude.{◌≡◌, Result, Err}
use Rattle.fault_messages.specs.declared.fault.XefFault.{XefFault}
use Rattle.fault_messages.specs.declared.fault.XefFault.TheVariants as fault

-- the fault is what reading gives, unless memory runs out
abbrev pub Fails : {Y : Type 0} → XefFault → Result Y XefFault → Type 0
Fails fault.Memory read = Unit {0}
Fails other read = read ≡ Err other
