-- What a reader of fields answers.
use Rattle.std.specs.Prelude.{◌≡◌, ⊤, Result, Err}
use Rattle.fault_messages.specs.declared.fault.XmcFault.{XmcFault}
use Rattle.fault_messages.specs.declared.fault.XmcFault.TheVariants as fault

-- a fault is the one that reading gives, or memory ran out
abbrev pub Fails : {Y : Type 0} → XmcFault → Result Y XmcFault → Type 0
Fails fault.Memory read = ⊤
Fails other read = read ≡ Err other
