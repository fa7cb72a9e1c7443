-- What a reader of a script answers, against what reading gives.
use Rattle.std.specs.Prelude.{◌≡◌, Result, Err}
use Rattle.fault_messages.specs.declared.fault.ScriptFault.{ScriptFault}
use Rattle.fault_messages.specs.declared.fault.ScriptFault.TheVariants as fault

-- the fault is what reading gives, unless memory runs out; a script is never found too long or untakable when it is read
abbrev pub Fails : {Y : Type 0} → ScriptFault → Result Y ScriptFault → Type 0
Fails fault.Memory read = Unit {0}
Fails (fault.Length found) read = ⊥
Fails (fault.Cue tick) read = ⊥
Fails other read = read ≡ Err other
