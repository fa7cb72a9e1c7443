-- What a reader of upsets answers, against what reading gives.
use Rattle.std.specs.Prelude.{◌≡◌, Result, Err}
use Rattle.upset_files.specs.declared.fault.UpsetFault.{UpsetFault}
use Rattle.upset_files.specs.declared.fault.UpsetFault.TheVariants as fault

-- the fault is what reading gives, unless memory runs out
abbrev pub FailsAs : {Y : Type 0} → UpsetFault → Result Y UpsetFault → Type 0
FailsAs fault.Memory read = Unit {0}
FailsAs (fault.Line line cause) read = read ≡ Err (fault.Line line cause)
