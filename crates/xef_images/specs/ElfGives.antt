-- What a reader of a program file answers, against what reading gives.
use Rattle.std.specs.Prelude.{◌≡◌, Result, Ok, Err}
use Rattle.fault_messages.specs.declared.fault.ElfFault.{ElfFault}
use Rattle.fault_messages.specs.declared.fault.ElfFault.TheVariants as fault

-- the fault is what reading gives, unless memory runs out
abbrev pub ElfFails : {Y : Type 0} → ElfFault → Result Y ElfFault → Type 0
ElfFails fault.Memory read = Unit {0}
ElfFails other read = read ≡ Err other

-- what was answered is what reading gives, unless memory runs out
abbrev pub ElfGives : {X Y : Type 0} → (X → Y) → Result X ElfFault → Result Y ElfFault → Type 0
ElfGives view (Ok value) read = read ≡ Ok (view value)
ElfGives view (Err reported) read = ElfFails reported read
