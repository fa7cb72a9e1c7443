-- What is said of a text that is no file of upsets: what is wrong, and with which line.
use Rattle.std.specs.Prelude.{List, ℕ, ◌++◌, codes, decimal}
use Rattle.upset_files.specs.declared.fault.UpsetCause.{UpsetCause}
use Rattle.upset_files.specs.declared.fault.UpsetCause.TheVariants as cause
use Rattle.upset_files.specs.declared.fault.UpsetFault.{UpsetFault}
use Rattle.upset_files.specs.declared.fault.UpsetFault.TheVariants as fault

-- the name of each cause
abbrev pub upset_cause_text : UpsetCause → List ℕ
upset_cause_text cause.TooMany = codes "too-many"
upset_cause_text cause.BadTick = codes "bad-tick"
upset_cause_text cause.BadPartition = codes "bad-partition"
upset_cause_text cause.BadPlace = codes "bad-place"
upset_cause_text cause.BadBit = codes "bad-bit"
upset_cause_text cause.BadEnd = codes "bad-end"
upset_cause_text cause.NoPartition = codes "no-partition"
upset_cause_text cause.NoPlace = codes "no-place"
upset_cause_text cause.NoBit = codes "no-bit"
upset_cause_text cause.Unordered = codes "unordered"
upset_cause_text cause.Unreached = codes "unreached"

-- the text of a fault
abbrev pub upset_fault_text : UpsetFault → List ℕ
upset_fault_text (fault.Line line cause) = upset_cause_text cause ++ codes " line=" ++ decimal line
upset_fault_text fault.Memory = codes "memory"
