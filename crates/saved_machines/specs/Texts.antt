-- What is said of bytes that are no saved machine.
use Rattle.std.specs.Prelude.{List, ℕ, ◌++◌, codes, decimal}
use Rattle.hex.specs.Hex.{encode_lower}
use Rattle.saved_machines.specs.declared.fault.SavedFault.{SavedFault}
use Rattle.saved_machines.specs.declared.fault.SavedFault.TheVariants as fault

-- the text of a fault
abbrev pub saved_fault_text : SavedFault → List ℕ
saved_fault_text fault.Magic = codes "magic"
saved_fault_text (fault.Version found) = codes "version found=" ++ decimal found
saved_fault_text (fault.Short at) = codes "short at=" ++ decimal at
saved_fault_text (fault.Trailing at) = codes "trailing at=" ++ decimal at
saved_fault_text (fault.Digest stored found) = codes "digest stored=" ++ encode_lower stored ++ codes " found=" ++ encode_lower found
saved_fault_text (fault.Container stored found) = codes "container stored=" ++ encode_lower stored ++ codes " found=" ++ encode_lower found
saved_fault_text (fault.Field at) = codes "field at=" ++ decimal at
saved_fault_text fault.Memory = codes "memory"
