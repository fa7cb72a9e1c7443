-- The texts of the faults.
use Rattle.std.specs.Prelude.{ℕ, List, ◌++◌, codes, decimal}
use Rattle.xmcf_reader.specs.Words.{word_text}
use Rattle.xmcf_reader.specs.declared.fault.ReadFault.{ReadFault}
use Rattle.xmcf_reader.specs.declared.fault.ReadFault.TheVariants as fault

-- a name with the place of what it names
abbrev pub said_at : List ℕ → ℕ → List ℕ
said_at name at = name ++ codes " at=" ++ decimal at

-- the text of each fault: its name, its place, and the name of what is missing
abbrev pub read_fault_text : ReadFault → List ℕ
read_fault_text (fault.NotText at) = said_at (codes "not-text") at
read_fault_text (fault.BadItem at) = said_at (codes "bad-item") at
read_fault_text (fault.Reference at) = said_at (codes "reference") at
read_fault_text (fault.UnknownElement at) = said_at (codes "unknown-element") at
read_fault_text (fault.UnknownAttribute at) = said_at (codes "unknown-attribute") at
read_fault_text (fault.MissingAttribute at which) = said_at (codes "missing-attribute") at ++ codes " which=" ++ word_text which
read_fault_text (fault.RepeatedAttribute at) = said_at (codes "repeated-attribute") at
read_fault_text (fault.BadValue at) = said_at (codes "bad-value") at
read_fault_text (fault.Unclosed at) = said_at (codes "unclosed") at
read_fault_text (fault.WrongChild at) = said_at (codes "wrong-child") at
read_fault_text (fault.MissingChild at which) = said_at (codes "missing-child") at ++ codes " which=" ++ word_text which
read_fault_text fault.Memory = codes "memory"
