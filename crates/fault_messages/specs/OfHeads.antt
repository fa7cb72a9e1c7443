-- The fault of a head or of a digest as that of a file's format.
use Rattle.std.specs.Prelude.{ℕ, List}
use Rattle.fault_messages.specs.declared.fault.HeadFault.{HeadFault}
use Rattle.fault_messages.specs.declared.fault.HeadFault.TheVariants as head
use Rattle.fault_messages.specs.declared.fault.XefFault.{XefFault}
use Rattle.fault_messages.specs.declared.fault.XefFault.TheVariants as xef
use Rattle.fault_messages.specs.declared.fault.BoxFault.{BoxFault}
use Rattle.fault_messages.specs.declared.fault.BoxFault.TheVariants as box

-- as that of a format that has one for each
abbrev pub head_fault_as : {F : Type 0} → F → (ℕ → F) → (ℕ → F) → (ℕ → F) → (List ℕ → List ℕ → F) → HeadFault → F
head_fault_as magic version short trailing digest head.Magic = magic
head_fault_as magic version short trailing digest (head.Version found) = version found
head_fault_as magic version short trailing digest (head.Short at) = short at
head_fault_as magic version short trailing digest (head.Trailing at) = trailing at
head_fault_as magic version short trailing digest (head.Digest stored found) = digest stored found

-- as that of an image
abbrev pub xef_fault : HeadFault → XefFault
xef_fault fault = head_fault_as xef.Magic xef.Version xef.Short xef.Trailing xef.Digest fault

-- as that of a container
abbrev pub box_fault : HeadFault → BoxFault
box_fault fault = head_fault_as box.Magic box.Version box.Short box.Trailing box.Digest fault
