-- What is said of what is refused: the name of the fault, and where or what was found.
use Rattle.std.specs.Prelude.{ℕ, List, ◌++◌, codes, decimal}
use Rattle.std.specs.Int.{w32, to_be_bytes}
use Rattle.hex.specs.Hex.{encode_lower}
use Rattle.fault_messages.specs.declared.fault.XmcFault.{XmcFault}
use Rattle.fault_messages.specs.declared.fault.XmcFault.TheVariants as xmc
use Rattle.fault_messages.specs.declared.fault.XefFault.{XefFault}
use Rattle.fault_messages.specs.declared.fault.XefFault.TheVariants as xef
use Rattle.fault_messages.specs.declared.fault.ElfFault.{ElfFault}
use Rattle.fault_messages.specs.declared.fault.ElfFault.TheVariants as elf
use Rattle.fault_messages.specs.declared.fault.BoxFault.{BoxFault}
use Rattle.fault_messages.specs.declared.fault.BoxFault.TheVariants as box
use Rattle.fault_messages.specs.declared.fault.PackFault.{PackFault}
use Rattle.fault_messages.specs.declared.fault.PackFault.TheVariants as pack
use Rattle.fault_messages.specs.declared.fault.ScriptFault.{ScriptFault}
use Rattle.fault_messages.specs.declared.fault.ScriptFault.TheVariants as script
use Rattle.fault_messages.specs.declared.fault.PlanFault.{PlanFault}
use Rattle.fault_messages.specs.declared.fault.PlanFault.TheVariants as plan
use Rattle.fault_messages.specs.declared.fault.CheckFault.{CheckFault}
use Rattle.fault_messages.specs.declared.fault.CheckFault.TheVariants as check

-- an address as eight hexadecimal digits
abbrev pub address_text : ℕ → List ℕ
address_text address = encode_lower (to_be_bytes w32 address)

-- of a binary configuration
abbrev pub xmc_fault_text : XmcFault → List ℕ
xmc_fault_text xmc.Magic = codes "magic"
xmc_fault_text (xmc.Version found) = codes "version found=" ++ decimal found
xmc_fault_text (xmc.Short at) = codes "short at=" ++ decimal at
xmc_fault_text (xmc.Trailing at) = codes "trailing at=" ++ decimal at
xmc_fault_text (xmc.Field at) = codes "field at=" ++ decimal at
xmc_fault_text (xmc.NotFit rule) = codes "not-fit rule=" ++ decimal rule
xmc_fault_text xmc.Memory = codes "memory"

-- of an image's file; a digest has 32 hexadecimal digits
abbrev pub xef_fault_text : XefFault → List ℕ
xef_fault_text xef.Magic = codes "magic"
xef_fault_text (xef.Version found) = codes "version found=" ++ decimal found
xef_fault_text (xef.Short at) = codes "short at=" ++ decimal at
xef_fault_text (xef.Trailing at) = codes "trailing at=" ++ decimal at
xef_fault_text (xef.Digest stored found) = codes "digest stored=" ++ encode_lower stored ++ codes " found=" ++ encode_lower found
xef_fault_text (xef.Field at) = codes "field at=" ++ decimal at
xef_fault_text xef.Memory = codes "memory"

-- of a program file
abbrev pub elf_fault_text : ElfFault → List ℕ
elf_fault_text elf.Magic = codes "magic"
elf_fault_text elf.Class = codes "class"
elf_fault_text elf.Machine = codes "machine"
elf_fault_text (elf.Headers found) = codes "headers found=" ++ decimal found
elf_fault_text (elf.Short at) = codes "short at=" ++ decimal at
elf_fault_text (elf.Size at) = codes "size at=" ++ decimal at
elf_fault_text elf.NoLoad = codes "no-load"
elf_fault_text (elf.Entry found) = codes "entry found=" ++ address_text found
elf_fault_text (elf.Overlap address) = codes "overlap address=" ++ address_text address
elf_fault_text (elf.Limit at) = codes "limit at=" ++ decimal at
elf_fault_text elf.Memory = codes "memory"

-- of a container
abbrev pub box_fault_text : BoxFault → List ℕ
box_fault_text box.Magic = codes "magic"
box_fault_text (box.Version found) = codes "version found=" ++ decimal found
box_fault_text (box.Short at) = codes "short at=" ++ decimal at
box_fault_text (box.Trailing at) = codes "trailing at=" ++ decimal at
box_fault_text (box.Digest stored found) = codes "digest stored=" ++ encode_lower stored ++ codes " found=" ++ encode_lower found
box_fault_text (box.Field at) = codes "field at=" ++ decimal at
box_fault_text (box.Config inner) = codes "config " ++ xmc_fault_text inner
box_fault_text (box.Image id inner) = codes "image id=" ++ decimal id ++ codes " " ++ xef_fault_text inner
box_fault_text (box.Missing id) = codes "missing id=" ++ decimal id
box_fault_text (box.Extra id) = codes "extra id=" ++ decimal id
box_fault_text (box.Outside id address) = codes "outside id=" ++ decimal id ++ codes " address=" ++ address_text address
box_fault_text box.Memory = codes "memory"

-- of a configuration and images that make no container
abbrev pub pack_fault_text : PackFault → List ℕ
pack_fault_text (pack.Missing id) = codes "missing id=" ++ decimal id
pack_fault_text (pack.Extra id) = codes "extra id=" ++ decimal id
pack_fault_text (pack.Outside id address) = codes "outside id=" ++ decimal id ++ codes " address=" ++ address_text address
pack_fault_text (pack.Long length) = codes "long length=" ++ decimal length
pack_fault_text pack.Memory = codes "memory"

-- of a script
abbrev pub script_fault_text : ScriptFault → List ℕ
script_fault_text script.Magic = codes "magic"
script_fault_text (script.Version found) = codes "version found=" ++ decimal found
script_fault_text (script.Short at) = codes "short at=" ++ decimal at
script_fault_text (script.Trailing at) = codes "trailing at=" ++ decimal at
script_fault_text (script.Field at) = codes "field at=" ++ decimal at
script_fault_text (script.Length found) = codes "length found=" ++ decimal found
script_fault_text (script.Cue tick) = codes "cue tick=" ++ decimal tick
script_fault_text script.Memory = codes "memory"

-- of requirements that no plan meets
abbrev pub plan_fault_text : PlanFault → List ℕ
plan_fault_text plan.NoNeed = codes "no-need"
plan_fault_text (plan.Period part) = codes "period part=" ++ decimal part
plan_fault_text (plan.Overload demand period) = codes "overload demand=" ++ decimal demand ++ codes " period=" ++ decimal period
plan_fault_text (plan.Slots found) = codes "slots found=" ++ decimal found
plan_fault_text plan.Memory = codes "memory"

-- of a draft: the rule that it breaks, with the places of the two items
abbrev pub check_fault_text : CheckFault → List ℕ
check_fault_text (check.Rule rule at and) = codes "rule number=" ++ decimal rule ++ codes " at=" ++ decimal at ++ codes " and=" ++ decimal and
check_fault_text check.Memory = codes "memory"
