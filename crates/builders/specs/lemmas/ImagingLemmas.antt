-- What is said of a file that is no program, no image or no container.
use Rattle.std.proofs.Common.{◌≡◌, ℕ, List, Result, Err, refl, ap, ◌∙◌}
use Rattle.xef_images.specs.ElfGives.{ElfFails}
use Rattle.xef_images.specs.Gives as image_file
use Rattle.xef_images.specs.Image.{Image}
use Rattle.fault_messages.specs.Texts.{elf_fault_text, xef_fault_text}
use Rattle.fault_messages.specs.declared.fault.ElfFault.{ElfFault}
use Rattle.fault_messages.specs.declared.fault.ElfFault.TheVariants as elf
use Rattle.fault_messages.specs.declared.fault.XefFault.{XefFault}
use Rattle.fault_messages.specs.declared.fault.XefFault.TheVariants as xef
use Rattle.loaded_system.specs.System.{System}
use Rattle.xm_container.specs.Gives as container_file
use Rattle.fault_messages.specs.Texts.{box_fault_text}
use Rattle.fault_messages.specs.declared.fault.BoxFault.{BoxFault}
use Rattle.fault_messages.specs.declared.fault.BoxFault.TheVariants as box
use Rattle.builders.specs.Imaging.{image_lines_by, xef_by}
use Rattle.builders.specs.Makes.{IsRefusalText, IsUnmade}
use Rattle.builders.specs.declared.unmade.Unmade.{Unmade}
use Rattle.builders.specs.declared.unmade.Unmade.TheVariants.{Memory}
use Rattle.builders.specs.lemmas.ParsingLemmas.{memory_makes, stated_makes}

-- a program's fault
pub program_unmade : (fault : ElfFault) (read : Result Image ElfFault) (why : Unmade) → ElfFails fault read → IsRefusalText why (elf_fault_text fault) → (fault ≡ elf.Memory → why ≡ Memory) → IsUnmade why (xef_by read)
program_unmade elf.Memory read why fails stated memory = memory_makes why _ (memory refl)
program_unmade other read why fails stated memory = stated_makes why _ _ (ap xef_by fails) stated

-- a fault of an image's file
pub image_unmade : (fault : XefFault) (read : Result Image XefFault) (why : Unmade) → image_file.Fails fault read → IsRefusalText why (xef_fault_text fault) → (fault ≡ xef.Memory → why ≡ Memory) → IsUnmade why (image_lines_by read)
image_unmade xef.Memory read why fails stated memory = memory_makes why _ (memory refl)
image_unmade other read why fails stated memory = stated_makes why _ _ (ap image_lines_by fails) stated

-- a container's fault, whatever is said of a system
pub container_unmade : (by : Result System BoxFault → Result (List ℕ) (List ℕ)) → ((fault : BoxFault) → by (Err fault) ≡ Err (box_fault_text fault)) → (fault : BoxFault) (read : Result System BoxFault) (why : Unmade) → container_file.Fails fault read → IsRefusalText why (box_fault_text fault) → (fault ≡ box.Memory → why ≡ Memory) → IsUnmade why (by read)
container_unmade by faults box.Memory read why fails stated memory = memory_makes why _ (memory refl)
container_unmade by faults other read why fails stated memory = stated_makes why _ _ (ap by fails ∙ faults other) stated
