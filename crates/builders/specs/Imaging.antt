-- The outcome of programs, images and containers, by the bytes of their files.
use Rattle.std.specs.Prelude.{ℕ, List, length, codes, Result, Ok, Err}
use Rattle.xef_images.specs.Elf.{elf}
use Rattle.xef_images.specs.Image.{Image}
use Rattle.xef_images.specs.Reading.{xef}
use Rattle.xef_images.specs.Spelling.{xef_text}
use Rattle.fault_messages.specs.Texts.{elf_fault_text, xef_fault_text}
use Rattle.xef_images.specs.Texts.{xef_lines}
use Rattle.fault_messages.specs.declared.fault.ElfFault.{ElfFault}
use Rattle.fault_messages.specs.declared.fault.XefFault.{XefFault}
use Rattle.loaded_system.specs.System.{System}
use Rattle.xm_container.specs.Reading.{unpacked}
use Rattle.fault_messages.specs.Texts.{box_fault_text}
use Rattle.xm_container.specs.Texts.{box_lines}
use Rattle.fault_messages.specs.declared.fault.BoxFault.{BoxFault}
use Rattle.builders.specs.Success.{ok_text}

-- the file of an image, or the text of a program's fault
abbrev pub xef_by : Result Image ElfFault → Result (List ℕ) (List ℕ)
xef_by (Ok image) = Ok (xef_text image)
xef_by (Err fault) = Err (elf_fault_text fault)

-- the image's file that a program makes, or the text of its first fault
unfoldable pub xef_of : List ℕ → Result (List ℕ) (List ℕ)
xef_of program = xef_by (elf program)

-- the lines that describe an image, or the text of its file's fault
abbrev pub image_lines_by : Result Image XefFault → Result (List ℕ) (List ℕ)
image_lines_by (Ok image) = Ok (xef_lines image)
image_lines_by (Err fault) = Err (xef_fault_text fault)

-- the lines that describe the image of a file, or the text of its first fault
unfoldable pub image_lines_of : List ℕ → Result (List ℕ) (List ℕ)
image_lines_of file = image_lines_by (xef file)

-- the lines that describe a container, or the text of its fault
abbrev pub container_lines_by : List ℕ → Result System BoxFault → Result (List ℕ) (List ℕ)
container_lines_by file (Ok system) = Ok (box_lines file system)
container_lines_by file (Err fault) = Err (box_fault_text fault)

-- the lines that describe the container of a file, or the text of its first fault
unfoldable pub container_lines_of : List ℕ → Result (List ℕ) (List ℕ)
container_lines_of file = container_lines_by file (unpacked file)

-- what is printed of a container that was checked, by its number of partitions
abbrev pub checked_text : ℕ → List ℕ
checked_text parts = ok_text (codes "parts=") parts

-- what is printed of a system, or the text of its container's fault
abbrev pub container_verdict_by : Result System BoxFault → Result (List ℕ) (List ℕ)
container_verdict_by (Ok system) = Ok (checked_text (length system.conf.parts))
container_verdict_by (Err fault) = Err (box_fault_text fault)

-- what is printed of a container's file, or the text of its first fault
unfoldable pub container_verdict_of : List ℕ → Result (List ℕ) (List ℕ)
container_verdict_of file = container_verdict_by (unpacked file)
