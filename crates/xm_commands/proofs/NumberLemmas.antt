-- Calls that made their scripts.
use Rattle.std.proofs.Common.{⊎_elim, Option, Some, None}
use Rattle.xm_outside.specs.Files.{Files}
use Rattle.command_line.specs.Words.{Command, Bare, Parse, Upgrade, BuildImage, ReadImage, Pack, ListContainer, CheckContainer, MakePlan, CheckPlan, ListGroups, ListSteerers, Generate, Run, Replay}
use Rattle.file_commands.specs.Ending.{Ending, Done, Usage, ReadFault, Refused, WriteFaultReport, WriteFaultFile, UartFault, NoMemory, status_of}
use Rattle.run_commands.specs.Numbers.{HasScripts}
use Rattle.run_commands.specs.lemmas.NumbersTerms.{WordsStore}
use Rattle.xm_commands.specs.Continued.{StoresNumbers}
use Rattle.xm_commands.specs.Top.{IsCompleteStatus}

-- a call that is carried out made its scripts before
pub complete_made : (e : Ending) → IsCompleteStatus (status_of e) → HasScripts e
complete_made Done complete = tt
complete_made Usage complete = ⊎_elim (λ done. absurd (cc)) (λ fault. absurd (cc)) complete
complete_made (ReadFault file) complete = ⊎_elim (λ done. absurd (cc)) (λ fault. absurd (cc)) complete
complete_made (Refused file text) complete = ⊎_elim (λ done. absurd (cc)) (λ fault. absurd (cc)) complete
complete_made WriteFaultReport complete = tt
complete_made (WriteFaultFile file) complete = tt
complete_made (UartFault place) complete = tt
complete_made NoMemory complete = ⊎_elim (λ done. absurd (cc)) (λ fault. absurd (cc)) complete

-- the numbers of the machine that a command saves are in their ranges
pub are_stored : (command : Option Command) (known : Option Files) → WordsStore command known → StoresNumbers command known
are_stored None known stores = tt
are_stored (Some (Bare image ticks)) known stores = tt
are_stored (Some (Parse description output)) known stores = tt
are_stored (Some (Upgrade configuration output)) known stores = tt
are_stored (Some (BuildImage program output)) known stores = tt
are_stored (Some (ReadImage image)) known stores = tt
are_stored (Some (Pack configuration output images)) known stores = tt
are_stored (Some (ListContainer container)) known stores = tt
are_stored (Some (CheckContainer container)) known stores = tt
are_stored (Some (MakePlan description)) known stores = tt
are_stored (Some (CheckPlan description)) known stores = tt
are_stored (Some (ListGroups description)) known stores = tt
are_stored (Some (ListSteerers description)) known stores = tt
are_stored (Some (Generate number)) known stores = tt
are_stored (Some (Replay container part script options)) known stores = tt
are_stored (Some (Run container options)) known stores = stores
