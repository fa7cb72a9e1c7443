-- A file of upsets that is refused.
use Rattle.std.proofs.Common.{◌≡◌, List, ℕ, Result, Err, ap, refl, sym, ◌∙◌, subst}
use Rattle.std.specs.String.{string_bytes}
use Rattle.builders.specs.Makes.{IsRefusalText}
use Rattle.builders.specs.declared.unmade.Unmade.{Unmade}
use Rattle.builders.specs.declared.unmade.Unmade.TheVariants as unmade
use Rattle.file_commands.specs.Ending.{Ending, NoMemory}
use Rattle.file_commands.specs.Makes.{IsUnmadeOf}
use Rattle.file_commands.specs.Outcome.{upsets_or}
use Rattle.file_commands.specs.Packing.{denial}
use Rattle.file_commands.specs.lemmas.EndingValuesTerms.{IsDenied}
use Rattle.upset_files.specs.Gives.{FailsAs}
use Rattle.upset_files.specs.Texts.{upset_fault_text}
use Rattle.upset_files.specs.declared.fault.UpsetFault.{UpsetFault}
use Rattle.upset_files.specs.declared.fault.UpsetFault.TheVariants as fault
use Rattle.upset_model.specs.declared.upset_line.UpsetLine.{UpsetLine}

-- its refusal has the text of its fault
pub upsets_unmade : (file : List ℕ) (why : UpsetFault) (read : Result (List UpsetLine) UpsetFault) (said : Unmade) (e : Ending)
    → FailsAs why read → IsRefusalText said (upset_fault_text why) → (why ≡ fault.Memory → said ≡ unmade.Memory) → IsUnmadeOf e file said
    → IsDenied e (upsets_or file read)
upsets_unmade file (fault.Line line cause) read (unmade.Refused words) e fails stated memory ends =
    let text_is : string_bytes words ≡ upset_fault_text (fault.Line line cause) = stated in
    rw ends (ap (upsets_or file) fails ∙ ap (λ text. Err (denial file text)) (sym text_is))
upsets_unmade file (fault.Line line cause) read unmade.Memory e fails stated memory ends = rw ends tt
upsets_unmade file fault.Memory read said e fails stated memory ends =
    let starved : said ≡ unmade.Memory = memory refl in
    let ended : e ≡ NoMemory = subst (IsUnmadeOf e file) starved ends in
    rw ended tt
