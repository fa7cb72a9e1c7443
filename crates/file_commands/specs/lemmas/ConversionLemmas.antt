-- The commands that convert a file read it alone, and have the outcome of what is made of it.
use Rattle.std.proofs.Common.{◌≡◌, ℕ, ◌≤◌, List, [], ◌∷◌, length, Result, Ok, refl, sym, ◌∙◌, subst}
use Rattle.xm_base.specs.declared.limits.TheConstants.{FILE_BYTES}
use Rattle.builders.specs.MadeFile.{made_file}
use Rattle.builders.specs.Printout.{printout_text}
use Rattle.builders.specs.declared.made_file.MadeFile.TheVariants as made
use Rattle.builders.specs.declared.printout.Printout.TheVariants as printed
use Rattle.file_commands.specs.Conversion.{command_making}
use Rattle.file_commands.specs.Ending.{Ending}
use Rattle.file_commands.specs.Outcome.{Outcome, content, converted, inputs_of, outcome_of, outcome_of_contents, outcome_of_file, outcome_of_print}
use Rattle.file_commands.specs.Work.{Outside}
use Rattle.file_commands.specs.declared.converting.Conversion.{Conversion}
use Rattle.file_commands.specs.declared.converting.Conversion.TheVariants.{File, Report}
use Rattle.file_commands.specs.lemmas.CommandLemmas.{one-short}
use Rattle.file_commands.specs.lemmas.WorkTerms.{HasOutcome}

-- the file is all that is read
pub reads_one : (made_of : Conversion) (file : List ℕ) → inputs_of (command_making made_of file) ≡ file ∷ []
reads_one (File made.Configuration output) file = refl
reads_one (File made.Upgraded output) file = refl
reads_one (File made.Image output) file = refl
reads_one (Report printed.Image) file = refl
reads_one (Report printed.Container) file = refl
reads_one (Report printed.Verdict) file = refl
reads_one (Report printed.Plan) file = refl
reads_one (Report printed.Verdicts) file = refl
reads_one (Report printed.Groups) file = refl
reads_one (Report printed.Steering) file = refl

-- what is made of a file with these bytes, and the outcome of that
abbrev pub conversion_outcome : Conversion → List ℕ → List ℕ → Outcome
conversion_outcome (File what output) file bytes = converted file (outcome_of_file output.now) (made_file what bytes)
conversion_outcome (Report what) file bytes = converted file outcome_of_print (printout_text what bytes)

-- it is the outcome of the command
pub converts : (made_of : Conversion) (file : List ℕ) (contents : List (List ℕ)) → outcome_of_contents (command_making made_of file) contents ≡ conversion_outcome made_of file (content 0 contents)
converts (File made.Configuration output) file contents = refl
converts (File made.Upgraded output) file contents = refl
converts (File made.Image output) file contents = refl
converts (Report printed.Image) file contents = refl
converts (Report printed.Container) file contents = refl
converts (Report printed.Verdict) file contents = refl
converts (Report printed.Plan) file contents = refl
converts (Report printed.Verdicts) file contents = refl
converts (Report printed.Groups) file contents = refl
converts (Report printed.Steering) file contents = refl

-- where the file is not too long, what is done with what is made is what the command does
pub command_outcome : (e : Ending) (made_of : Conversion) (file bytes : List ℕ) (before after : Outside) → length bytes ≤ FILE_BYTES → HasOutcome e (conversion_outcome made_of file bytes) before after
    → HasOutcome e (outcome_of (command_making made_of file) (bytes ∷ [])) before after
command_outcome e made_of file bytes before after short comes =
    subst (λ (outcome : Outcome). HasOutcome e outcome before after)
    (sym (one-short (command_making made_of file) file bytes (reads_one made_of file) short ∙ converts made_of file (bytes ∷ []))) comes

-- where something was made, its outcome is that of the conversion
pub made_outcome : (e : Ending) (file : List ℕ) (outcome : List ℕ → Outcome) (m : Result (List ℕ) (List ℕ)) (bytes : List ℕ) (before after : Outside) → m ≡ Ok bytes → HasOutcome e (outcome bytes) before after
    → HasOutcome e (converted file outcome m) before after
made_outcome e file outcome m bytes before after is comes = subst (λ (r : Result (List ℕ) (List ℕ)). HasOutcome e (converted file outcome r) before after) (sym is) comes
