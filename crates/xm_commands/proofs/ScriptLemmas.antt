-- A run from a saved machine has no scripts, by the grammar of its words.
use Rattle.std.proofs.Common.{◌≡◌, ℕ, ⊎_elim, List, [], Option, Some, None, sym, ap, ◌∙◌}
use Rattle.command_line.specs.Grammar.{CommandsAreSpelled}
use Rattle.command_line.specs.Words.{RunOption, Command, Bare, Parse, Upgrade, BuildImage, ReadImage, Pack, ListContainer, CheckContainer, MakePlan, CheckPlan, ListGroups, ListSteerers, Generate, Run, Replay, command_of, first_file, from_in, run_files_in}
use Rattle.command_line.specs.declared.run_options.RunKind.TheVariants as whole
use Rattle.xm_commands.proofs.SeparationLemmas.{HasNoScripts, OfCommand}

-- options that name no saved machine do not go on from one
no_file : (options : List RunOption) (file : List ℕ) → run_files_in whole.From options ≡ [] → from_in options ≡ Some file → ⊥
no_file options file none named = (let wrong : None ≡ Some file = sym (ap first_file none) ∙ named in cc)

-- so it is with a run of words
pub run_unscripted : CommandsAreSpelled → (words : List (List ℕ)) (container : List ℕ) (options : List RunOption) → command_of words ≡ Some (Run container options) → HasNoScripts (Run container options)
run_unscripted grammar words container options is = λ file named.
    ⊎_elim (λ none. absurd (no_file options file none named)) (λ bare. bare.1) ((grammar words (Run container options)).0 is).1.1.begun

-- and with all words
pub no_scripts : CommandsAreSpelled → (words : List (List ℕ)) (command : Option Command) → command_of words ≡ command → OfCommand HasNoScripts command
no_scripts grammar words None is = tt
no_scripts grammar words (Some (Bare image ticks)) is = tt
no_scripts grammar words (Some (Parse description output)) is = tt
no_scripts grammar words (Some (Upgrade configuration output)) is = tt
no_scripts grammar words (Some (BuildImage program output)) is = tt
no_scripts grammar words (Some (ReadImage image)) is = tt
no_scripts grammar words (Some (Pack configuration output images)) is = tt
no_scripts grammar words (Some (ListContainer container)) is = tt
no_scripts grammar words (Some (CheckContainer container)) is = tt
no_scripts grammar words (Some (MakePlan description)) is = tt
no_scripts grammar words (Some (CheckPlan description)) is = tt
no_scripts grammar words (Some (ListGroups description)) is = tt
no_scripts grammar words (Some (ListSteerers description)) is = tt
no_scripts grammar words (Some (Generate number)) is = tt
no_scripts grammar words (Some (Replay container part script options)) is = tt
no_scripts grammar words (Some (Run container options)) is = run_unscripted grammar words container options is
