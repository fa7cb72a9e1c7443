-- The files that are made of a run: its scripts and its saved machine.
use Rattle.std.proofs.Common.{◌≡◌, ℕ, Bool, true, false, nat_lt, if◌then◌else◌, List, [], ◌∷◌, ◌++◌, length, map, Option, Some, None, Result, Ok, Err, refl, sym, ap, ◌∙◌}
use Rattle.xm_base.specs.declared.limits.TheConstants.{FILE_BYTES}
use Rattle.machine_model.specs.Machine.{Machine}
use Rattle.machine_model.specs.View.{System}
use Rattle.upset_model.specs.declared.upset_line.UpsetLine.{UpsetLine}
use Rattle.saved_machines.specs.Saving.{saved_file, stored_digest}
use Rattle.command_line.specs.Words.{PartFile}
use Rattle.file_commands.specs.Denial.{Denial}
use Rattle.file_commands.specs.Ending.{saved_text}
use Rattle.file_commands.specs.Packing.{denial}
use Rattle.file_commands.specs.Outcome.{Output, made_both, save_for, script_before, script_denial, script_output, scripts_for, unless_denied}
use Rattle.xm_commands.specs.Separation.{save_outputs}

-- where no script is refused they are what the partitions received
pub scripts_are : (upsets : List UpsetLine) (system : System) (ticks : ℕ) (names : List PartFile) (outputs : List Output) → scripts_for upsets system ticks names ≡ Ok outputs → outputs ≡ map (script_output upsets system ticks) names
scripts_are upsets system ticks [] outputs made = (let none : [] ≡ outputs = cc in sym none)
scripts_are upsets system ticks (named ∷ names) outputs made = at (script_denial upsets system ticks named) (scripts_for upsets system ticks names) refl (scripts_are upsets system ticks names) made
  where
    at : (refusal : Option Denial) (later : Result (List Output) Denial) → scripts_for upsets system ticks names ≡ later
        → ((others : List Output) → scripts_for upsets system ticks names ≡ Ok others → others ≡ map (script_output upsets system ticks) names)
        → unless_denied refusal (script_before (script_output upsets system ticks named) later) ≡ Ok outputs → outputs ≡ map (script_output upsets system ticks) (named ∷ names)
    at (Some refusal) later are rest e = absurd (cc)
    at None (Err refusal) are rest e = absurd (cc)
    at None (Ok others) are rest e =
        let all : script_output upsets system ticks named ∷ others ≡ outputs = cc in
        sym all ∙ ap (λ (os : List Output). script_output upsets system ticks named ∷ os) (rest others are)

-- where the saved machine is not refused it is what the machine is saved as
pub saves_are : (named : Option (List ℕ)) (box : List ℕ) (g : Machine) (outputs : List Output) → save_for named box g ≡ Ok outputs → outputs ≡ save_outputs box g named
saves_are None box g outputs made = (let none : [] ≡ outputs = cc in sym none)
saves_are (Some file) box g outputs made = at (nat_lt FILE_BYTES (length (saved_file (stored_digest box) g))) made
  where
    at : (t : Bool) → (if t then Err (denial file (saved_text (length (saved_file (stored_digest box) g)))) else Ok (record { file = file; bytes = saved_file (stored_digest box) g } ∷ [])) ≡ Ok outputs → outputs ≡ save_outputs box g (Some file)
    at true e = absurd (cc)
    at false e = (let all : record { file = file; bytes = saved_file (stored_digest box) g } ∷ [] ≡ outputs = cc in sym all)

-- both were made
pub record AreBoth (first second : Result (List Output) Denial) (outputs : List Output) : Type 0 where
  pub one : List Output
  pub other : List Output
  pub are : first ≡ Ok one
  pub rest : second ≡ Ok other
  pub all : outputs ≡ one ++ other

pub both_are : (first second : Result (List Output) Denial) (outputs : List Output) → made_both first second ≡ Ok outputs → AreBoth first second outputs
both_are (Ok one) (Ok other) outputs made = record { one = one; other = other; are = refl; rest = refl; all = let same : one ++ other ≡ outputs = cc in sym same }
both_are (Ok one) (Err refusal) outputs made = absurd (cc)
both_are (Err refusal) second outputs made = absurd (cc)

-- the scripts, and the saved machine after them
pub made_are : (upsets : List UpsetLine) (system : System) (ticks : ℕ) (scripts : List PartFile) (save : Option (List ℕ)) (box : List ℕ) (last : Machine) (outputs : List Output)
    → made_both (scripts_for upsets system ticks scripts) (save_for save box last) ≡ Ok outputs → outputs ≡ map (script_output upsets system ticks) scripts ++ save_outputs box last save
made_are upsets system ticks scripts save box last outputs made =
    let both = both_are (scripts_for upsets system ticks scripts) (save_for save box last) outputs made in
    both.all ∙ ap (λ (os : List Output). os ++ both.other) (scripts_are upsets system ticks scripts both.one both.are)
    ∙ ap (λ (os : List Output). map (script_output upsets system ticks) scripts ++ os) (saves_are save box last both.other both.rest)
