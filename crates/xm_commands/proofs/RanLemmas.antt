-- A run that was not refused: what it began with, and what was made of it.
use Rattle.std.proofs.Common.{if◌then◌else◌, ◌≡◌, ℕ, ◌+◌, ◌≤◌, Bool, true, false, nat_lt, List, ◌∷◌, length, drop, Option, Some, None, Result, Ok, Err, refl, sym, ap, ◌∙◌, arith}
use Rattle.std.proofs.lemmas.Bool.Decides.{nat_tests}
use Rattle.xm_base.specs.declared.limits.TheConstants.{TICKS}
use Rattle.continuation_laws.specs.Onward.{after_ticks}
use Rattle.fault_messages.specs.declared.fault.BoxFault.{BoxFault}
use Rattle.loaded_system.specs.System.{System as Loaded}
use Rattle.machine_model.specs.Machine.{Machine}
use Rattle.upset_model.specs.declared.upset_line.UpsetLine.{UpsetLine}
use Rattle.xm_container.specs.Reading.{unpacked}
use Rattle.command_line.specs.Words.{RunOption, Run, cores_in, save_in, scripts_in, span_in}
use Rattle.file_commands.specs.lemmas.CommandLemmas.{outcome-long, outcome-short}
use Rattle.file_commands.specs.Denial.{Denial}
use Rattle.file_commands.specs.Ending.{ticks_text}
use Rattle.file_commands.specs.Inputs.{inputs_for}
use Rattle.file_commands.specs.Outcome.{Output, Outcome, beginning_of, command_refused, content, first_long, made_both, outcome_of, outcome_of_run, ran_from, ran_making, ran_struck, ran_with, ran_within, refused_by, run_by, run_inputs, run_outcome, save_for, scripts_for, ticks_asked, upsets_for}

-- what a result gives is one
pub same_ok : {T E : Type 0} (one other : T) (r : Result T E) → r ≡ Ok one → r ≡ Ok other → one ≡ other
same_ok one other r first second = (let both = sym first ∙ second in cc)

-- how many ticks a run asks for, from a machine on
abbrev pub asked_of : List RunOption → Machine → ℕ
asked_of options g = ticks_asked (span_in options) g.system.conf

-- what is made of a run from a machine on
abbrev pub made_of : List UpsetLine → List RunOption → List ℕ → Machine → Result (List Output) Denial
made_of upsets options box g =
    made_both (scripts_for upsets g.system (asked_of options g) (scripts_in options)) (save_for (save_in options) box (after_ticks upsets g (asked_of options g)))

-- its files are short, its container is unpacked, its inputs are given, there is the machine that it begins with, its ticks are within the limit, its upsets
-- are read, and its files are made
pub record WasRan (container : List ℕ) (options : List RunOption) (contents : List (List ℕ)) : Type 0 where
  pub short : first_long (container ∷ run_inputs options) contents ≡ None
  pub system : Loaded
  pub unpacks : unpacked (content 0 contents) ≡ Ok system
  pub inputs : List (List ℕ)
  pub given : inputs_for (length system.conf.parts) options (drop 1 contents) ≡ Ok inputs
  pub machine : Machine
  pub begins : beginning_of options (content 0 contents) (drop 1 contents) system inputs ≡ Ok machine
  pub most : machine.ticks + asked_of options machine ≤ TICKS
  pub upsets : List UpsetLine
  pub strikes : upsets_for machine.system.conf machine.ticks (asked_of options machine) options (drop 1 contents) ≡ Ok upsets
  pub outputs : List Output
  pub made : made_of upsets options (content 0 contents) machine ≡ Ok outputs
  pub is : outcome_of (Run container options) contents ≡ outcome_of_run upsets (asked_of options machine) (cores_in options) outputs machine

-- an outcome that is granted is no refusal
granted_never : (outcome : Outcome) (denial : Denial) → outcome.denial ≡ None → outcome ≡ refused_by denial → ⊥
granted_never outcome denial granted same = (let wrong : None ≡ Some denial = sym granted ∙ ap (λ (o : Outcome). o.denial) same in cc)

module _ (container : List ℕ) (options : List RunOption) (contents : List (List ℕ)) (granted : (outcome_of (Run container options) contents).denial ≡ None) (short : first_long (container ∷ run_inputs options) contents ≡ None) where
  -- its outcome is no refusal
  never : (denial : Denial) → outcome_of (Run container options) contents ≡ refused_by denial → ⊥
  never denial same = granted_never (outcome_of (Run container options) contents) denial granted same

  module _ (system : Loaded) (unpacks : unpacked (content 0 contents) ≡ Ok system) (inputs : List (List ℕ)) (given : inputs_for (length system.conf.parts) options (drop 1 contents) ≡ Ok inputs)
      (machine : Machine) (begins : beginning_of options (content 0 contents) (drop 1 contents) system inputs ≡ Ok machine) where
    by_files : machine.ticks + asked_of options machine ≤ TICKS → (upsets : List UpsetLine) → upsets_for machine.system.conf machine.ticks (asked_of options machine) options (drop 1 contents) ≡ Ok upsets
        → (made : Result (List Output) Denial) → made_of upsets options (content 0 contents) machine ≡ made
        → outcome_of (Run container options) contents ≡ ran_making upsets (asked_of options machine) (cores_in options) machine made → WasRan container options contents
    by_files most upsets strikes (Ok outputs) made same = record {
      short = short;
      system = system;
      unpacks = unpacks;
      inputs = inputs;
      given = given;
      machine = machine;
      begins = begins;
      most = most;
      upsets = upsets;
      strikes = strikes;
      outputs = outputs;
      made = made;
      is = same;
    }
    by_files most upsets strikes (Err refusal) made same = absurd (never refusal same)

    by_upsets : machine.ticks + asked_of options machine ≤ TICKS → (read : Result (List UpsetLine) Denial) → upsets_for machine.system.conf machine.ticks (asked_of options machine) options (drop 1 contents) ≡ read
        → outcome_of (Run container options) contents ≡ ran_struck (asked_of options machine) options (content 0 contents) machine read → WasRan container options contents
    by_upsets most (Ok upsets) strikes same = by_files most upsets strikes (made_of upsets options (content 0 contents) machine) refl same
    by_upsets most (Err refusal) strikes same = absurd (never refusal same)

    by_ticks : (t : Bool) → nat_lt TICKS (machine.ticks + asked_of options machine) ≡ t
        → outcome_of (Run container options) contents
        ≡ (if t then command_refused container (ticks_text (machine.ticks + asked_of options machine))
        else ran_struck (asked_of options machine) options (content 0 contents) machine (upsets_for machine.system.conf machine.ticks (asked_of options machine) options (drop 1 contents)))
        → WasRan container options contents
    by_ticks true over same = absurd (never _ same)
    by_ticks false within same =
        by_upsets (grind (arith, nat_tests)) (upsets_for machine.system.conf machine.ticks (asked_of options machine) options (drop 1 contents)) refl same

  by_machine : (system : Loaded) → unpacked (content 0 contents) ≡ Ok system → (inputs : List (List ℕ)) → inputs_for (length system.conf.parts) options (drop 1 contents) ≡ Ok inputs
      → (read : Result Machine Denial) → beginning_of options (content 0 contents) (drop 1 contents) system inputs ≡ read
      → outcome_of (Run container options) contents ≡ ran_from container options (content 0 contents) (drop 1 contents) read → WasRan container options contents
  unfolding ran_within
  by_machine system unpacks inputs given (Ok machine) begins same =
      by_ticks system unpacks inputs given machine begins (nat_lt TICKS (machine.ticks + asked_of options machine)) refl same
  by_machine system unpacks inputs given (Err refusal) begins same = absurd (never refusal same)

  by_inputs : (system : Loaded) → unpacked (content 0 contents) ≡ Ok system
      → (read : Result (List (List ℕ)) Denial) → inputs_for (length system.conf.parts) options (drop 1 contents) ≡ read
      → outcome_of (Run container options) contents ≡ ran_with container options (content 0 contents) (drop 1 contents) system read → WasRan container options contents
  by_inputs system unpacks (Ok inputs) given same = by_machine system unpacks inputs given (beginning_of options (content 0 contents) (drop 1 contents) system inputs) refl same
  by_inputs system unpacks (Err refusal) given same = absurd (never refusal same)

  by_container : (read : Result Loaded BoxFault) → unpacked (content 0 contents) ≡ read
      → outcome_of (Run container options) contents ≡ run_by container options (content 0 contents) (drop 1 contents) read → WasRan container options contents
  by_container (Ok system) unpacks same = by_inputs system unpacks (inputs_for (length system.conf.parts) options (drop 1 contents)) refl same
  by_container (Err fault) unpacks same = absurd (never _ same)

-- a run that is granted was done so
pub was_ran : (container : List ℕ) (options : List RunOption) (contents : List (List ℕ)) → (outcome_of (Run container options) contents).denial ≡ None → WasRan container options contents
unfolding run_outcome
was_ran container options contents granted = at (first_long (container ∷ run_inputs options) contents) refl
  where
    at : (long : Option (List ℕ)) → first_long (container ∷ run_inputs options) contents ≡ long → WasRan container options contents
    at None short = by_container container options contents granted short (unpacked (content 0 contents)) refl (outcome-short (Run container options) contents short)
    at (Some file) long = absurd (granted_never (outcome_of (Run container options) contents) _ granted (outcome-long (Run container options) contents file long))

-- a run that has all this is granted, and is done so
pub ran_outcome : (container : List ℕ) (options : List RunOption) (contents : List (List ℕ)) → first_long (container ∷ run_inputs options) contents ≡ None
    → (system : Loaded) → unpacked (content 0 contents) ≡ Ok system → (inputs : List (List ℕ)) → inputs_for (length system.conf.parts) options (drop 1 contents) ≡ Ok inputs
    → (machine : Machine) → beginning_of options (content 0 contents) (drop 1 contents) system inputs ≡ Ok machine → machine.ticks + asked_of options machine ≤ TICKS
    → (upsets : List UpsetLine) → upsets_for machine.system.conf machine.ticks (asked_of options machine) options (drop 1 contents) ≡ Ok upsets
    → (outputs : List Output) → made_of upsets options (content 0 contents) machine ≡ Ok outputs
    → outcome_of (Run container options) contents ≡ outcome_of_run upsets (asked_of options machine) (cores_in options) outputs machine
unfolding run_outcome ran_within
ran_outcome container options contents short system unpacks inputs given machine begins most upsets strikes outputs made =
    let test : nat_lt TICKS (machine.ticks + asked_of options machine) ≡ false = grind (arith, nat_tests) in
    outcome-short (Run container options) contents short
    ∙ ap (run_by container options (content 0 contents) (drop 1 contents)) unpacks
    ∙ ap (ran_with container options (content 0 contents) (drop 1 contents) system) given
    ∙ ap (ran_from container options (content 0 contents) (drop 1 contents)) begins
    ∙ ap (λ (t : Bool). if t then command_refused container (ticks_text (machine.ticks + asked_of options machine))
    else ran_struck (asked_of options machine) options (content 0 contents) machine (upsets_for machine.system.conf machine.ticks (asked_of options machine) options (drop 1 contents))) test
    ∙ ap (ran_struck (asked_of options machine) options (content 0 contents) machine) strikes
    ∙ ap (ran_making upsets (asked_of options machine) (cores_in options) machine) made
