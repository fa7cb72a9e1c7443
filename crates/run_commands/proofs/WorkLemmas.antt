-- The outcome of a run.
use Rattle.std.proofs.Common.{◌≡◌, ℕ, ◌<◌, ◌≤◌, ◌⊎◌, ⊎_elim, true, false, ◌||◌, nat_lt, nat_eq, List, [], ◌∷◌, ◌++◌, length, Option, None, Result, Ok, Err, refl, ap, ◌∙◌, subst, arith}
use Rattle.std.specs.Prelude.{IsSome}
use Rattle.std.specs.String.{string_bytes}
use Rattle.std.proofs.lemmas.Bool.Decides.{nat_tests}
use Rattle.xm_base.specs.declared.limits.TheConstants.{FILE_BYTES, IMAGE_BYTES}
use Rattle.xm_outside.specs.Causes.{Rose}
use Rattle.xm_outside.specs.Files.{Files}
use Rattle.xm_outside.specs.Growth.{grown}
use Rattle.xm_conf.specs.Configuration.{Conf}
use Rattle.xm_conf.specs.Description.{described}
use Rattle.xm_conf.specs.Fits.{Fits}
use Rattle.system_state.specs.State.{with_inputs}
use Rattle.continuation_laws.specs.Onward.{after_ticks}
use Rattle.upset_model.specs.declared.upset_line.UpsetLine.{UpsetLine}
use Rattle.xm_machine.specs.Struck.{IsStruckRun}
use Rattle.machine_model.specs.Machine.{Machine, start}
use Rattle.loaded_system.specs.Bare.{IsImageLength, bare_system}
use Rattle.loaded_system.specs.System.{System}
use Rattle.xm_machine.specs.declared.run.Ran.{Ran}
use Rattle.uart_board.specs.Views.{BoardView}
use Rattle.xm_report.specs.declared.output.WriteFault.{WriteFault}
use Rattle.xm_container.specs.Reading.{unpacked}
use Rattle.fault_messages.specs.Texts.{box_fault_text}
use Rattle.fault_messages.specs.declared.fault.BoxFault.{BoxFault}
use Rattle.command_line.specs.Words.{PartFile, RunOption, Bare}
use Rattle.run_commands.specs.EndsAfter.{EndsAfter}
use Rattle.run_commands.specs.lemmas.EndsAfterLemmas.{outcome_and_after}
use Rattle.file_commands.specs.Ending.{Ending, WriteFaultReport, length_text}
use Rattle.file_commands.specs.Outcome.{Output, bare_outcome, core_outputs, outcome_of, outcome_of_run, ran_with, command_refused, run_by, run_outcome}
use Rattle.file_commands.specs.Inputs.{inputs_for, no_inputs}
use Rattle.builders.specs.Makes.{IsUnmade}
use Rattle.file_commands.specs.Makes.{IsUnmadeOf}
use Rattle.builders.specs.declared.unmade.Unmade.{Unmade}
use Rattle.builders.specs.declared.unmade.Unmade.TheVariants as unmade
use Rattle.file_commands.specs.Work.{Outside, outside, reported_all}
use Rattle.file_commands.specs.lemmas.WorkTerms.{HasOutcome}
use Rattle.file_commands.specs.lemmas.CommandLemmas.{one-short, refused_outcome}

-- Runs.

-- a run that reached its end printed its report
pub finished : {from to : BoardView} (r : Ran) (upsets : List UpsetLine) (ticks : ℕ) (cores : List PartFile) (made : List Output) (g new : Machine) (had got : Option (List ℕ)) → IsStruckRun (Ok r) upsets ticks g new had got from to
    → got ≡ grown had (outcome_of_run upsets ticks cores made g).report
unfolding outcome_of_run
finished r upsets ticks cores made g new had got is = is.report

-- a run whose report was not taken whole
pub unwritten : {from to : BoardView} (fault : WriteFault) (upsets : List UpsetLine) (ticks : ℕ) (cores : List PartFile) (made : List Output) (g new : Machine) (had got : Option (List ℕ)) (before now : ℕ) (files : Option Files) (reads writes calls : ℕ)
    → IsStruckRun (Err fault) upsets ticks g new had got from to → Rose before now
    → HasOutcome WriteFaultReport (outcome_of_run upsets ticks cores made g) (outside files reads writes calls had before) (outside files reads writes calls got now)
unfolding outcome_of_run
unwritten fault upsets ticks cores made g new had got before now files reads writes calls is rose = (rose, is.report, refl)

-- what is run is granted, and is a run
granted : (upsets : List UpsetLine) (ticks : ℕ) (cores : List PartFile) (made : List Output) (g : Machine) → (outcome_of_run upsets ticks cores made g).denial ≡ None
unfolding outcome_of_run
granted upsets ticks cores made g = refl

runs : (upsets : List UpsetLine) (ticks : ℕ) (cores : List PartFile) (made : List Output) (g : Machine) → IsSome (outcome_of_run upsets ticks cores made g).run
unfolding outcome_of_run
runs upsets ticks cores made g = refl

-- the files after its report
files_and_after : (upsets : List UpsetLine) (ticks : ℕ) (cores : List PartFile) (made : List Output) (g new : Machine) → new ≡ after_ticks upsets g ticks → core_outputs new cores ++ made ≡ (outcome_of_run upsets ticks cores made g).later
unfolding outcome_of_run
files_and_after upsets ticks cores made g new is = ap (λ (m : Machine). core_outputs m cores ++ made) is

-- the outside as its report leaves it
report_and_after : {from to : BoardView} (r : Ran) (upsets : List UpsetLine) (ticks : ℕ) (cores : List PartFile) (made : List Output) (g new : Machine) (had got : Option (List ℕ)) (before now : ℕ) (files : Option Files) (reads writes calls : ℕ)
    → IsStruckRun (Ok r) upsets ticks g new had got from to → now ≡ before → outside files reads writes calls got now ≡ reported_all (outcome_of_run upsets ticks cores made g) (outside files reads writes calls had before)
unfolding outcome_of_run
report_and_after r upsets ticks cores made g new had got before now files reads writes calls is same =
    let reported = finished r upsets ticks cores made g new had got is in
    rw (reported, same) refl

-- the outcome of a run whose whole report went out is what is done after it
pub run_and_after : {from to : BoardView} (e : Ending) (board : BoardView) (r : Ran) (upsets : List UpsetLine) (ticks : ℕ) (cores : List PartFile) (made : List Output) (g new : Machine) (had got : Option (List ℕ)) (before now : ℕ) (files : Option Files) (reads writes calls : ℕ) (after : Outside)
    → EndsAfter e (core_outputs new cores ++ made) board (outside files reads writes calls got now) after → IsStruckRun (Ok r) upsets ticks g new had got from to → now ≡ before
    → HasOutcome e (outcome_of_run upsets ticks cores made g) (outside files reads writes calls had before) after
run_and_after e board r upsets ticks cores made g new had got before now files reads writes calls after ends is same =
    outcome_and_after e board (outcome_of_run upsets ticks cores made g) (outside files reads writes calls had before) (outside files reads writes calls got now) after
    (granted upsets ticks cores made g) (runs upsets ticks cores made g)
    (report_and_after r upsets ticks cores made g new had got before now files reads writes calls is same)
    (subst (λ (os : List Output). EndsAfter e os board (outside files reads writes calls got now) after) (files_and_after upsets ticks cores made g new is.state) ends)

-- a configuration has a plan
pub has_plan : (conf : Conf) → Fits (described conf) → 0 < length conf.plans
unfolding described
has_plan conf fits = fits.counts.plans.some

-- the test of an image's length
length_test : (n : ℕ) → ((n ≡ 0) ⊎ (IMAGE_BYTES < n)) → (nat_eq n 0 || nat_lt IMAGE_BYTES n) ≡ true
length_test n wrong = ⊎_elim (λ h. grind (arith, nat_tests)) (λ h. grind (arith, nat_tests)) wrong

-- a file that is no image
pub outcome-length : (file : List ℕ) (ticks : ℕ) (bytes : List ℕ) → length bytes ≤ FILE_BYTES → ((length bytes ≡ 0) ⊎ (IMAGE_BYTES < length bytes)) → outcome_of (Bare file ticks) (bytes ∷ []) ≡ command_refused file (length_text (length bytes))
unfolding bare_outcome
outcome-length file ticks bytes short wrong = one-short (Bare file ticks) file bytes refl short ∙ (let test = length_test (length bytes) wrong in rw test refl)

-- a file that is an image
pub outcome-image : (file : List ℕ) (ticks : ℕ) (bytes : List ℕ) → IsImageLength (length bytes) → outcome_of (Bare file ticks) (bytes ∷ []) ≡ outcome_of_run [] ticks [] [] (start (with_inputs (bare_system bytes) (no_inputs 1)))
unfolding bare_outcome
outcome-image file ticks bytes is =
    let short : length bytes ≤ FILE_BYTES = omega (arith, is.most) in
    let test : (nat_eq (length bytes) 0 || nat_lt IMAGE_BYTES (length bytes)) ≡ false = grind (arith, nat_tests, is.most, is.some) in
    one-short (Bare file ticks) file bytes refl short ∙ rw test refl

-- a container that is one
pub outcome-unpacked : (file : List ℕ) (options : List RunOption) (bytes : List ℕ) (contents : List (List ℕ)) (system : System) → unpacked bytes ≡ Ok system
    → run_outcome file options bytes contents ≡ ran_with file options bytes contents system (inputs_for (length system.conf.parts) options contents)
unfolding run_outcome
outcome-unpacked file options bytes contents system is = ap (run_by file options bytes contents) is

-- the text of a container's fault
abbrev pub fault_text_by : Result System BoxFault → Result (List ℕ) (List ℕ)
fault_text_by (Ok system) = Ok []
fault_text_by (Err fault) = Err (box_fault_text fault)

-- and nothing is run
pub unmade_runs : (e : Ending) (file : List ℕ) (options : List RunOption) (bytes : List ℕ) (contents : List (List ℕ)) (why : Unmade) (read : Result System BoxFault) (before : Outside) → IsUnmadeOf e file why → IsUnmade why (fault_text_by read)
    → HasOutcome e (run_by file options bytes contents read) before before
unmade_runs e file options bytes contents (unmade.Refused text) (Ok system) before ends is = absurd (cc)
unmade_runs e file options bytes contents (unmade.Refused text) (Err fault) before ends is =
    let same : box_fault_text fault ≡ string_bytes text = cc in
    rw (ends, same) (refused_outcome file _ before)
unmade_runs e file options bytes contents unmade.Memory read before ends is = rw ends refl
