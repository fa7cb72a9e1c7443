-- The files that a command writes after its report are those that its words name.
use Rattle.std.proofs.Common.{◌≡◌, ℕ, ◌+◌, ◌≤◌, ◌⊎◌, inl, inr, ⊎_elim, Bool, true, false, nat_lt, ◌==◌, ◌||◌, if◌then◌else◌, List, [], ◌∷◌, ◌++◌, length, map, drop, Option, Some, None, Result, Ok, Err, refl, subst, sym, ap, ◌∙◌, arith}
use Rattle.std.proofs.lemmas.List.{append_assoc, length-map, map-append}
use Rattle.xm_base.specs.declared.limits.TheConstants.{FILE_BYTES, IMAGE_BYTES, TICKS}
use Rattle.xm_container.specs.Reading.{unpacked}
use Rattle.fault_messages.specs.declared.fault.BoxFault.{BoxFault}
use Rattle.loaded_system.specs.Bare.{bare_system}
use Rattle.loaded_system.specs.System.{System}
use Rattle.machine_model.specs.Machine.{Machine, start}
use Rattle.machine_model.specs.View.{System as Booted}
use Rattle.upset_model.specs.declared.upset_line.UpsetLine.{UpsetLine}
use Rattle.continuation_laws.specs.Onward.{after_ticks}
use Rattle.saved_machines.specs.Saving.{saved_file, stored_digest}
use Rattle.system_state.specs.State.{with_inputs}
use Rattle.command_line.specs.Words.{Command, PartFile, RunOption, Bare, Parse, Upgrade, BuildImage, ReadImage, Pack, ListContainer, CheckContainer, MakePlan, CheckPlan, ListGroups, ListSteerers, Generate, Run, Replay, ReplayFile, cores_in, replay_core, save_in, scripts_in, span_in}
use Rattle.builders.specs.Ready.{Replay as Readied, Unready, replay_of}
use Rattle.file_commands.specs.Denial.{Denial}
use Rattle.file_commands.specs.Ending.{length_text, saved_text, ticks_text}
use Rattle.file_commands.specs.Inputs.{no_inputs}
use Rattle.file_commands.specs.Outcome.{Outcome, Output, bare_outcome, beginning_of, content, converted, core_outputs, first_long, replay_input_bytes, replay_upset_bytes, inputs_of, later_of, name_if_any, outcome_of_file, outcome_of_print, outcome_of, output_of, packed_to, played, outcome_of_run, made_after, made_both, ran_for, ran_from, ran_making, ran_struck, ran_with, ran_within, save_for, command_refused, replay_outcome_by, replay_outcome, replay_output, run_by, run_outcome, script_before, script_denial, script_output, scripts_for, ticks_asked, unless_denied, unless_long, outcome_of_contents, upsets_for}
use Rattle.file_commands.specs.Packing.{container_of, denial, file_names}
use Rattle.file_commands.specs.Work.{file_in}
use Rattle.file_commands.specs.lemmas.OutputLemmas.{output-named}

-- The names of the files.

-- the names of files that are written
abbrev pub output_names : List Output → List (List ℕ)
output_names outputs = map (λ (output : Output). output.file) outputs

-- the files are those that are named, or there are none
abbrev pub AreNamed : List (List ℕ) → List Output → Type 0
AreNamed names outputs = (output_names outputs ≡ names) ⊎ (outputs ≡ [])

-- files that were made are those that are named
abbrev IsNamed : List (List ℕ) → Result (List Output) Denial → Type 0
IsNamed names (Ok outputs) = output_names outputs ≡ names
IsNamed names (Err refusal) = Unit {0}

-- so they are no more
pub named_few : (names : List (List ℕ)) (outputs : List Output) → AreNamed names outputs → length outputs ≤ length names
named_few names outputs are = ⊎_elim
    (λ same. (let count : length outputs ≡ length names = sym (length-map outputs (λ (output : Output). output.file)) ∙ ap length same in omega (arith, count)))
    (λ none. (let count : length outputs ≡ 0 = ap length none in omega (arith, count)))
    are

-- core files are named as the words name them
core_outputs-files : (g : Machine) (cores : List PartFile) → output_names (core_outputs g cores) ≡ file_names cores
unfolding core_outputs
core_outputs-files g [] = refl
core_outputs-files g (named ∷ cores) = ap (λ (files : List (List ℕ)). named.file ∷ files) (core_outputs-files g cores)

-- and so are scripts, or one is refused
scripts_named : (upsets : List UpsetLine) (system : Booted) (ticks : ℕ) (names : List PartFile) → IsNamed (file_names names) (scripts_for upsets system ticks names)
scripts_named upsets system ticks [] = refl
scripts_named upsets system ticks (named ∷ names) = at (script_denial upsets system ticks named) (scripts_for upsets system ticks names) (scripts_named upsets system ticks names)
  where
    at : (refusal : Option Denial) (later : Result (List Output) Denial) → IsNamed (file_names names) later
        → IsNamed (named.file ∷ file_names names) (unless_denied refusal (script_before (script_output upsets system ticks named) later))
    at (Some refusal) later are = tt
    at None (Ok outputs) are = ap (λ (files : List (List ℕ)). named.file ∷ files) are
    at None (Err refusal) are = tt

-- and so is a saved machine, or it is refused
save_named : (named : Option (List ℕ)) (box : List ℕ) (g : Machine) → IsNamed (name_if_any named) (save_for named box g)
save_named None box g = refl
save_named (Some file) box g = at (nat_lt FILE_BYTES (length (saved_file (stored_digest box) g)))
  where
    at : (t : Bool) → IsNamed (file ∷ []) (if t then Err (denial file (saved_text (length (saved_file (stored_digest box) g)))) else Ok (record { file = file; bytes = saved_file (stored_digest box) g } ∷ []))
    at true = tt
    at false = refl

-- and so are files with others after them
after_named : (names others : List (List ℕ)) (outputs : List Output) (later : Result (List Output) Denial) → output_names outputs ≡ names → IsNamed others later → IsNamed (names ++ others) (made_after outputs later)
after_named names others outputs (Ok later) first last =
    map-append (λ (output : Output). output.file) outputs later ∙ ap (λ (files : List (List ℕ)). files ++ output_names later) first ∙ ap (λ (files : List (List ℕ)). names ++ files) last
after_named names others outputs (Err refusal) first last = tt

both_named : (names others : List (List ℕ)) (made later : Result (List Output) Denial) → IsNamed names made → IsNamed others later → IsNamed (names ++ others) (made_both made later)
both_named names others (Ok outputs) later first last = after_named names others outputs later first last
both_named names others (Err refusal) later first last = tt

ran-later : (upsets : List UpsetLine) (ticks : ℕ) (cores : List PartFile) (made : List Output) (names : List (List ℕ)) (g : Machine) → output_names made ≡ names
    → AreNamed (file_names cores ++ names) (outcome_of_run upsets ticks cores made g).later
unfolding outcome_of_run
ran-later upsets ticks cores made names g are =
    inl (map-append (λ (output : Output). output.file) (core_outputs _ cores) made ∙ ap (λ (files : List (List ℕ)). files ++ output_names made) (core_outputs-files _ cores)
    ∙ ap (λ (files : List (List ℕ)). file_names cores ++ files) are)

bare-later : (file : List ℕ) (ticks : ℕ) (image : List ℕ) → AreNamed [] (bare_outcome file ticks image).later
unfolding bare_outcome
bare-later file ticks image = at ((length image == 0) || nat_lt IMAGE_BYTES (length image))
  where
    at : (t : Bool) → AreNamed [] (if t then command_refused file (length_text (length image)) else outcome_of_run [] ticks [] [] (start (with_inputs (bare_system image) (no_inputs 1)))).later
    at true = inr refl
    at false = ran-later [] ticks [] [] [] (start (with_inputs (bare_system image) (no_inputs 1))) refl

-- the names of the files that a run makes after its core files: its scripts and its saved machine
abbrev made_names : List RunOption → List (List ℕ)
made_names options = file_names (scripts_in options) ++ name_if_any (save_in options)

-- the names of all files of a run, its core files first
abbrev run_names : List RunOption → List (List ℕ)
run_names options = file_names (cores_in options) ++ file_names (scripts_in options) ++ name_if_any (save_in options)

-- those are the core files and then the others
names_joined : (options : List RunOption) → file_names (cores_in options) ++ made_names options ≡ run_names options
names_joined options = sym (append_assoc (file_names (cores_in options)) (file_names (scripts_in options)) (name_if_any (save_in options)))

making-later : (upsets : List UpsetLine) (ticks : ℕ) (options : List RunOption) (g : Machine) (made : Result (List Output) Denial) → IsNamed (made_names options) made
    → AreNamed (run_names options) (ran_making upsets ticks (cores_in options) g made).later
making-later upsets ticks options g (Ok made) are =
    subst (λ (names : List (List ℕ)). AreNamed names (outcome_of_run upsets ticks (cores_in options) made g).later) (names_joined options) (ran-later upsets ticks (cores_in options) made (made_names options) g are)
making-later upsets ticks options g (Err refusal) are = inr refl

struck-later : (ticks : ℕ) (options : List RunOption) (box : List ℕ) (g : Machine) (read : Result (List UpsetLine) Denial) → AreNamed (run_names options) (ran_struck ticks options box g read).later
struck-later ticks options box g (Ok upsets) =
    making-later upsets ticks options g _
    (both_named (file_names (scripts_in options)) (name_if_any (save_in options)) _ _ (scripts_named upsets g.system ticks (scripts_in options)) (save_named (save_in options) box (after_ticks upsets g ticks)))
struck-later ticks options box g (Err refusal) = inr refl

within-later : (file : List ℕ) (options : List RunOption) (box : List ℕ) (contents : List (List ℕ)) (g : Machine) → AreNamed (run_names options) (ran_within file options box contents g).later
unfolding ran_within
within-later file options box contents g = at (ticks_asked (span_in options) g.system.conf)
  where
    by : (asked : ℕ) (t : Bool) → AreNamed (run_names options) (if t then command_refused file (ticks_text (g.ticks + asked)) else ran_struck asked options box g (upsets_for g.system.conf g.ticks asked options contents)).later
    by asked true = inr refl
    by asked false = struck-later asked options box g (upsets_for g.system.conf g.ticks asked options contents)

    at : (asked : ℕ) → AreNamed (run_names options) (ran_for file asked options box contents g).later
    at asked = by asked (nat_lt TICKS (g.ticks + asked))

from-later : (file : List ℕ) (options : List RunOption) (box : List ℕ) (contents : List (List ℕ)) (begun : Result Machine Denial) → AreNamed (run_names options) (ran_from file options box contents begun).later
from-later file options box contents (Ok g) = within-later file options box contents g
from-later file options box contents (Err refusal) = inr refl

with-later : (file : List ℕ) (options : List RunOption) (box : List ℕ) (contents : List (List ℕ)) (system : System) (read : Result (List (List ℕ)) Denial) → AreNamed (run_names options) (ran_with file options box contents system read).later
with-later file options box contents system (Ok inputs) = from-later file options box contents (beginning_of options box contents system inputs)
with-later file options box contents system (Err refusal) = inr refl

run-later : (file : List ℕ) (options : List RunOption) (bytes : List ℕ) (contents : List (List ℕ)) → AreNamed (run_names options) (run_outcome file options bytes contents).later
unfolding run_outcome
run-later file options bytes contents = at (unpacked bytes)
  where
    at : (read : Result System BoxFault) → AreNamed (run_names options) (run_by file options bytes contents read).later
    at (Ok system) = with-later file options bytes contents system _
    at (Err fault) = inr refl

made-later : (file : List ℕ) (outcome : List ℕ → Outcome) (made_of : Result (List ℕ) (List ℕ)) → ((bytes : List ℕ) → (outcome bytes).later ≡ []) → (converted file outcome made_of).later ≡ []
made-later file outcome (Ok bytes) none = none bytes
made-later file outcome (Err text) none = refl

packed-later : (file : List ℕ) (packed : Result (List ℕ) Denial) → (packed_to file packed).later ≡ []
packed-later file (Ok bytes) = refl
packed-later file (Err refusal) = refl

-- the core file of a replay
replay_output-files : (replay : Readied) (core : Option (List ℕ)) → output_names (map (replay_output replay) (name_if_any core)) ≡ name_if_any core
replay_output-files replay None = refl
replay_output-files replay (Some file) = refl

played-later : (core : Option (List ℕ)) (replay : Readied) → AreNamed (name_if_any core) (played core replay).later
unfolding played
played-later core replay = inl (replay_output-files replay core)

replay-later : (container : List ℕ) (part : ℕ) (script : List ℕ) (options : List ReplayFile) (bytes received input struck : List ℕ) → AreNamed (name_if_any (replay_core options)) (replay_outcome container part script options bytes received input struck).later
unfolding replay_outcome
replay-later container part script options bytes received input struck = at (replay_of bytes part received input struck)
  where
    at : (made_of : Result Readied Unready) → AreNamed (name_if_any (replay_core options)) (replay_outcome_by container part script options made_of).later
    at (Ok replay) = played-later (replay_core options) replay
    at (Err why) = inr refl

-- the files after the report are those that the words name, or none
pub later-named : (command : Command) (contents : List (List ℕ)) → AreNamed (later_of command) (outcome_of command contents).later
unfolding outcome_of
later-named command contents = at command (first_long (inputs_of command) contents)
  where
    at : (command : Command) (long : Option (List ℕ)) → AreNamed (later_of command) (unless_long long (outcome_of_contents command contents)).later
    at command (Some file) = inr refl
    at (Bare image ticks) None = bare-later image ticks (content 0 contents)
    at (Parse description out) None = inr (made-later description (outcome_of_file out) _ (λ bytes. refl))
    at (Upgrade configuration out) None = inr (made-later configuration (outcome_of_file out) _ (λ bytes. refl))
    at (BuildImage program out) None = inr (made-later program (outcome_of_file out) _ (λ bytes. refl))
    at (ReadImage image) None = inr (made-later image outcome_of_print _ (λ bytes. refl))
    at (Pack configuration out images) None = inr (packed-later out (container_of configuration (content 0 contents) images (drop 1 contents)))
    at (ListContainer container) None = inr (made-later container outcome_of_print _ (λ bytes. refl))
    at (CheckContainer container) None = inr (made-later container outcome_of_print _ (λ bytes. refl))
    at (MakePlan description) None = inr (made-later description outcome_of_print _ (λ bytes. refl))
    at (CheckPlan description) None = inr (made-later description outcome_of_print _ (λ bytes. refl))
    at (ListGroups description) None = inr (made-later description outcome_of_print _ (λ bytes. refl))
    at (ListSteerers description) None = inr (made-later description outcome_of_print _ (λ bytes. refl))
    at (Generate number) None = inr refl
    at (Run container options) None = run-later container options (content 0 contents) (drop 1 contents)
    at (Replay container part script options) None = replay-later container part script options (content 0 contents) (content 1 contents) (replay_input_bytes options contents) (replay_upset_bytes options contents)

-- a command whose words name none of them has none
pub no-later : (command : Command) (contents : List (List ℕ)) → later_of command ≡ [] → (outcome_of command contents).later ≡ []
no-later command contents none =
    empty _ (named_few (later_of command) (outcome_of command contents).later (later-named command contents)) none
  where
    empty : (outputs : List Output) → length outputs ≤ length (later_of command) → later_of command ≡ [] → outputs ≡ []
    empty [] few none = refl
    empty (output ∷ outputs) few none = (let zero : length (later_of command) ≡ 0 = ap length none in absurd (omega (arith, few, zero)))

-- the file before the report is the one that the words name, or none
pub first-named : (command : Command) (contents : List (List ℕ)) → AreNamed (name_if_any (output_of command)) (file_in (outcome_of command contents).output)
first-named command contents = at (outcome_of command contents).output (output-named command contents)
  where
    at : (o : Option Output) → ((output : Output) → o ≡ Some output → output_of command ≡ Some output.file) → AreNamed (name_if_any (output_of command)) (file_in o)
    at None named = inr refl
    at (Some output) named = inl (sym (ap name_if_any (named output refl)))
