-- The calls of the store for files, and the file that a command writes before its report: it is the one that its words name.
use Rattle.std.proofs.Common.{◌≡◌, ℕ, ◌+◌, Bool, true, false, nat_lt, ◌==◌, ◌||◌, if◌then◌else◌, List, [], ◌∷◌, length, drop, Option, Some, None, Result, Ok, Err, refl, ap}
use Rattle.xm_base.specs.declared.limits.TheConstants.{IMAGE_BYTES, TICKS}
use Rattle.command_line.specs.Words.{Command, PartFile, RunOption, Bare, Parse, Upgrade, BuildImage, ReadImage, Pack, ListContainer, CheckContainer, MakePlan, CheckPlan, ListGroups, ListSteerers, Generate, Run, Replay, ReplayFile, cores_in, replay_core, span_in}
use Rattle.xm_container.specs.Reading.{unpacked}
use Rattle.fault_messages.specs.declared.fault.BoxFault.{BoxFault}
use Rattle.loaded_system.specs.Bare.{bare_system}
use Rattle.loaded_system.specs.System.{System}
use Rattle.machine_model.specs.Machine.{Machine, start}
use Rattle.upset_model.specs.declared.upset_line.UpsetLine.{UpsetLine}
use Rattle.system_state.specs.State.{with_inputs}
use Rattle.file_commands.specs.Ending.{length_text, ticks_text}
use Rattle.file_commands.specs.Inputs.{no_inputs}
use Rattle.file_commands.specs.Packing.{container_of}
use Rattle.builders.specs.Ready.{Replay as Readied, Unready, replay_of}
use Rattle.file_commands.specs.Denial.{Denial}
use Rattle.file_commands.specs.Outcome.{Output, bare_outcome, beginning_of, content, first_long, replay_input_bytes, replay_upset_bytes, converted, outcome_of_file, outcome_of_print, packed_to, played, outcome_of_run, ran_for, ran_from, ran_making, ran_struck, ran_with, ran_within, command_refused, replay_outcome_by, replay_outcome, run_by, run_outcome, inputs_of, outcome_of, output_of, ticks_asked, unless_long, outcome_of_contents, upsets_for}
use Rattle.file_commands.specs.Work.{counted_by, Outside, after_store_call, called_for}

-- Calls.

-- the outside after this many calls of the store
abbrev pub with_calls : ℕ → Outside → Outside
with_calls calls before = record before { calls = calls }

-- calls for files change nothing but the count of calls
pub called_for-is : (files : List (List ℕ)) (before : Outside) → called_for files before ≡ with_calls (counted_by (length files) before.calls) before
called_for-is [] before = refl
called_for-is (file ∷ files) before = called_for-is files (after_store_call before)

-- What is written first.

-- what is made is written where the words say
made-output : (input file : List ℕ) (made_of : Result (List ℕ) (List ℕ)) (output : Output) → (converted input (outcome_of_file file) made_of).output ≡ Some output → Some file ≡ Some output.file
made-output input file (Ok bytes) output e = (let same : record { file = file; bytes = bytes } ≡ output = cc in ap (λ (o : Output). Some o.file) same)
made-output input file (Err text) output e = absurd (cc)

-- what is packed is written where the words say
packed-output : (file : List ℕ) (packed : Result (List ℕ) Denial) (output : Output) → (packed_to file packed).output ≡ Some output → Some file ≡ Some output.file
packed-output file (Ok bytes) output e = (let same : record { file = file; bytes = bytes } ≡ output = cc in ap (λ (o : Output). Some o.file) same)
packed-output file (Err refusal) output e = absurd (cc)

-- what is printed writes no file
reported-output : (file : List ℕ) (text : Result (List ℕ) (List ℕ)) (output : Output) → (converted file outcome_of_print text).output ≡ Some output → ⊥
reported-output file (Ok text) output e = cc
reported-output file (Err text) output e = cc

-- a run of a machine writes no file before its report
ran-output : (upsets : List UpsetLine) (ticks : ℕ) (cores : List PartFile) (made : List Output) (g : Machine) (output : Output) → (outcome_of_run upsets ticks cores made g).output ≡ Some output → ⊥
unfolding outcome_of_run
ran-output upsets ticks cores made g output e = cc

-- a run of an image writes no file
bare-output : (file : List ℕ) (ticks : ℕ) (image : List ℕ) (output : Output) → (bare_outcome file ticks image).output ≡ Some output → ⊥
unfolding bare_outcome
bare-output file ticks image output e = at ((length image == 0) || nat_lt IMAGE_BYTES (length image)) e
  where
    at : (t : Bool) → (if t then command_refused file (length_text (length image)) else outcome_of_run [] ticks [] [] (start (with_inputs (bare_system image) (no_inputs 1)))).output ≡ Some output → ⊥
    at true e = cc
    at false e = ran-output [] ticks [] [] (start (with_inputs (bare_system image) (no_inputs 1))) output e

-- nor does one whose made files may be refused
making-output : (upsets : List UpsetLine) (ticks : ℕ) (cores : List PartFile) (g : Machine) (made : Result (List Output) Denial) (output : Output) → (ran_making upsets ticks cores g made).output ≡ Some output → ⊥
making-output upsets ticks cores g (Ok made) output e = ran-output upsets ticks cores made g output e
making-output upsets ticks cores g (Err refusal) output e = cc

-- nor one whose upsets may be refused
struck-output : (ticks : ℕ) (options : List RunOption) (box : List ℕ) (g : Machine) (read : Result (List UpsetLine) Denial) (output : Output) → (ran_struck ticks options box g read).output ≡ Some output → ⊥
struck-output ticks options box g (Ok upsets) output e = making-output upsets ticks (cores_in options) g _ output e
struck-output ticks options box g (Err refusal) output e = cc

-- nor one that may be too long
within-output : (file : List ℕ) (options : List RunOption) (box : List ℕ) (contents : List (List ℕ)) (g : Machine) (output : Output) → (ran_within file options box contents g).output ≡ Some output → ⊥
unfolding ran_within
within-output file options box contents g output e = at (ticks_asked (span_in options) g.system.conf) e
  where
    by : (asked : ℕ) (t : Bool) → (if t then command_refused file (ticks_text (g.ticks + asked)) else ran_struck asked options box g (upsets_for g.system.conf g.ticks asked options contents)).output ≡ Some output → ⊥
    by asked true e = cc
    by asked false e = struck-output asked options box g (upsets_for g.system.conf g.ticks asked options contents) output e

    at : (asked : ℕ) → (ran_for file asked options box contents g).output ≡ Some output → ⊥
    at asked e = by asked (nat_lt TICKS (g.ticks + asked)) e

-- nor one whose saved machine may be refused
from-output : (file : List ℕ) (options : List RunOption) (box : List ℕ) (contents : List (List ℕ)) (begun : Result Machine Denial) (output : Output) → (ran_from file options box contents begun).output ≡ Some output → ⊥
from-output file options box contents (Ok g) output e = within-output file options box contents g output e
from-output file options box contents (Err refusal) output e = cc

-- nor one whose inputs may be refused
with-output : (file : List ℕ) (options : List RunOption) (box : List ℕ) (contents : List (List ℕ)) (system : System) (read : Result (List (List ℕ)) Denial) (output : Output) → (ran_with file options box contents system read).output ≡ Some output → ⊥
with-output file options box contents system (Ok inputs) output e = from-output file options box contents (beginning_of options box contents system inputs) output e
with-output file options box contents system (Err refusal) output e = cc

-- a run of a container writes no file before its report
run-output : (file : List ℕ) (options : List RunOption) (bytes : List ℕ) (contents : List (List ℕ)) (output : Output) → (run_outcome file options bytes contents).output ≡ Some output → ⊥
unfolding run_outcome
run-output file options bytes contents output e = at (unpacked bytes) e
  where
    at : (read : Result System BoxFault) → (run_by file options bytes contents read).output ≡ Some output → ⊥
    at (Ok system) e = with-output file options bytes contents system _ output e
    at (Err fault) e = cc

-- a replay writes no file before its report
played-output : (core : Option (List ℕ)) (replay : Readied) (output : Output) → (played core replay).output ≡ Some output → ⊥
unfolding played
played-output core replay output e = cc

replay-output : (container : List ℕ) (part : ℕ) (script : List ℕ) (options : List ReplayFile) (bytes received input struck : List ℕ) (output : Output) → (replay_outcome container part script options bytes received input struck).output ≡ Some output → ⊥
unfolding replay_outcome
replay-output container part script options bytes received input struck output e = at (replay_of bytes part received input struck) e
  where
    at : (made_of : Result Readied Unready) → (replay_outcome_by container part script options made_of).output ≡ Some output → ⊥
    at (Ok replay) e = played-output (replay_core options) replay output e
    at (Err why) e = cc

-- a command that writes a file writes the one that its words name
pub output-named : (command : Command) (contents : List (List ℕ)) (output : Output) → (outcome_of command contents).output ≡ Some output → output_of command ≡ Some output.file
unfolding outcome_of
output-named command contents output is = at command (first_long (inputs_of command) contents) is
  where
    at : (command : Command) (long : Option (List ℕ)) → (unless_long long (outcome_of_contents command contents)).output ≡ Some output → output_of command ≡ Some output.file
    at command (Some file) e = absurd (cc)
    at (Bare image ticks) None e = absurd (bare-output image ticks (content 0 contents) output e)
    at (Parse description out) None e = made-output description out _ output e
    at (Upgrade configuration out) None e = made-output configuration out _ output e
    at (BuildImage program out) None e = made-output program out _ output e
    at (ReadImage image) None e = absurd (reported-output image _ output e)
    at (Pack configuration out images) None e = packed-output out (container_of configuration (content 0 contents) images (drop 1 contents)) output e
    at (ListContainer container) None e = absurd (reported-output container _ output e)
    at (CheckContainer container) None e = absurd (reported-output container _ output e)
    at (MakePlan description) None e = absurd (reported-output description _ output e)
    at (CheckPlan description) None e = absurd (reported-output description _ output e)
    at (ListGroups description) None e = absurd (reported-output description _ output e)
    at (ListSteerers description) None e = absurd (reported-output description _ output e)
    at (Generate number) None e = absurd (cc)
    at (Run container options) None e = absurd (run-output container options (content 0 contents) (drop 1 contents) output e)
    at (Replay container part script options) None e = absurd (replay-output container part script options (content 0 contents) (content 1 contents) (replay_input_bytes options contents) (replay_upset_bytes options contents) output e)

-- where there is no file, none is written
pub no_output : (o : Option Output) → ((output : Output) → o ≡ Some output → ⊥) → o ≡ None
no_output None never = refl
no_output (Some output) never = absurd (never output refl)
