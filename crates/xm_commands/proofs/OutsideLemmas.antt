-- What stays of the outside, and the outcome of the files.
use Rattle.std.proofs.Common.{◌≡◌, ◌≢◌, ℕ, zero, suc, ◌+◌, cond, Bool, true, false, nat_lt, ◌==◌, ◌||◌, if◌then◌else◌, List, [], ◌∷◌, ◌++◌, length, take, drop, Option, Some, None, Result, Ok, Err, refl, sym, ap, ◌∙◌}
use Rattle.std.specs.Cmp.Lexicographic.{slice_cmp, nat_list_cmp_total}
use Rattle.std.specs.FinMap.{get, insert, get-insert, slice_cmp-IsAntisymmetric, nat_cmp-IsAntisymmetric}
use Rattle.std.specs.Ordering.{nat_cmp, is_eq}
use Rattle.std.proofs.lemmas.Map.Text.{is_eq-slice_cmp}
use Rattle.std.proofs.lemmas.Slice.Eq.{bytes_eq-Decides}
use Rattle.std.specs.declared.cmp.Ordering.{Ordering}
use Rattle.std.specs.declared.cmp.Ordering.TheVariants.{Less, Equal, Greater}
use Rattle.xm_base.specs.Options.{on}
use Rattle.xm_base.specs.declared.limits.TheConstants.{FILE_BYTES, IMAGE_BYTES, TICKS}
use Rattle.xm_outside.specs.Causes.{counted}
use Rattle.xm_outside.specs.Files.{Files, OthersStay, stored}
use Rattle.continuation_laws.specs.Onward.{after_ticks}
use Rattle.machine_model.specs.Machine.{Machine, start}
use Rattle.upset_model.specs.declared.upset_line.UpsetLine.{UpsetLine}
use Rattle.command_line.specs.Words.{Command, PartFile, RunOption, Bare, Parse, Upgrade, BuildImage, ReadImage, Pack, ListContainer, CheckContainer, MakePlan, CheckPlan, ListGroups, ListSteerers, Generate, Run, Replay, ReplayFile, cores_in, replay_core, save_in, scripts_in, span_in}
use Rattle.xm_container.specs.Reading.{unpacked}
use Rattle.fault_messages.specs.declared.fault.BoxFault.{BoxFault}
use Rattle.xm_commands.specs.Answer.{files_saved}
use Rattle.run_commands.specs.Contents.{read_all, read_before}
use Rattle.loaded_system.specs.Bare.{bare_system}
use Rattle.loaded_system.specs.System.{System}
use Rattle.system_state.specs.State.{with_inputs}
use Rattle.file_commands.specs.Ending.{length_text, ticks_text}
use Rattle.file_commands.specs.Inputs.{no_inputs}
use Rattle.file_commands.specs.Packing.{container_of}
use Rattle.builders.specs.Ready.{Replay as Readied, Unready, replay_of}
use Rattle.file_commands.specs.Denial.{Denial}
use Rattle.file_commands.specs.Outcome.{Outcome, Output, bare_outcome, beginning_of, content, converted, first_long, made_both, outcome_of_file, outcome_of_print, packed_to, played, outcome_of_run, ran_for, ran_from, ran_making, ran_struck, ran_with, ran_within, command_refused, refused_by, replay_input_bytes, replay_outcome_by, replay_outcome, replay_upset_bytes, run_by, run_outcome, inputs_of, outcome_of, save_for, scripts_for, ticks_asked, unless_long, upsets_for, outcome_of_contents}
use Rattle.xm_commands.specs.Top.{AreContents}
use Rattle.file_commands.specs.Work.{counted_by, Outside, ReadsFiles, wrote}
use Rattle.file_commands.specs.lemmas.CommandLemmas.{outcome-long}
use Rattle.run_commands.specs.lemmas.ContentLemmas.{AreWhole, are_whole}

-- one call more is one call more at the end
pub counted-counted_by : (k n : ℕ) → counted (counted_by k n) ≡ counted_by (suc k) n
counted-counted_by zero n = refl
counted-counted_by (suc k) n = counted-counted_by k (counted n)

-- What a command's file changes.

-- a file that is written leaves the report's sink as it was
pub wrote-got : (o : Option Output) (x : Outside) → (wrote o x).got ≡ x.got
wrote-got None x = refl
wrote-got (Some output) x = refl

-- and its count of faults
pub wrote-faults : (o : Option Output) (x : Outside) → (wrote o x).faults ≡ x.faults
wrote-faults None x = refl
wrote-faults (Some output) x = refl

-- and the count of failed reads
pub wrote-read_faults : (o : Option Output) (x : Outside) → (wrote o x).read_faults ≡ x.read_faults
wrote-read_faults None x = refl
wrote-read_faults (Some output) x = refl

-- and the count of failed writes
pub wrote-write_faults : (o : Option Output) (x : Outside) → (wrote o x).write_faults ≡ x.write_faults
wrote-write_faults None x = refl
wrote-write_faults (Some output) x = refl

-- the files that are known, once a file is written
pub wrote-files : (o : Option Output) (x : Outside) (files : Files) → x.files ≡ Some files → (wrote o x).files ≡ Some (files_saved o files)
wrote-files None x files known = known
wrote-files (Some output) x files known = rw known refl

-- a file that is written has these bytes
pub stored-same : (files : Files) (file bytes : List ℕ) → get (insert files file bytes) file ≡ Some bytes
stored-same files file bytes =
    get-insert nat_list_cmp_total files file bytes file ∙ ap (λ (t : Bool). cond t (Some bytes) (get files file)) (is_eq-slice_cmp file file ∙ (bytes_eq-Decides file file).1 refl)

-- a file that is written leaves the others
pub stored-others : (files : Files) (file bytes other : List ℕ) → other ≢ file → get (insert files file bytes) other ≡ get files other
stored-others files file bytes other differs = get-insert nat_list_cmp_total files file bytes other ∙ at (slice_cmp nat_cmp other file) refl
  where
    at : (r : Ordering) → slice_cmp nat_cmp other file ≡ r → cond (is_eq r) (Some bytes) (get files other) ≡ get files other
    at Less is = refl
    at Equal is = absurd (differs (slice_cmp-IsAntisymmetric nat_cmp-IsAntisymmetric other file is))
    at Greater is = refl

-- a file that is written leaves the others, where the store knows them
pub others_stored : (known : Option Files) (file bytes : List ℕ) → OthersStay known file (stored known file bytes)
others_stored None file bytes = tt
others_stored (Some files) file bytes = λ other differs. stored-others files file bytes other differs

-- a refusal is the one that is reported
same_refusal : (one other : Denial) → Some one ≡ Some other → refused_by one ≡ refused_by other
same_refusal one other e = (let same : one ≡ other = cc in ap refused_by same)

-- what is made is refused so, or not at all
made-denied : (file : List ℕ) (outcome : List ℕ → Outcome) (made_of : Result (List ℕ) (List ℕ)) (denial : Denial) → ((bytes : List ℕ) → (outcome bytes).denial ≡ None) → (converted file outcome made_of).denial ≡ Some denial → converted file outcome made_of ≡ refused_by denial
made-denied file outcome (Ok bytes) denial none e = (let some : None ≡ Some denial = sym (none bytes) ∙ e in absurd (cc))
made-denied file outcome (Err text) denial none e = same_refusal _ denial e

-- and so is what is packed
packed-denied : (file : List ℕ) (packed : Result (List ℕ) Denial) (denial : Denial) → (packed_to file packed).denial ≡ Some denial → packed_to file packed ≡ refused_by denial
packed-denied file (Ok bytes) denial e = absurd (cc)
packed-denied file (Err refusal) denial e = same_refusal refusal denial e

-- a run of a machine is not refused
ran-denied : (upsets : List UpsetLine) (ticks : ℕ) (cores : List PartFile) (made : List Output) (g : Machine) (denial : Denial) → (outcome_of_run upsets ticks cores made g).denial ≡ Some denial → ⊥
unfolding outcome_of_run
ran-denied upsets ticks cores made g denial e = cc

-- a run of an image is refused so, or not at all
bare-denied : (file : List ℕ) (ticks : ℕ) (image : List ℕ) (denial : Denial) → (bare_outcome file ticks image).denial ≡ Some denial → bare_outcome file ticks image ≡ refused_by denial
unfolding bare_outcome
bare-denied file ticks image denial e = at ((length image == 0) || nat_lt IMAGE_BYTES (length image)) e
  where
    booted : Machine
    booted = start (with_inputs (bare_system image) (no_inputs 1))

    at : (t : Bool) → (if t then command_refused file (length_text (length image)) else outcome_of_run [] ticks [] [] booted).denial ≡ Some denial → (if t then command_refused file (length_text (length image)) else outcome_of_run [] ticks [] [] booted) ≡ refused_by denial
    at true e = same_refusal _ denial e
    at false e = absurd (ran-denied [] ticks [] [] booted denial e)

-- and so is a run whose files may be too long
making-denied : (upsets : List UpsetLine) (ticks : ℕ) (cores : List PartFile) (g : Machine) (made : Result (List Output) Denial) (denial : Denial)
    → (ran_making upsets ticks cores g made).denial ≡ Some denial → ran_making upsets ticks cores g made ≡ refused_by denial
making-denied upsets ticks cores g (Ok made) denial e = absurd (ran-denied upsets ticks cores made g denial e)
making-denied upsets ticks cores g (Err refusal) denial e = same_refusal refusal denial e

-- and a run whose upsets may be refused
struck-denied : (ticks : ℕ) (options : List RunOption) (box : List ℕ) (g : Machine) (given : Result (List UpsetLine) Denial) (denial : Denial)
    → (ran_struck ticks options box g given).denial ≡ Some denial → ran_struck ticks options box g given ≡ refused_by denial
struck-denied ticks options box g (Ok upsets) denial e =
    making-denied upsets ticks (cores_in options) g (made_both (scripts_for upsets g.system ticks (scripts_in options)) (save_for (save_in options) box (after_ticks upsets g ticks))) denial e
struck-denied ticks options box g (Err refusal) denial e = same_refusal refusal denial e

-- and a run that may be too long
within-denied : (file : List ℕ) (options : List RunOption) (box : List ℕ) (contents : List (List ℕ)) (g : Machine) (denial : Denial)
    → (ran_within file options box contents g).denial ≡ Some denial → ran_within file options box contents g ≡ refused_by denial
unfolding ran_within
within-denied file options box contents g denial e = at (ticks_asked (span_in options) g.system.conf) e
  where
    by : (asked : ℕ) (t : Bool) (given : Result (List UpsetLine) Denial) → (if t then command_refused file (ticks_text (g.ticks + asked)) else ran_struck asked options box g given).denial ≡ Some denial
        → (if t then command_refused file (ticks_text (g.ticks + asked)) else ran_struck asked options box g given) ≡ refused_by denial
    by asked true given e = same_refusal _ denial e
    by asked false given e = struck-denied asked options box g given denial e

    at : (asked : ℕ) → (ran_for file asked options box contents g).denial ≡ Some denial → ran_for file asked options box contents g ≡ refused_by denial
    at asked e = by asked (nat_lt TICKS (g.ticks + asked)) (upsets_for g.system.conf g.ticks asked options contents) e

-- and a run whose beginning may be refused
from-denied : (file : List ℕ) (options : List RunOption) (box : List ℕ) (contents : List (List ℕ)) (begins : Result Machine Denial) (denial : Denial)
    → (ran_from file options box contents begins).denial ≡ Some denial → ran_from file options box contents begins ≡ refused_by denial
from-denied file options box contents (Ok g) denial e = within-denied file options box contents g denial e
from-denied file options box contents (Err refusal) denial e = same_refusal refusal denial e

-- and a run whose inputs may be refused
with-denied : (file : List ℕ) (options : List RunOption) (box : List ℕ) (contents : List (List ℕ)) (system : System) (read : Result (List (List ℕ)) Denial) (denial : Denial)
    → (ran_with file options box contents system read).denial ≡ Some denial → ran_with file options box contents system read ≡ refused_by denial
with-denied file options box contents system (Ok inputs) denial e = from-denied file options box contents (beginning_of options box contents system inputs) denial e
with-denied file options box contents system (Err refusal) denial e = same_refusal refusal denial e

-- and a run of a container
run-denied : (file : List ℕ) (options : List RunOption) (bytes : List ℕ) (contents : List (List ℕ)) (denial : Denial) → (run_outcome file options bytes contents).denial ≡ Some denial → run_outcome file options bytes contents ≡ refused_by denial
unfolding run_outcome
run-denied file options bytes contents denial e = at (unpacked bytes) e
  where
    at : (read : Result System BoxFault) → (run_by file options bytes contents read).denial ≡ Some denial → run_by file options bytes contents read ≡ refused_by denial
    at (Ok system) e = with-denied file options bytes contents system _ denial e
    at (Err fault) e = same_refusal _ denial e

-- and a replay
played-denied : (core : Option (List ℕ)) (replay : Readied) (denial : Denial) → (played core replay).denial ≡ Some denial → ⊥
unfolding played
played-denied core replay denial e = cc

replay-denied : (container : List ℕ) (part : ℕ) (script : List ℕ) (options : List ReplayFile) (bytes received input struck : List ℕ) (denial : Denial) → (replay_outcome container part script options bytes received input struck).denial ≡ Some denial
    → replay_outcome container part script options bytes received input struck ≡ refused_by denial
unfolding replay_outcome
replay-denied container part script options bytes received input struck denial e = at (replay_of bytes part received input struck) e
  where
    at : (made_of : Result Readied Unready) → (replay_outcome_by container part script options made_of).denial ≡ Some denial → replay_outcome_by container part script options made_of ≡ refused_by denial
    at (Ok replay) e = absurd (played-denied (replay_core options) replay denial e)
    at (Err why) e = same_refusal _ denial e

-- the outcome of a command that is refused is the refusal, and nothing else
pub outcome-denied : (command : Command) (contents : List (List ℕ)) (denial : Denial) → (outcome_of command contents).denial ≡ Some denial → outcome_of command contents ≡ refused_by denial
unfolding outcome_of
outcome-denied command contents denial is = at command (first_long (inputs_of command) contents) is
  where
    at : (command : Command) (long : Option (List ℕ)) → (unless_long long (outcome_of_contents command contents)).denial ≡ Some denial → unless_long long (outcome_of_contents command contents) ≡ refused_by denial
    at command (Some file) e = same_refusal _ denial e
    at (Bare image ticks) None e = bare-denied image ticks (content 0 contents) denial e
    at (Parse description out) None e = made-denied description (outcome_of_file out) _ denial (λ bytes. refl) e
    at (Upgrade configuration out) None e = made-denied configuration (outcome_of_file out) _ denial (λ bytes. refl) e
    at (BuildImage program out) None e = made-denied program (outcome_of_file out) _ denial (λ bytes. refl) e
    at (ReadImage image) None e = made-denied image outcome_of_print _ denial (λ bytes. refl) e
    at (Pack configuration out images) None e = packed-denied out (container_of configuration (content 0 contents) images (drop 1 contents)) denial e
    at (ListContainer container) None e = made-denied container outcome_of_print _ denial (λ bytes. refl) e
    at (CheckContainer container) None e = made-denied container outcome_of_print _ denial (λ bytes. refl) e
    at (MakePlan description) None e = made-denied description outcome_of_print _ denial (λ bytes. refl) e
    at (CheckPlan description) None e = made-denied description outcome_of_print _ denial (λ bytes. refl) e
    at (ListGroups description) None e = made-denied description outcome_of_print _ denial (λ bytes. refl) e
    at (ListSteerers description) None e = made-denied description outcome_of_print _ denial (λ bytes. refl) e
    at (Generate number) None e = absurd (cc)
    at (Run container options) None e = run-denied container options (content 0 contents) (drop 1 contents) denial e
    at (Replay container part script options) None e = replay-denied container part script options (content 0 contents) (content 1 contents) (replay_input_bytes options contents) (replay_upset_bytes options contents) denial e

-- What is read.

-- the contents of a command's files, and their outcome
pub record Known (known : Option Files) (command : Command) (fronts : List (List ℕ)) : Type 0 where
  pub contents : List (List ℕ)
  pub are : AreContents known command contents
  pub outcome : outcome_of command fronts ≡ outcome_of command contents

-- what was read of a command's files has the outcome of the files
pub known_outcome : (known : Option Files) (command : Command) (fronts : List (List ℕ)) → ReadsFiles known (inputs_of command) fronts → Known known command fronts
known_outcome None command fronts read = record { contents = fronts; are = tt; outcome = refl }
known_outcome (Some files) command fronts read =
    let is = are_whole files (inputs_of command) fronts read in
    record { contents = is.contents; are = is.read; outcome = same is (first_long (inputs_of command) is.contents) refl }
  where
    same : (is : AreWhole files (inputs_of command) fronts) (long : Option (List ℕ)) → first_long (inputs_of command) is.contents ≡ long → outcome_of command fronts ≡ outcome_of command is.contents
    same is (Some file) e = outcome-long command fronts file (is.long ∙ e) ∙ sym (outcome-long command is.contents file e)
    same is None e = ap (outcome_of command) (is.whole e)

-- the first files are there, and the next is not
pub read_all-absent : (files : Files) (first rest fronts : List (List ℕ)) (file : List ℕ) → ReadsFiles (Some files) first fronts → get files file ≡ None → read_all files (first ++ file ∷ rest) ≡ Err file
read_all-absent files [] rest fronts file read absent = rw absent refl
read_all-absent files (name ∷ first) rest [] file read absent = absurd read
read_all-absent files (name ∷ first) rest (bytes ∷ fronts) file read absent = at (get files name) refl read.0 (read_all-absent files first rest fronts file read.1 absent)
  where
    at : (o : Option (List ℕ)) → get files name ≡ o → on (take (FILE_BYTES + 1)) o ≡ Some bytes → read_all files (first ++ file ∷ rest) ≡ Err file → read_before name (get files name) (read_all files (first ++ file ∷ rest)) ≡ Err file
    at None is front other = absurd (cc)
    at (Some whole) is front other = rw (is, other) refl
