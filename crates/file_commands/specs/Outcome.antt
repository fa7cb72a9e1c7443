-- The outcome of the contents of the files that a command reads.
use Rattle.std.specs.Prelude.{ℕ, ◌+◌, ◌*◌, ◌==◌, if◌then◌else◌, nat_lt, ◌||◌, List, [], ◌∷◌, ◌++◌, length, drop, codes, map, slice_index_or, Option, Some, None, Result, Ok, Err}
use Rattle.xm_base.specs.declared.limits.TheConstants.{FILE_BYTES, IMAGE_BYTES, TICKS}
use Rattle.xm_report.specs.Report.{texts}
use Rattle.xm_conf.specs.Configuration.{Conf}
use Rattle.cyclic_plans.specs.Slots.{frame_of}
use Rattle.machine_model.specs.CoreFile.{core_file}
use Rattle.machine_model.specs.Cue.{Cue}
use Rattle.machine_model.specs.Machine.{Machine, start}
use Rattle.machine_model.specs.View.{System as Booted, view_of}
use Rattle.upset_model.specs.Reports.{received_in}
use Rattle.upset_model.specs.declared.upset_line.UpsetLine.{UpsetLine}
use Rattle.upset_files.specs.Reading.{upsets_from}
use Rattle.upset_files.specs.Texts.{upset_fault_text}
use Rattle.upset_files.specs.declared.fault.UpsetFault.{UpsetFault}
use Rattle.generated_system.specs.Reported.{generated_text}
use Rattle.system_state.specs.State.{part_at, with_inputs}
use Rattle.continuation_laws.specs.Onward.{after_ticks, report_from}
use Rattle.saved_machines.specs.Saved.{SavedMachine}
use Rattle.saved_machines.specs.SavedFormat.{saved_format}
use Rattle.saved_machines.specs.Saving.{loaded_of, machine_saved, saved_file, stored_digest}
use Rattle.saved_machines.specs.Texts.{saved_fault_text}
use Rattle.saved_machines.specs.declared.fault.SavedFault.{SavedFault}
use Rattle.cue_scripts.specs.Spelling.{script_text}
use Rattle.fault_messages.specs.Texts.{script_fault_text}
use Rattle.fault_messages.specs.declared.fault.ScriptFault.TheVariants as script_fault
use Rattle.recording_model.specs.Replayed.{replay_lines, replayed}
use Rattle.loaded_system.specs.Bare.{bare_system}
use Rattle.loaded_system.specs.System.{System}
use Rattle.xm_container.specs.Reading.{unpacked}
use Rattle.fault_messages.specs.Texts.{box_fault_text}
use Rattle.fault_messages.specs.declared.fault.BoxFault.{BoxFault}
use Rattle.command_line.specs.Words.{Command, PartFile, RunOption, Bare, Parse, Upgrade, BuildImage, ReadImage, Pack, ListContainer, CheckContainer, MakePlan, CheckPlan, ListGroups, ListSteerers, Generate, Run, Replay, ReplayFile, cores_in, from_in, inputs_in, replay_core, replay_input, replay_upsets, save_in, span_in, scripts_in, upsets_in}
use Rattle.command_line.specs.declared.commands.Span.{Span}
use Rattle.command_line.specs.declared.commands.Span.TheVariants.{Frames, Ticks}
use Rattle.file_commands.specs.Denial.{Denial}
use Rattle.file_commands.specs.Ending.{input_text, length_text, partition_text, saved_text, ticks_text}
use Rattle.builders.specs.Grouping.{groups_of}
use Rattle.builders.specs.Steering.{steering_of}
use Rattle.builders.specs.Imaging.{container_lines_of, container_verdict_of, image_lines_of, xef_of}
use Rattle.file_commands.specs.Inputs.{inputs_for, no_inputs}
use Rattle.file_commands.specs.Packing.{container_of, denial, file_names}
use Rattle.builders.specs.Parsing.{upgraded_of, xmc_of}
use Rattle.builders.specs.Planning.{plan_lines_of, verdicts_of}
use Rattle.builders.specs.Ready.{NoContainer, NoPartition, NoScript, NoUpsets, OddInput, Replay as Readied, Unready, replay_of}
use Rattle.builders.specs.Success.{ok_text}

-- a file that is written
pub record Output : Type 0 where
  pub file : List ℕ
  pub bytes : List ℕ

-- a run: the machine that it begins with, the upsets that strike it, and its number of ticks; or one partition of a system alone, with the upsets of a file,
-- of which its own strike it, and all that it receives
pub data Running : Type 0 where
  Together : (machine : Machine) (upsets : List UpsetLine) (ticks : ℕ) → Running
  Apart : (system : Booted) (p : ℕ) (upsets : List UpsetLine) (cues : List Cue) → Running

-- the outcome of a command: its refusal, if there is one, the file that it writes first, what goes to the report, the files that it writes after
-- the report, in their order, and the run whose report that is
pub record Outcome : Type 0 where
  pub denial : Option Denial
  pub output : Option Output
  pub report : List ℕ
  pub later : List Output
  pub run : Option Running

-- a command that is refused so, and does nothing
abbrev pub refused_by : Denial → Outcome
refused_by denial = record { denial = Some denial; output = None; report = []; later = []; run = None }

-- a command that is refused because of a file, and does nothing
abbrev pub command_refused : List ℕ → List ℕ → Outcome
command_refused file text = refused_by (record { file = file; text = text })

-- a file's name, where there is one
abbrev pub name_if_any : Option (List ℕ) → List (List ℕ)
name_if_any None = []
name_if_any (Some file) = file ∷ []

-- the files that a run reads beside its container: those of input words in the order of its words, that of its upsets, where there is one, and the saved machine
-- that it goes on from, where it does
abbrev pub run_inputs : List RunOption → List (List ℕ)
run_inputs options = file_names (inputs_in options) ++ name_if_any (upsets_in options) ++ name_if_any (from_in options)

-- the files that a replay reads beside its container and its script: that of input words and that of its upsets, where there are such
abbrev pub replay_inputs : List ReplayFile → List (List ℕ)
replay_inputs options = name_if_any (replay_input options) ++ name_if_any (replay_upsets options)

-- the files that a command reads, in their order
abbrev pub inputs_of : Command → List (List ℕ)
inputs_of (Bare image ticks) = image ∷ []
inputs_of (Parse description output) = description ∷ []
inputs_of (Upgrade configuration output) = configuration ∷ []
inputs_of (BuildImage program output) = program ∷ []
inputs_of (ReadImage image) = image ∷ []
inputs_of (Pack configuration output images) = configuration ∷ file_names images
inputs_of (ListContainer container) = container ∷ []
inputs_of (CheckContainer container) = container ∷ []
inputs_of (MakePlan description) = description ∷ []
inputs_of (CheckPlan description) = description ∷ []
inputs_of (ListGroups description) = description ∷ []
inputs_of (ListSteerers description) = description ∷ []
inputs_of (Generate number) = []
inputs_of (Run container options) = container ∷ run_inputs options
inputs_of (Replay container part script options) = container ∷ script ∷ replay_inputs options

-- the file that a command writes before its report
abbrev pub output_of : Command → Option (List ℕ)
output_of (Bare image ticks) = None
output_of (Parse description output) = Some output
output_of (Upgrade configuration output) = Some output
output_of (BuildImage program output) = Some output
output_of (ReadImage image) = None
output_of (Pack configuration output images) = Some output
output_of (ListContainer container) = None
output_of (CheckContainer container) = None
output_of (MakePlan description) = None
output_of (CheckPlan description) = None
output_of (ListGroups description) = None
output_of (ListSteerers description) = None
output_of (Generate number) = None
output_of (Run container options) = None
output_of (Replay container part script options) = None

-- the files that a command writes after its report, in their order
abbrev pub later_of : Command → List (List ℕ)
later_of (Bare image ticks) = []
later_of (Parse description output) = []
later_of (Upgrade configuration output) = []
later_of (BuildImage program output) = []
later_of (ReadImage image) = []
later_of (Pack configuration output images) = []
later_of (ListContainer container) = []
later_of (CheckContainer container) = []
later_of (MakePlan description) = []
later_of (CheckPlan description) = []
later_of (ListGroups description) = []
later_of (ListSteerers description) = []
later_of (Generate number) = []
later_of (Run container options) = file_names (cores_in options) ++ file_names (scripts_in options) ++ name_if_any (save_in options)
later_of (Replay container part script options) = name_if_any (replay_core options)

-- the core file of a partition of a machine, under the name that is given for it
abbrev pub core_output : Machine → PartFile → Output
core_output g named = record { file = named.file; bytes = core_file (view_of g.system named.part) (part_at named.part g) }

-- the core files of partitions of a machine, in the order of their names
unfoldable pub core_outputs : Machine → List PartFile → List Output
core_outputs g cores = map (core_output g) cores

-- the script of a partition: all that it receives in this many ticks from the boot of its system on, with these upsets
abbrev pub script_bytes : List UpsetLine → Booted → ℕ → ℕ → List ℕ
script_bytes upsets system ticks p = script_text p (received_in upsets system p ticks)

-- under the name that is given for it
abbrev pub script_output : List UpsetLine → Booted → ℕ → PartFile → Output
script_output upsets system ticks named = record { file = named.file; bytes = script_bytes upsets system ticks named.part }

-- the refusal of a script that has more bytes than a file may have
abbrev pub script_denial : List UpsetLine → Booted → ℕ → PartFile → Option Denial
script_denial upsets system ticks named =
    if nat_lt FILE_BYTES (length (script_bytes upsets system ticks named.part))
    then Some (denial named.file (script_fault_text (script_fault.Length (length (script_bytes upsets system ticks named.part)))))
    else None

-- the first refusal of scripts in the order of their names, or else what comes of them
abbrev pub unless_denied : Option Denial → Result (List Output) Denial → Result (List Output) Denial
unless_denied None outputs = outputs
unless_denied (Some refusal) outputs = Err refusal

-- a script before others
abbrev pub script_before : Output → Result (List Output) Denial → Result (List Output) Denial
script_before output (Ok outputs) = Ok (output ∷ outputs)
script_before output (Err refusal) = Err refusal

-- the scripts of partitions in the order of their names, or the refusal of the first that is too long for a file
abbrev pub scripts_for : List UpsetLine → Booted → ℕ → List PartFile → Result (List Output) Denial
scripts_for upsets system ticks [] = Ok []
scripts_for upsets system ticks (named ∷ scripts) =
    unless_denied (script_denial upsets system ticks named) (script_before (script_output upsets system ticks named) (scripts_for upsets system ticks scripts))

-- the outcome of a run of this many ticks with upsets, from this machine on, with these core files, and with these files after them
unfoldable pub outcome_of_run : List UpsetLine → ℕ → List PartFile → List Output → Machine → Outcome
outcome_of_run upsets ticks cores made g = record {
  denial = None;
  output = None;
  report = texts (report_from upsets g ticks);
  later = core_outputs (after_ticks upsets g ticks) cores ++ made;
  run = Some (Together g upsets ticks);
}

-- the outcome of a raw image, run for this many ticks without input words
unfoldable pub bare_outcome : List ℕ → ℕ → List ℕ → Outcome
bare_outcome file ticks image =
    if (length image == 0) || nat_lt IMAGE_BYTES (length image) then command_refused file (length_text (length image))
    else outcome_of_run [] ticks [] [] (start (with_inputs (bare_system image) (no_inputs 1)))

-- how many ticks a run asks for, under a configuration: major frames are those of plan 0
abbrev pub ticks_asked : Span → Conf → ℕ
ticks_asked (Frames count) conf = count * frame_of conf 0
ticks_asked (Ticks count) conf = count

-- the file of a machine after a run of a container, where one is named for it; or its refusal, where it is too long for a file
abbrev pub save_for : Option (List ℕ) → List ℕ → Machine → Result (List Output) Denial
save_for None box g = Ok []
save_for (Some file) box g =
    if nat_lt FILE_BYTES (length (saved_file (stored_digest box) g)) then Err (denial file (saved_text (length (saved_file (stored_digest box) g))))
    else Ok (record { file = file; bytes = saved_file (stored_digest box) g } ∷ [])

-- files, and others after them, or the first refusal
abbrev pub made_after : List Output → Result (List Output) Denial → Result (List Output) Denial
made_after outputs (Ok others) = Ok (outputs ++ others)
made_after outputs (Err refusal) = Err refusal

abbrev pub made_both : Result (List Output) Denial → Result (List Output) Denial → Result (List Output) Denial
made_both (Ok outputs) others = made_after outputs others
made_both (Err refusal) others = Err refusal

-- the outcome of a run with files that are made of it, or the refusal of one of them
abbrev pub ran_making : List UpsetLine → ℕ → List PartFile → Machine → Result (List Output) Denial → Outcome
ran_making upsets ticks cores g (Ok made) = outcome_of_run upsets ticks cores made g
ran_making upsets ticks cores g (Err refusal) = refused_by refusal

-- the content of the file of this number
abbrev pub content : ℕ → List (List ℕ) → List ℕ
content n contents = slice_index_or contents n []

-- the upsets that a file has, or its refusal
abbrev pub upsets_or : List ℕ → Result (List UpsetLine) UpsetFault → Result (List UpsetLine) Denial
upsets_or file (Ok upsets) = Ok upsets
upsets_or file (Err fault) = Err (denial file (upset_fault_text fault))

-- the upsets of a run from a tick on, of this many more ticks, under a configuration, by the bytes of their file: none where no file is named
abbrev pub upsets_named : Option (List ℕ) → Conf → ℕ → ℕ → List ℕ → Result (List UpsetLine) Denial
upsets_named None conf begun ticks bytes = Ok []
upsets_named (Some file) conf begun ticks bytes = upsets_or file (upsets_from conf begun (begun + ticks) bytes)

-- the upsets of a run with options, by the contents of the files that it reads beside its container: that of the upsets comes after those of input words
unfoldable pub upsets_for : Conf → ℕ → ℕ → List RunOption → List (List ℕ) → Result (List UpsetLine) Denial
upsets_for conf begun ticks options contents = upsets_named (upsets_in options) conf begun ticks (content (length (inputs_in options)) contents)

-- the machine that a file has, of this system, or its refusal
abbrev pub machine_or : List ℕ → System → Result SavedMachine SavedFault → Result Machine Denial
machine_or file system (Ok saved) = Ok (machine_saved (with_inputs system []) saved)
machine_or file system (Err fault) = Err (denial file (saved_fault_text fault))

-- the machine that a run of a container's system begins with: one that boots with these input words, or the one that a file has that was saved from a run of
-- this container
abbrev pub beginning_named : Option (List ℕ) → List ℕ → System → List (List ℕ) → List ℕ → Result Machine Denial
beginning_named None box system inputs bytes = Ok (start (with_inputs system inputs))
beginning_named (Some file) box system inputs bytes =
    machine_or file system ((saved_format system.conf (loaded_of (with_inputs system [])) (stored_digest box)).read bytes)

-- by the contents of the files that a run reads beside its container, of which that of the saved machine is the last
unfoldable pub beginning_of : List RunOption → List ℕ → List (List ℕ) → System → List (List ℕ) → Result Machine Denial
beginning_of options box contents system inputs =
    beginning_named (from_in options) box system inputs (content (length (inputs_in options) + length (name_if_any (upsets_in options))) contents)

-- the outcome of a run from this machine on with upsets, or their refusal
abbrev pub ran_struck : ℕ → List RunOption → List ℕ → Machine → Result (List UpsetLine) Denial → Outcome
ran_struck ticks options box g (Ok upsets) =
    ran_making upsets ticks (cores_in options) g
    (made_both (scripts_for upsets g.system ticks (scripts_in options)) (save_for (save_in options) box (after_ticks upsets g ticks)))
ran_struck ticks options box g (Err refusal) = refused_by refusal

-- the outcome of a run from this machine on: it is refused where it goes beyond the ticks that a run may have, where the file of its upsets is refused, and where
-- a script of it or its saved machine is too long
abbrev pub ran_for : List ℕ → ℕ → List RunOption → List ℕ → List (List ℕ) → Machine → Outcome
ran_for file asked options box contents g =
    if nat_lt TICKS (g.ticks + asked) then command_refused file (ticks_text (g.ticks + asked))
    else ran_struck asked options box g (upsets_for g.system.conf g.ticks asked options contents)

-- the outcome of a run, by the ticks that its options ask for
unfoldable pub ran_within : List ℕ → List RunOption → List ℕ → List (List ℕ) → Machine → Outcome
ran_within file options box contents g = ran_for file (ticks_asked (span_in options) g.system.conf) options box contents g

-- the outcome of a run, by the machine that it begins with, or the refusal of that
abbrev pub ran_from : List ℕ → List RunOption → List ℕ → List (List ℕ) → Result Machine Denial → Outcome
ran_from file options box contents (Ok g) = ran_within file options box contents g
ran_from file options box contents (Err refusal) = refused_by refusal

-- the outcome of a run, of a container's system with input words, or the refusal of an input's file
abbrev pub ran_with : List ℕ → List RunOption → List ℕ → List (List ℕ) → System → Result (List (List ℕ)) Denial → Outcome
ran_with file options box contents system (Ok inputs) = ran_from file options box contents (beginning_of options box contents system inputs)
ran_with file options box contents system (Err refusal) = refused_by refusal

-- the outcome of a container with these bytes that is run with options and files with these contents, or the refusal of its file
abbrev pub run_by : List ℕ → List RunOption → List ℕ → List (List ℕ) → Result System BoxFault → Outcome
run_by file options box contents (Ok system) =
    ran_with file options box contents system (inputs_for (length system.conf.parts) options contents)
run_by file options box contents (Err fault) = command_refused file (box_fault_text fault)

-- the outcome of the container of a file with these bytes, run with options and files with these contents
unfoldable pub run_outcome : List ℕ → List RunOption → List ℕ → List (List ℕ) → Outcome
run_outcome file options bytes contents = run_by file options bytes contents (unpacked bytes)

-- the core file of a partition that was replayed, under the name that is given for it
abbrev pub replay_output : Readied → List ℕ → Output
replay_output replay file = record { file = file; bytes = core_file (view_of replay.system replay.p) (replayed replay.upsets (view_of replay.system replay.p) replay.cues).state }

-- the outcome of a replay that may begin: the lines of the partition and of its own upsets and that of its end, and its core file after them, where a file is named
-- for it
unfoldable pub played : Option (List ℕ) → Readied → Outcome
played core replay = record {
  denial = None;
  output = None;
  report = texts (replay_lines replay.upsets (view_of replay.system replay.p) replay.cues);
  later = map (replay_output replay) (name_if_any core);
  run = Some (Apart replay.system replay.p replay.upsets replay.cues);
}

-- the name of a file that may be named, where it is
abbrev pub file_if_any : Option (List ℕ) → List ℕ
file_if_any None = []
file_if_any (Some file) = file

-- the bytes of a file that may be named: none where it is not
abbrev pub bytes_if_any : Option (List ℕ) → List ℕ → List ℕ
bytes_if_any None bytes = []
bytes_if_any (Some file) bytes = bytes

-- the bytes of the input words of a replay, by the contents of the files that it reads: that of input words is the one after the script
abbrev pub replay_input_bytes : List ReplayFile → List (List ℕ) → List ℕ
replay_input_bytes options contents = bytes_if_any (replay_input options) (content 2 contents)

-- the bytes of its upsets, whose file is the last that it reads
abbrev pub replay_upset_bytes : List ReplayFile → List (List ℕ) → List ℕ
replay_upset_bytes options contents = bytes_if_any (replay_upsets options) (content (2 + length (name_if_any (replay_input options))) contents)

-- which file a replay is refused for, and why
abbrev pub unready_denial : List ℕ → ℕ → List ℕ → List ReplayFile → Unready → Denial
unready_denial container part script options (NoContainer text) = denial container text
unready_denial container part script options NoPartition = denial container (partition_text part)
unready_denial container part script options (NoScript text) = denial script text
unready_denial container part script options (OddInput count) = denial (file_if_any (replay_input options)) (input_text count)
unready_denial container part script options (NoUpsets text) = denial (file_if_any (replay_upsets options)) text

-- the outcome of a replay, or its refusal
abbrev pub replay_outcome_by : List ℕ → ℕ → List ℕ → List ReplayFile → Result Readied Unready → Outcome
replay_outcome_by container part script options (Ok replay) = played (replay_core options) replay
replay_outcome_by container part script options (Err why) = refused_by (unready_denial container part script options why)

-- the outcome of a container, a script, input words and upsets with these contents, by which a partition is replayed
unfoldable pub replay_outcome : List ℕ → ℕ → List ℕ → List ReplayFile → List ℕ → List ℕ → List ℕ → List ℕ → Outcome
replay_outcome container part script options bytes received input struck = replay_outcome_by container part script options (replay_of bytes part received input struck)

-- what is printed of a file that was made
abbrev pub made_text : ℕ → List ℕ
made_text length = ok_text (codes "length=") length

-- the outcome of a command that writes a file, and reports its length
abbrev pub outcome_of_file : List ℕ → List ℕ → Outcome
outcome_of_file output bytes = record { denial = None; output = Some (record { file = output; bytes = bytes }); report = made_text (length bytes); later = []; run = None }

-- the outcome of files that are packed: their container, or the refusal of one of them
abbrev pub packed_to : List ℕ → Result (List ℕ) Denial → Outcome
packed_to output (Ok bytes) = outcome_of_file output bytes
packed_to output (Err denial) = refused_by denial

-- the outcome of a command that prints a text, and does nothing else
abbrev pub outcome_of_print : List ℕ → Outcome
outcome_of_print text = record { denial = None; output = None; report = text; later = []; run = None }

-- the outcome of a file that is converted: the outcome of what is made of it, or its refusal
abbrev pub converted : List ℕ → (List ℕ → Outcome) → Result (List ℕ) (List ℕ) → Outcome
converted file outcome (Ok bytes) = outcome bytes
converted file outcome (Err text) = command_refused file text

-- the outcome of the contents of the files, where none of them is too long
abbrev pub outcome_of_contents : Command → List (List ℕ) → Outcome
outcome_of_contents (Bare image ticks) contents = bare_outcome image ticks (content 0 contents)
outcome_of_contents (Parse description output) contents = converted description (outcome_of_file output) (xmc_of (content 0 contents))
outcome_of_contents (Upgrade configuration output) contents = converted configuration (outcome_of_file output) (upgraded_of (content 0 contents))
outcome_of_contents (BuildImage program output) contents = converted program (outcome_of_file output) (xef_of (content 0 contents))
outcome_of_contents (ReadImage image) contents = converted image outcome_of_print (image_lines_of (content 0 contents))
outcome_of_contents (Pack configuration output images) contents = packed_to output (container_of configuration (content 0 contents) images (drop 1 contents))
outcome_of_contents (ListContainer container) contents = converted container outcome_of_print (container_lines_of (content 0 contents))
outcome_of_contents (CheckContainer container) contents = converted container outcome_of_print (container_verdict_of (content 0 contents))
outcome_of_contents (MakePlan description) contents = converted description outcome_of_print (plan_lines_of (content 0 contents))
outcome_of_contents (CheckPlan description) contents = converted description outcome_of_print (verdicts_of (content 0 contents))
outcome_of_contents (ListGroups description) contents = converted description outcome_of_print (groups_of (content 0 contents))
outcome_of_contents (ListSteerers description) contents = converted description outcome_of_print (steering_of (content 0 contents))
outcome_of_contents (Generate number) contents = outcome_of_print (generated_text number)
outcome_of_contents (Run container options) contents = run_outcome container options (content 0 contents) (drop 1 contents)
outcome_of_contents (Replay container part script options) contents =
    replay_outcome container part script options (content 0 contents) (content 1 contents) (replay_input_bytes options contents) (replay_upset_bytes options contents)

-- the first of the files that has more bytes than a file may have
abbrev pub first_long : List (List ℕ) → List (List ℕ) → Option (List ℕ)
first_long [] contents = None
first_long (file ∷ files) [] = None
first_long (file ∷ files) (bytes ∷ contents) = if nat_lt FILE_BYTES (length bytes) then Some file else first_long files contents

-- a file that is too long is refused before any work is done
abbrev pub unless_long : Option (List ℕ) → Outcome → Outcome
unless_long None outcome = outcome
unless_long (Some file) outcome = command_refused file (codes "too-long")

-- the outcome of the contents of the files that a command reads
unfoldable pub outcome_of : Command → List (List ℕ) → Outcome
outcome_of command contents = unless_long (first_long (inputs_of command) contents) (outcome_of_contents command contents)
