-- A run that goes on from the saved machine of another run: what it shows is what the run in one piece shows after the ticks of the first one. The file has to be
-- the saved machine of that first run (`IsOfSave`). That the call is not refused asks that there is no other cause for it (`HasNoOtherFault`); what it shows asks that
-- no upset is of a tick in which the first run had halted (`StrikesOnward`).
use Rattle.std.specs.Prelude.{◌≡◌, ◌≢◌, ℕ, ◌+◌, ◌≤◌, true, List, [], ◌∷◌, ◌++◌, length, drop, Option, Some, None, Ok, slice_index_or}
use Rattle.xm_base.specs.Bytes.{AreBytes}
use Rattle.xm_base.specs.declared.limits.TheConstants.{FILE_BYTES, TICKS}
use Rattle.xm_outside.specs.Files.{Files}
use Rattle.xm_outside.specs.Growth.{grown}
use Rattle.xm_report.specs.Report.{ReportLine, SystemLine, texts}
use Rattle.loaded_system.specs.System as loaded
use Rattle.xm_container.specs.Reading.{unpacked}
use Rattle.uart_board.specs.Heard.{IsHeard}
use Rattle.uart_board.specs.Views.{without_marks}
use Rattle.machine_model.specs.Machine.{Machine, start}
use Rattle.machine_model.specs.View.{System}
use Rattle.continuation_laws.specs.Continued.{continued_run}
use Rattle.continuation_laws.specs.Joined.{AreFrom}
use Rattle.continuation_laws.specs.Onward.{after_ticks}
use Rattle.saved_machines.specs.Savable.{IsSavedMachine}
use Rattle.saved_machines.specs.Saving.{saved_file, stored_digest}
use Rattle.upset_files.specs.Fits.{AllFit}
use Rattle.upset_model.specs.Places.{due, schedule_of}
use Rattle.upset_model.specs.Reports.{after_run, reported, upset_console, upset_report}
use Rattle.upset_model.specs.declared.upset_line.UpsetLine.{UpsetLine}
use Rattle.system_state.specs.State.{with_inputs}
use Rattle.command_line.specs.Words.{Command, PartFile, RunOption, Bare, Parse, Upgrade, BuildImage, ReadImage, Pack, ListContainer, CheckContainer, MakePlan, CheckPlan, ListGroups, ListSteerers, Generate, Run, Replay, cores_in, from_in, inputs_in, save_in, span_in, upsets_in}
use Rattle.file_commands.specs.Inputs.{inputs_for}
use Rattle.file_commands.specs.Outcome.{beginning_of, content, core_outputs, first_long, name_if_any, run_inputs, ticks_asked, upsets_for}
use Rattle.run_commands.specs.Contents.{read_all}
use Rattle.run_commands.specs.Numbers.{StoresOf}
use Rattle.xm_commands.specs.Separation.{save_outputs}
use Rattle.xm_commands.specs.Top.{IsCompleteStatus}
use Rattle.file_commands.specs.Work.{wrote_all}
use Rattle.xm_commands.specs.World.{World}
use Rattle.file_commands.specs.declared.status.Status.{Status}
use Rattle.file_commands.specs.declared.status.Status.TheVariants.{Refused}

-- The numbers of a machine that is saved.

-- the numbers of the machine that a run saves are in their ranges, where the store's files are known; other commands save none
abbrev pub StoresNumbers : Option Command → Option Files → Type 0
StoresNumbers None known = Unit {0}
StoresNumbers (Some (Bare image ticks)) known = Unit {0}
StoresNumbers (Some (Parse description output)) known = Unit {0}
StoresNumbers (Some (Upgrade configuration output)) known = Unit {0}
StoresNumbers (Some (BuildImage program output)) known = Unit {0}
StoresNumbers (Some (ReadImage image)) known = Unit {0}
StoresNumbers (Some (Pack configuration output images)) known = Unit {0}
StoresNumbers (Some (ListContainer container)) known = Unit {0}
StoresNumbers (Some (CheckContainer container)) known = Unit {0}
StoresNumbers (Some (MakePlan description)) known = Unit {0}
StoresNumbers (Some (CheckPlan description)) known = Unit {0}
StoresNumbers (Some (ListGroups description)) known = Unit {0}
StoresNumbers (Some (ListSteerers description)) known = Unit {0}
StoresNumbers (Some (Generate number)) known = Unit {0}
StoresNumbers (Some (Run container options)) known = StoresOf container options known
StoresNumbers (Some (Replay container part script options)) known = Unit {0}

-- The first run, and its saved machine.

-- a run of a container's system from the boot on: the words that its partitions are given, the upsets that strike them, and how many ticks it has
pub record FirstRun : Type 0 where
  pub system : loaded.System
  pub inputs : List (List ℕ)
  pub upsets : List UpsetLine
  pub ticks : ℕ

-- the system that it boots
abbrev pub booted_of : FirstRun → System
booted_of run = with_inputs run.system run.inputs

-- the machine after it
abbrev pub machine_after : FirstRun → Machine
machine_after run = after_run run.upsets (booted_of run) run.ticks

-- that machine as it goes on: the words that its partitions were given are those that they have left
abbrev pub machine_onward : FirstRun → Machine
machine_onward run = continued_run run.upsets (booted_of run) run.ticks

-- a saved machine with these bytes is that of a run of the container with those
pub record IsOfSave (box bytes : List ℕ) (run : FirstRun) : Type 0 where
  -- The container's file holds bytes, as each file does.
  pub contained : AreBytes box
  -- It is the container of the system that was run.
  pub unpacks : unpacked box ≡ Ok run.system
  -- No partition was given more words than a file has bytes.
  pub few : (p : ℕ) → length (slice_index_or run.inputs p []) ≤ FILE_BYTES
  -- The upsets are such as a file of upsets for the run has.
  pub strikes : AllFit run.system.conf run.ticks 0 run.upsets
  -- The run had no more ticks than a run may have.
  pub most : run.ticks ≤ TICKS
  -- The bytes are those of the machine after it, of that container.
  pub saved : bytes ≡ saved_file (stored_digest box) (machine_after run)
  -- The numbers of that machine are in their ranges: `stored` promises it of each machine that is saved.
  pub numbers : IsSavedMachine (machine_after run)

-- The run in one piece: it has the upsets of the first run and then those of the run that goes on, and the ticks of both.

-- the machine after it
abbrev pub machine_in_one : FirstRun → List UpsetLine → ℕ → Machine
machine_in_one run last count = after_run (run.upsets ++ last) (booted_of run) (run.ticks + count)

-- the first line of a run of a system that goes to this tick
abbrev pub line_to : System → ℕ → ReportLine
line_to system tick = SystemLine (length system.conf.parts) (length system.conf.plans) tick

-- a run of this many ticks with these upsets, from the machine after the first run on, shows the rest of the run in one piece; these core files are asked for, and this
-- file for its machine, of the container with these bytes
pub record ShowsRest (run : FirstRun) (last : List UpsetLine) (count : ℕ) (box : List ℕ) (cores : List PartFile) (save : Option (List ℕ)) (before after : World) : Type 0 where
  pub lines : List ReportLine
  -- The report of the run in one piece is its first line, the lines of the ticks of the first run, and then these lines.
  pub whole : upset_report (run.upsets ++ last) (booted_of run) (run.ticks + count)
      ≡ line_to (booted_of run) (run.ticks + count) ∷ reported (due run.upsets) (start (booted_of run)) run.ticks ++ lines
  -- A first line went out, with the tick since the boot that the run goes to, and then these lines.
  pub printed : after.disk.got ≡ grown before.disk.got (texts (line_to (booted_of run) ((machine_after run).ticks + count) ∷ lines))
  -- The core files and the saved machine that were written, in this order, are those after the run in one piece; no other file has changed.
  pub written : after.disk.files
      ≡ (wrote_all (core_outputs (machine_in_one run last count) cores ++ save_outputs box (machine_in_one run last count) save) before.disk).files
  pub heard : ℕ → List ℕ
  -- The run in one piece gives each UART what it gives in the ticks of the first run, and then these bytes.
  pub console : (uart : ℕ) → upset_console (schedule_of (run.upsets ++ last)) (start (booted_of run)) (run.ticks + count) uart
      ≡ upset_console (schedule_of run.upsets) (start (booted_of run)) run.ticks uart ++ heard uart
  -- Each UART got these bytes, or failed and is marked.
  pub said : IsHeard heard (without_marks before.board) after.board

-- The run that goes on.

-- the bytes of the saved machine of a run, by the contents of the files that it reads: it is the last of them
abbrev pub from_bytes : List RunOption → List (List ℕ) → List ℕ
from_bytes options contents = content (length (inputs_in options) + length (name_if_any (upsets_in options))) (drop 1 contents)

-- how many ticks the run from the machine after the first run has
abbrev pub ticks_onward : List RunOption → FirstRun → ℕ
ticks_onward options run = ticks_asked (span_in options) run.system.conf

-- these are the upsets of its file, or none where it names no file; the file's ticks count from the boot
abbrev pub ReadsUpsets : List RunOption → List (List ℕ) → FirstRun → List UpsetLine → Type 0
ReadsUpsets options contents run last =
    upsets_for run.system.conf (machine_after run).ticks (ticks_onward options run) options (drop 1 contents) ≡ Ok last

-- a machine that has halted is struck no more: where the first run left such a machine, upsets are to be of ticks that it did not do
abbrev pub StrikesOnward : FirstRun → List UpsetLine → Type 0
StrikesOnward run last = (machine_after run).halted ≡ true → AreFrom run.ticks last

-- nothing but the file of its saved machine can be a cause to refuse it
pub record HasNoOtherFault (options : List RunOption) (contents : List (List ℕ)) (run : FirstRun) : Type 0 where
  pub inputs : List (List ℕ)
  -- Its options name partitions that there are.
  pub named : inputs_for (length run.system.conf.parts) options (drop 1 contents) ≡ Ok inputs
  pub last : List UpsetLine
  -- Its upsets are read.
  pub struck : ReadsUpsets options contents run last
  -- Since the boot it goes to no later tick than a run may have.
  pub within : (machine_after run).ticks + ticks_onward options run ≤ TICKS
  -- Where it saves its machine, that is not too long for a file.
  pub short : (file : List ℕ) → save_in options ≡ Some file
      → length (saved_file (stored_digest (content 0 contents)) (after_ticks last (machine_onward run) (ticks_onward options run))) ≤ FILE_BYTES

-- a run from the saved machine of the first run goes on as that run
pub record GoesOnAs (status : Status) (options : List RunOption) (contents : List (List ℕ)) (run : FirstRun) (before after : World) : Type 0 where
  -- The file is read back as the machine after the first run, whose partitions are given the words that they have left.
  pub begins : beginning_of options (content 0 contents) (drop 1 contents) run.system [] ≡ Ok (machine_onward run)
  -- The call is not refused, where there is no other cause for it.
  pub granted : HasNoOtherFault options contents run → status ≢ Refused
  -- A call that is carried out shows the rest of the run in one piece.
  pub shows : (last : List UpsetLine) → ReadsUpsets options contents run last → StrikesOnward run last → IsCompleteStatus status
      → ShowsRest run last (ticks_onward options run) (content 0 contents) (cores_in options) (save_in options) before after

-- a run from the file of a saved machine, where the store's files are known, all that it reads are there and none is too long
abbrev pub RunGoesOn : Option (List ℕ) → Status → List ℕ → List RunOption → World → World → Type 0
RunGoesOn None status container options before after = Unit {0}
RunGoesOn (Some file) status container options before after =
    (files : Files) → before.disk.files ≡ Some files → (contents : List (List ℕ)) → read_all files (container ∷ run_inputs options) ≡ Ok contents
    → first_long (container ∷ run_inputs options) contents ≡ None
    → (run : FirstRun) → IsOfSave (content 0 contents) (from_bytes options contents) run → GoesOnAs status options contents run before after

-- a command that runs a container goes on from its saved machine, where it names one; other commands have none
abbrev pub GoesOnFromSave : Status → Option Command → World → World → Type 0
GoesOnFromSave status None before after = Unit {0}
GoesOnFromSave status (Some (Bare image ticks)) before after = Unit {0}
GoesOnFromSave status (Some (Parse description output)) before after = Unit {0}
GoesOnFromSave status (Some (Upgrade configuration output)) before after = Unit {0}
GoesOnFromSave status (Some (BuildImage program output)) before after = Unit {0}
GoesOnFromSave status (Some (ReadImage image)) before after = Unit {0}
GoesOnFromSave status (Some (Pack configuration output images)) before after = Unit {0}
GoesOnFromSave status (Some (ListContainer container)) before after = Unit {0}
GoesOnFromSave status (Some (CheckContainer container)) before after = Unit {0}
GoesOnFromSave status (Some (MakePlan description)) before after = Unit {0}
GoesOnFromSave status (Some (CheckPlan description)) before after = Unit {0}
GoesOnFromSave status (Some (ListGroups description)) before after = Unit {0}
GoesOnFromSave status (Some (ListSteerers description)) before after = Unit {0}
GoesOnFromSave status (Some (Generate number)) before after = Unit {0}
GoesOnFromSave status (Some (Run container options)) before after = RunGoesOn (from_in options) status container options before after
GoesOnFromSave status (Some (Replay container part script options)) before after = Unit {0}
