-- What a run shows of each partition: what it is alone, under what it received.
use Rattle.std.specs.Prelude.{◌≡◌, ◌≢◌, ℕ, ◌<◌, ◌⊎◌, List, [], ◌∷◌, ◌++◌, length, drop, map, Option, Some, None, Ok}
use Rattle.xm_outside.specs.Files.{Files, OthersStay}
use Rattle.xm_outside.specs.Growth.{GrewByPrefix, grown}
use Rattle.xm_report.specs.Report.{ReportLine, text_of, texts}
use Rattle.loaded_system.specs.Bare.{bare_system}
use Rattle.loaded_system.specs.System as loaded
use Rattle.xm_container.specs.Reading.{unpacked}
use Rattle.replay_setup.specs.OfRun.{IsOfRun, own_console}
use Rattle.uart_board.specs.Heard.{IsHeard}
use Rattle.uart_board.specs.Views.{without_marks}
use Rattle.machine_model.specs.Alone.{Alone, alone_start}
use Rattle.machine_model.specs.CoreFile.{core_file}
use Rattle.machine_model.specs.Laws.{part}
use Rattle.machine_model.specs.Lines.{end_line, own}
use Rattle.machine_model.specs.Machine.{Machine}
use Rattle.machine_model.specs.View.{System, view_of}
use Rattle.continuation_laws.specs.Continued.{from_tick}
use Rattle.continuation_laws.specs.Onward.{after_ticks, coming, received_from, report_from}
use Rattle.saved_machines.specs.Saving.{saved_file, stored_digest}
use Rattle.upset_model.specs.Places.{upsets_of}
use Rattle.upset_model.specs.Reports.{after_run, alone_reported, own_due, received_in, upset_report}
use Rattle.upset_model.specs.Upsets.{alone_upset_from, own_strikes}
use Rattle.upset_laws.specs.ReportLaws.{alone_after}
use Rattle.upset_model.specs.declared.upset_line.UpsetLine.{UpsetLine}
use Rattle.system_state.specs.State.{part_at, with_inputs}
use Rattle.command_line.specs.Words.{Command, PartFile, RunOption, Bare, Parse, Upgrade, BuildImage, ReadImage, Pack, ListContainer, CheckContainer, MakePlan, CheckPlan, ListGroups, ListSteerers, Generate, Run, Replay, cores_in, from_in, replay_core, save_in, span_in, scripts_in}
use Rattle.file_commands.specs.Inputs.{inputs_for, no_inputs}
use Rattle.file_commands.specs.Outcome.{Output, beginning_of, content, core_output, first_long, name_if_any, replay_input_bytes, replay_inputs, replay_upset_bytes, script_output, ticks_asked, upsets_for}
use Rattle.run_commands.specs.Contents.{read_all}
use Rattle.run_commands.specs.Numbers.{AllReceiveNumbers}
use Rattle.xm_commands.specs.Top.{AreContents, IsCompleteStatus}
use Rattle.file_commands.specs.Work.{Outside, wrote_all}
use Rattle.xm_commands.specs.World.{World}
use Rattle.file_commands.specs.declared.status.Status.{Status}
use Rattle.file_commands.specs.declared.status.Status.TheVariants.{Refused}

-- the lines of the partition alone and of its own upsets, and the line of its end
abbrev pub alone_report : List UpsetLine → System → ℕ → ℕ → List ReportLine
alone_report upsets system p ticks =
    alone_reported (view_of system p) (own_due p upsets) (alone_start (view_of system p)) (received_in upsets system p ticks)
    ++ end_line p (alone_after upsets system p ticks).state ∷ []

-- the core file of a partition alone, under the name that is given for it
abbrev pub alone_output : List UpsetLine → System → ℕ → PartFile → Output
alone_output upsets system ticks named = record { file = named.file; bytes = core_file (view_of system named.part) (alone_after upsets system named.part ticks).state }

-- partition p of a machine alone, after this many ticks: from its part of that machine on its own upsets strike it, and it receives what it received in the run
abbrev pub alone_onward : List UpsetLine → Machine → ℕ → ℕ → Alone
alone_onward upsets g p ticks =
    alone_upset_from (view_of g.system p) (own_strikes p (upsets_of (coming upsets g))) (part g p (part_at p g)) (received_from upsets g p ticks)

-- the lines of that partition alone and of its own upsets, whose ticks count from the boot, and the line of its end
abbrev pub onward_report : List UpsetLine → Machine → ℕ → ℕ → List ReportLine
onward_report upsets g p ticks =
    alone_reported (view_of g.system p) (from_tick g.ticks (own_due p upsets)) (part g p (part_at p g)) (received_from upsets g p ticks)
    ++ end_line p (alone_onward upsets g p ticks).state ∷ []

-- its core file, under the name that is given for it
abbrev pub onward_output : List UpsetLine → Machine → ℕ → PartFile → Output
onward_output upsets g ticks named = record { file = named.file; bytes = core_file (view_of g.system named.part) (alone_onward upsets g named.part ticks).state }

-- the saved machine of a container with these bytes, under the name that is given for it
abbrev pub save_output : List ℕ → Machine → List ℕ → Output
save_output box g file = record { file = file; bytes = saved_file (stored_digest box) g }

-- the machine that a run saves, where a file is named for it
abbrev pub save_outputs : List ℕ → Machine → Option (List ℕ) → List Output
save_outputs box g named = map (save_output box g) (name_if_any named)

-- what a run is to show: its whole report, how many partitions it has, the lines of each of them alone, and the files that it writes, in their order
pub record Showing : Type 0 where
  pub report : List ReportLine
  pub parts : ℕ
  pub alone : ℕ → List ReportLine
  pub outputs : List Output

-- the core files of partitions alone, and scripts after them
abbrev pub alone_outputs : List UpsetLine → System → ℕ → List PartFile → List PartFile → List Output
alone_outputs upsets system ticks cores scripts = map (alone_output upsets system ticks) cores ++ map (script_output upsets system ticks) scripts

-- a run of this many ticks with upsets from the boot of a system on: its files are the core files of partitions alone, the scripts, which are what the
-- partitions received, and the machine that it saves
abbrev pub booted_run : List UpsetLine → System → ℕ → List PartFile → List PartFile → List Output → Showing
booted_run upsets system ticks cores scripts saves = record {
  report = upset_report upsets system ticks;
  parts = length system.conf.parts;
  alone = λ p. alone_report upsets system p ticks;
  outputs = alone_outputs upsets system ticks cores scripts ++ saves;
}

-- one from a machine on: its files are the core files of partitions alone, and the machine that it saves; such a run has no scripts
abbrev pub onward_run : List UpsetLine → Machine → ℕ → List PartFile → List Output → Showing
onward_run upsets g ticks cores saves = record {
  report = report_from upsets g ticks;
  parts = length g.system.conf.parts;
  alone = λ p. onward_report upsets g p ticks;
  outputs = map (onward_output upsets g ticks) cores ++ saves;
}

-- what a run prints, where all of it went out: the lines of its report, of which each partition's own are those of that partition alone, with its own upsets
pub record PrintsAlone (run : Showing) (before after : Outside) : Type 0 where
  pub lines : List ReportLine
  pub whole : lines ≡ run.report
  pub report : after.got ≡ grown before.got (texts lines)
  pub own : (p : ℕ) → p < run.parts → own p lines ≡ run.alone p

-- what was done shows this of a run
abbrev pub Shown : Type 1
Shown = Showing → Outside → Outside → Type 0

-- a run: its whole report went out, and the core files that were written, in this order, are those of the partitions alone, and the files after them
-- are its scripts and its saved machine; no other file has changed
pub record ShowsAlone (run : Showing) (before after : Outside) : Type 0 where
  pub printed : PrintsAlone run before after
  pub written : after.files ≡ (wrote_all run.outputs before).files

-- the same run, where its report was cut: what went out is the first lines of it, and a prefix of the next line. Of these lines each partition's
-- own are the first of those of that partition alone, and the rest of them did not go out. No file has changed
pub record ShowsFront (run : Showing) (before after : Outside) : Type 0 where
  pub lines : List ReportLine
  pub next : ReportLine
  pub rest : List ReportLine
  pub split : lines ++ next ∷ rest ≡ run.report
  pub front : GrewByPrefix (grown before.got (texts lines)) (text_of next) after.got
  pub own : (p : ℕ) → p < run.parts → own p lines ++ own p (next ∷ rest) ≡ run.alone p
  pub files : after.files ≡ before.files

-- the same run, where one of its files was not written: its whole report went out, and the files before that one were written, so all core
-- files where it is a script, and all scripts, too, where it is the saved machine; no file beside these has changed
pub record ShowsSome (run : Showing) (before after : Outside) : Type 0 where
  pub printed : PrintsAlone run before after
  pub first : List Output
  pub lost : Output
  pub rest : List Output
  pub split : first ++ lost ∷ rest ≡ run.outputs
  pub others : OthersStay (wrote_all first before).files lost.file after.files

-- the same run, where its report or one of its files was not written
abbrev pub ShowsPart : Shown
ShowsPart run before after = ShowsFront run before after ⊎ ShowsSome run before after

-- a raw image with these contents was run, and the run shows this
pub record BareAlone (Shows : Shown) (contents : List (List ℕ)) (image : List ℕ) (ticks : ℕ) (before after : Outside) : Type 0 where
  pub are : AreContents before.files (Bare image ticks) contents
  pub shows : Shows (booted_run [] (with_inputs (bare_system (content 0 contents)) (no_inputs 1)) ticks [] [] []) before after

-- a container with these contents was run from the boot on, with input words for its partitions and with upsets, and the run shows this; where the store's
-- files are known, the numbers that the partitions of its scripts received are in range: bytes are bytes, and the status of each reset is a word
pub record ContainerAlone (Shows : Shown) (contents : List (List ℕ)) (container : List ℕ) (options : List RunOption) (before after : Outside) : Type 0 where
  pub are : AreContents before.files (Run container options) contents
  pub system : loaded.System
  pub unpacks : unpacked (content 0 contents) ≡ Ok system
  pub inputs : List (List ℕ)
  pub given : inputs_for (length system.conf.parts) options (drop 1 contents) ≡ Ok inputs
  pub upsets : List UpsetLine
  pub striking : upsets_for system.conf 0 (ticks_asked (span_in options) system.conf) options (drop 1 contents) ≡ Ok upsets
  pub numbers : (files : Files) → before.files ≡ Some files → AllReceiveNumbers upsets (with_inputs system inputs) (ticks_asked (span_in options) system.conf) (scripts_in options)
  pub shows : Shows (booted_run upsets (with_inputs system inputs) (ticks_asked (span_in options) system.conf) (cores_in options) (scripts_in options)
      (save_outputs (content 0 contents) (after_run upsets (with_inputs system inputs) (ticks_asked (span_in options) system.conf)) (save_in options))) before after

-- a container with these contents was run from the machine on that a file has, with upsets, and the run shows this
pub record OnwardAlone (Shows : Shown) (contents : List (List ℕ)) (container : List ℕ) (options : List RunOption) (before after : Outside) : Type 0 where
  pub are : AreContents before.files (Run container options) contents
  pub system : loaded.System
  pub unpacks : unpacked (content 0 contents) ≡ Ok system
  pub machine : Machine
  pub begins : beginning_of options (content 0 contents) (drop 1 contents) system [] ≡ Ok machine
  pub upsets : List UpsetLine
  pub striking : upsets_for system.conf machine.ticks (ticks_asked (span_in options) system.conf) options (drop 1 contents) ≡ Ok upsets
  pub shows : Shows (onward_run upsets machine (ticks_asked (span_in options) system.conf) (cores_in options)
      (save_outputs (content 0 contents) (after_ticks upsets machine (ticks_asked (span_in options) system.conf)) (save_in options))) before after

-- a run begins with the boot of its system, or with the saved machine of the file that is named for it
abbrev pub RunAlone : Option (List ℕ) → Shown → List (List ℕ) → List ℕ → List RunOption → Outside → Outside → Type 0
RunAlone None Shows contents container options before after = ContainerAlone Shows contents container options before after
RunAlone (Some file) Shows contents container options before after = OnwardAlone Shows contents container options before after

-- what a command shows of partitions, by the contents of its files; those that print no report of a run show nothing here
abbrev pub CommandAlone : Shown → List (List ℕ) → Command → Outside → Outside → Type 0
CommandAlone Shows contents (Bare image ticks) before after = BareAlone Shows contents image ticks before after
CommandAlone Shows contents (Parse description output) before after = Unit {0}
CommandAlone Shows contents (Upgrade configuration output) before after = Unit {0}
CommandAlone Shows contents (BuildImage program output) before after = Unit {0}
CommandAlone Shows contents (ReadImage image) before after = Unit {0}
CommandAlone Shows contents (Pack configuration output images) before after = Unit {0}
CommandAlone Shows contents (ListContainer container) before after = Unit {0}
CommandAlone Shows contents (CheckContainer container) before after = Unit {0}
CommandAlone Shows contents (MakePlan description) before after = Unit {0}
CommandAlone Shows contents (CheckPlan description) before after = Unit {0}
CommandAlone Shows contents (ListGroups description) before after = Unit {0}
CommandAlone Shows contents (ListSteerers description) before after = Unit {0}
CommandAlone Shows contents (Generate number) before after = Unit {0}
CommandAlone Shows contents (Run container options) before after = RunAlone (from_in options) Shows contents container options before after
CommandAlone Shows contents (Replay container part script options) before after = Unit {0}

-- what words show that are a command
abbrev pub AreShownAlone : Shown → List (List ℕ) → Option Command → Outside → Outside → Type 0
AreShownAlone Shows contents None before after = Unit {0}
AreShownAlone Shows contents (Some command) before after = CommandAlone Shows contents command before after

-- What a replay shows of a run.

-- the partition's own lines of the report of that run with upsets and the line of its end went out, its core file is that after the run, and its UART got the
-- console bytes that the partition wrote to it in that run
pub record ShowsOwn (upsets : List UpsetLine) (system : System) (ticks part : ℕ) (core : Option (List ℕ)) (before after : World) : Type 0 where
  pub printed : after.disk.got ≡ grown before.disk.got (texts (own part (upset_report upsets system ticks)))
  pub written : after.disk.files
      ≡ (wrote_all (map (λ file. core_output (after_run upsets system ticks) (record { part = part; file = file })) (name_if_any core)) before.disk).files
  pub said : IsHeard (own_console upsets system ticks part) (without_marks before.board) after.board

-- a replay by the script of a run, with the upsets of that run, is not refused, and shows the partition's part of that run
abbrev pub ReplaysRun : Status → Command → World → World → Type 0
ReplaysRun status (Bare image ticks) before after = Unit {0}
ReplaysRun status (Parse description output) before after = Unit {0}
ReplaysRun status (Upgrade configuration output) before after = Unit {0}
ReplaysRun status (BuildImage program output) before after = Unit {0}
ReplaysRun status (ReadImage image) before after = Unit {0}
ReplaysRun status (Pack configuration output images) before after = Unit {0}
ReplaysRun status (ListContainer container) before after = Unit {0}
ReplaysRun status (CheckContainer container) before after = Unit {0}
ReplaysRun status (MakePlan description) before after = Unit {0}
ReplaysRun status (CheckPlan description) before after = Unit {0}
ReplaysRun status (ListGroups description) before after = Unit {0}
ReplaysRun status (ListSteerers description) before after = Unit {0}
ReplaysRun status (Generate number) before after = Unit {0}
ReplaysRun status (Run container options) before after = Unit {0}
ReplaysRun status (Replay container part script options) before after =
    (files : Files) → before.disk.files ≡ Some files → (contents : List (List ℕ)) → read_all files (container ∷ script ∷ replay_inputs options) ≡ Ok contents
    → first_long (container ∷ script ∷ replay_inputs options) contents ≡ None
    → (system : loaded.System) (inputs : List (List ℕ)) (upsets : List UpsetLine) (ticks : ℕ)
    → IsOfRun (content 0 contents) part (content 1 contents) (replay_input_bytes options contents) (replay_upset_bytes options contents) system inputs upsets ticks
    → (status ≢ Refused) × (IsCompleteStatus status → ShowsOwn upsets (with_inputs system inputs) ticks part (replay_core options) before after)

-- words that are no command replay nothing
abbrev pub ReplaysAlone : Status → Option Command → World → World → Type 0
ReplaysAlone status None before after = Unit {0}
ReplaysAlone status (Some command) before after = ReplaysRun status command before after
