-- A replay by the script of a run, as a command.
use Rattle.std.proofs.Common.{◌≡◌, ℕ, ⊎_elim, List, [], ◌∷◌, length, map, take, Option, Some, None, Ok, refl, sym, ap, ◌∙◌, subst}
use Rattle.std.specs.Prelude.{IsSome}
use Rattle.xm_outside.specs.Files.{Files}
use Rattle.xm_outside.specs.Growth.{grown}
use Rattle.xm_report.specs.Report.{ReportLine, texts}
use Rattle.uart_board.specs.Heard.{IsHeard}
use Rattle.uart_board.specs.Views.{BoardView, without_marks}
use Rattle.replay_setup.specs.OfRun.{RunIsReplayed, own_console}
use Rattle.builders.specs.Ready.{Replay as Readied, replay_of}
use Rattle.machine_model.specs.CoreFile.{core_file}
use Rattle.machine_model.specs.Cue.{Cue}
use Rattle.machine_model.specs.Laws.{core_file_of}
use Rattle.machine_model.specs.Lines.{own}
use Rattle.upset_model.specs.Reports.{after_run, upset_report}
use Rattle.upset_model.specs.declared.upset_line.UpsetLine.{UpsetLine}
use Rattle.machine_model.specs.View.{System, view_of}
use Rattle.system_state.specs.State.{with_inputs}
use Rattle.recording_model.specs.Lone.{booted_alone, replay_said}
use Rattle.recording_model.specs.Replayed.{replay_lines, replayed}
use Rattle.command_line.specs.Words.{Command, ReplayFile, Bare, Parse, Upgrade, BuildImage, ReadImage, Pack, ListContainer, CheckContainer, MakePlan, CheckPlan, ListGroups, ListSteerers, Generate, Run, Replay, replay_core}
use Rattle.run_commands.specs.Boards.{IsRunTo, LeavesBoard, Plays, said_in_run, ticks_of_run}
use Rattle.run_commands.specs.Contents.{read_all}
use Rattle.file_commands.specs.Denial.{Denial}
use Rattle.file_commands.specs.Ending.{Ending, Done, Usage, ReadFault, Refused, WriteFaultReport, WriteFaultFile, UartFault, NoMemory, status_of}
use Rattle.file_commands.specs.Outcome.{Apart, Output, Outcome, Running, content, core_output, first_long, inputs_of, name_if_any, outcome_of, played, replay_input_bytes, replay_inputs, replay_outcome_by, replay_outcome, replay_output, replay_upset_bytes, unless_long, outcome_of_contents}
use Rattle.xm_commands.specs.Separation.{ReplaysAlone, ShowsOwn}
use Rattle.xm_commands.specs.Top.{AreContents, IsCompleteStatus, IsRefusedIn}
use Rattle.file_commands.specs.Work.{Outside, IsCarriedOut, Works, called_for, did, reported_all, wrote_all}
use Rattle.file_commands.specs.lemmas.OutputLemmas.{called_for-is}
use Rattle.xm_commands.specs.World.{World}
use Rattle.xm_commands.proofs.OutsideLemmas.{known_outcome}
use Rattle.xm_commands.proofs.SeparationLemmas.{core_there}
use Rattle.xm_commands.proofs.TopLemmas.{done_is_finished, has_causes, unheard_finished}
use Rattle.xm_commands.proofs.WrittenLemmas.{did-got, wrote_all-from}

-- the outcome of a replay that may begin
pub begun_outcome : (container : List ℕ) (part : ℕ) (script : List ℕ) (options : List ReplayFile) (contents : List (List ℕ)) (replay : Readied)
    → first_long (container ∷ script ∷ replay_inputs options) contents ≡ None
    → replay_of (content 0 contents) part (content 1 contents) (replay_input_bytes options contents) (replay_upset_bytes options contents) ≡ Ok replay
    → outcome_of (Replay container part script options) contents ≡ played (replay_core options) replay
unfolding outcome_of replay_outcome
begun_outcome container part script options contents replay short begins =
    ap (λ (long : Option (List ℕ)). unless_long long (outcome_of_contents (Replay container part script options) contents)) short
    ∙ ap (replay_outcome_by container part script options) begins

-- it is not refused
never_refused : (core : Option (List ℕ)) (replay : Readied) → IsSome (played core replay).denial → ⊥
unfolding played
never_refused core replay denied = absurd (let some : IsSome {T = Denial} None = denied in cc)

-- a file with these bytes alone
abbrev one_output : List ℕ → List ℕ → List Output
one_output file bytes = record { file = file; bytes = bytes } ∷ []

-- the core file that it writes is that after the run
pub own_cores : (upsets : List UpsetLine) (system : System) (ticks part : ℕ) (replay : Readied) (core : Option (List ℕ))
    → core_file_of (after_run upsets system ticks) part ≡ Some (core_file (view_of replay.system replay.p) (replayed replay.upsets (view_of replay.system replay.p) replay.cues).state)
    → map (replay_output replay) (name_if_any core) ≡ map (λ (file : List ℕ). core_output (after_run upsets system ticks) (record { part = part; file = file })) (name_if_any core)
own_cores upsets system ticks part replay None is = refl
own_cores upsets system ticks part replay (Some file) is =
    ap (one_output file) (sym (core_there (after_run upsets system ticks) part _ is))

-- what is carried out of it shows the partition's part of the run
shows_own : (upsets : List UpsetLine) (system : System) (ticks part : ℕ) (replay : Readied) (core : Option (List ℕ)) (before : World) (read_from : Outside) (after : World)
    → replay_lines replay.upsets (view_of replay.system replay.p) replay.cues ≡ own part (upset_report upsets system ticks)
    → core_file_of (after_run upsets system ticks) part ≡ Some (core_file (view_of replay.system replay.p) (replayed replay.upsets (view_of replay.system replay.p) replay.cues).state)
    → read_from.files ≡ before.disk.files → read_from.got ≡ before.disk.got → after.disk ≡ did (played core replay) read_from → IsHeard (own_console upsets system ticks part) (without_marks before.board) after.board → ShowsOwn upsets system ticks part core before after
unfolding played
shows_own upsets system ticks part replay core before read_from after lines file files got is heard = record {
  printed = ap (λ (x : Outside). x.got) is ∙ did-got (played core replay) read_from
      ∙ ap (λ (g : Option (List ℕ)). grown g (texts (replay_lines replay.upsets (view_of replay.system replay.p) replay.cues))) got
      ∙ ap (λ (ls : List ReportLine). grown before.disk.got (texts ls)) lines;
  written = ap (λ (x : Outside). x.files) is
      ∙ ap (λ (os : List Output). (wrote_all os (reported_all (played core replay) read_from)).files) (own_cores upsets system ticks part replay core file)
      ∙ wrote_all-from (map (λ (f : List ℕ). core_output (after_run upsets system ticks) (record { part = part; file = f })) (name_if_any core)) (reported_all (played core replay) read_from) before.disk files;
  said = heard;
}

-- contents that were read of known files are these
pub same_contents : (files : Files) (held : Option Files) (command : Command) (contents others : List (List ℕ)) → held ≡ Some files → read_all files (inputs_of command) ≡ Ok contents → AreContents held command others → others ≡ contents
same_contents files held command contents others known all are =
    let read : read_all files (inputs_of command) ≡ Ok others = subst (λ (o : Option Files). AreContents o command others) known are in
    let both : Ok others ≡ Ok contents = sym read ∙ all in
    cc

-- a replay that was refused was not by the script of a run
refused_never : (command : Command) (before after : Outside) (files : Files) (contents : List (List ℕ)) (core : Option (List ℕ)) (replay : Readied) → before.files ≡ Some files → read_all files (inputs_of command) ≡ Ok contents
    → outcome_of command contents ≡ played core replay → IsRefusedIn command before after → ⊥
refused_never command before after files contents core replay known all comes refused =
    let same : refused.contents ≡ contents = same_contents files before.files command contents refused.contents known all refused.are in
    never_refused core replay (subst (λ (o : Outcome). IsSome o.denial) (ap (outcome_of command) same ∙ comes) refused.refused)

-- what it runs
played_run : (core : Option (List ℕ)) (replay : Readied) → (played core replay).run ≡ Some (Apart replay.system replay.p replay.upsets replay.cues)
unfolding played
played_run core replay = refl

-- all cues are as many as they are
all_cues : (cues : List Cue) → take (length cues) cues ≡ cues
all_cues [] = refl
all_cues (cue ∷ cues) = ap (λ more. cue ∷ more) (all_cues cues)

-- a replay all of whose cues are done has said what the partition said in the run
run_heard : (upsets : List UpsetLine) (system : System) (ticks part : ℕ) (replay : Readied) (board left : BoardView) → ((uart : ℕ) → replay_said replay.upsets (booted_alone replay.system replay.p) replay.cues uart ≡ own_console upsets system ticks part uart)
    → IsRunTo (ticks_of_run (Apart replay.system replay.p replay.upsets replay.cues)) (Apart replay.system replay.p replay.upsets replay.cues) board left → IsHeard (own_console upsets system ticks part) (without_marks board) left
run_heard upsets system ticks part replay board left said heard =
    let same : said_in_run (Apart replay.system replay.p replay.upsets replay.cues) (length replay.cues) ≡ own_console upsets system ticks part = λ i uart.
    (ap (λ cues. replay_said replay.upsets (booted_alone replay.system replay.p) cues uart) (all_cues replay.cues) ∙ said uart) i in
    subst (λ (f : ℕ → List ℕ). IsHeard f (without_marks board) left) same heard

-- so it is where it was carried out
replay_heard : (e : Ending) (run : Option Running) (upsets : List UpsetLine) (system : System) (ticks part : ℕ) (replay : Readied) (had got : Option (List ℕ)) (board left : BoardView) → ((uart : ℕ) → replay_said replay.upsets (booted_alone replay.system replay.p) replay.cues uart ≡ own_console upsets system ticks part uart)
    → IsCompleteStatus (status_of e) → LeavesBoard e run had got board left → run ≡ Some (Apart replay.system replay.p replay.upsets replay.cues) → IsHeard (own_console upsets system ticks part) (without_marks board) left
replay_heard e run upsets system ticks part replay had got board left said complete leaves runs =
    by e complete (subst (λ (r : Option Running). LeavesBoard e r had got board left) runs leaves)
  where
    by : (e : Ending) → IsCompleteStatus (status_of e) → LeavesBoard e (Some (Apart replay.system replay.p replay.upsets replay.cues)) had got board left → IsHeard (own_console upsets system ticks part) (without_marks board) left
    by Done complete leaves = run_heard upsets system ticks part replay board left said leaves.heard
    by Usage complete leaves = absurd (⊎_elim (λ h. cc) (λ h. cc) complete)
    by (ReadFault file) complete leaves = absurd (⊎_elim (λ h. cc) (λ h. cc) complete)
    by (Refused file text) complete leaves = absurd (⊎_elim (λ h. cc) (λ h. cc) complete)
    by WriteFaultReport complete leaves = absurd (⊎_elim (λ h. cc) (λ h. cc) complete)
    by (WriteFaultFile file) complete leaves = absurd (⊎_elim (λ h. cc) (λ h. cc) complete)
    by (UartFault place) complete leaves = run_heard upsets system ticks part replay board left said leaves.heard
    by NoMemory complete leaves = absurd (⊎_elim (λ h. cc) (λ h. cc) complete)

-- one that was carried out shows the partition's part
carried_own : (command : Command) (read : List (List ℕ)) (before after : World) (files : Files) (contents : List (List ℕ)) (upsets : List UpsetLine) (system : System) (ticks part : ℕ) (core : Option (List ℕ)) (replay : Readied) → before.disk.files ≡ Some files
    → read_all files (inputs_of command) ≡ Ok contents → outcome_of command contents ≡ played core replay
    → replay_lines replay.upsets (view_of replay.system replay.p) replay.cues ≡ own part (upset_report upsets system ticks)
    → core_file_of (after_run upsets system ticks) part ≡ Some (core_file (view_of replay.system replay.p) (replayed replay.upsets (view_of replay.system replay.p) replay.cues).state)
    → IsCarriedOut None read command before.disk after.disk → ((outcome_of command read).run ≡ Some (Apart replay.system replay.p replay.upsets replay.cues) → IsHeard (own_console upsets system ticks part) (without_marks before.board) after.board)
    → ShowsOwn upsets system ticks part core before after
carried_own command read before after files contents upsets system ticks part core replay known all comes lines file w heard =
    let held = known_outcome before.disk.files command read w.read in
    let same : held.contents ≡ contents = same_contents files before.disk.files command contents held.contents known all held.are in
    shows_own upsets system ticks part replay core before (called_for (inputs_of command) before.disk) after lines file
    (ap (λ (x : Outside). x.files) (called_for-is (inputs_of command) before.disk)) (ap (λ (x : Outside). x.got) (called_for-is (inputs_of command) before.disk))
    (w.outside ∙ ap (λ (o : Outcome). did o (called_for (inputs_of command) before.disk)) (held.outcome ∙ ap (outcome_of command) same ∙ comes))
    (heard (ap (λ (o : Outcome). o.run) (held.outcome ∙ ap (outcome_of command) same ∙ comes) ∙ played_run core replay))

-- a replay by the script of a run
replayed_so : RunIsReplayed → (e : Ending) (read : List (List ℕ)) (container : List ℕ) (part : ℕ) (script : List ℕ) (options : List ReplayFile) (before after : World) → Works e read (Some (Replay container part script options)) before.disk after.disk
    → Plays e read (Some (Replay container part script options)) before.disk.got after.disk.got before.board after.board → ReplaysAlone (status_of e) (Some (Replay container part script options)) before after
replayed_so law e read container part script options before after w plays = λ files known contents all short system inputs upsets ticks is.
    let command = Replay container part script options in
    let shows = law (content 0 contents) part (content 1 contents) (replay_input_bytes options contents) (replay_upset_bytes options contents) system inputs upsets ticks is in
    let comes : outcome_of command contents ≡ played (replay_core options) shows.replay = begun_outcome container part script options contents shows.replay short shows.begins in (
      λ refused. refused_never command before.disk after.disk files contents (replay_core options) shows.replay known all comes ((has_causes e read (Some command) before.disk after.disk w).refused refused),
      λ complete. carried_own command read before after files contents upsets (with_inputs system inputs) ticks part (replay_core options) shows.replay known all comes shows.lines shows.core
          (⊎_elim (λ done. subst (λ (e : Ending). Works e read (Some command) before.disk after.disk) (done_is_finished e done) w) (λ fault. unheard_finished e read command before.disk after.disk fault w) complete)
          (replay_heard e (outcome_of command read).run upsets (with_inputs system inputs) ticks part shows.replay before.disk.got after.disk.got before.board after.board shows.said complete plays),
    )

pub are_replayed : RunIsReplayed → (e : Ending) (read : List (List ℕ)) (command : Option Command) (before after : World) → Works e read command before.disk after.disk → Plays e read command before.disk.got after.disk.got before.board after.board → ReplaysAlone (status_of e) command before after
are_replayed law e read None before after w plays = tt
are_replayed law e read (Some (Bare image ticks)) before after w plays = tt
are_replayed law e read (Some (Parse description output)) before after w plays = tt
are_replayed law e read (Some (Upgrade configuration output)) before after w plays = tt
are_replayed law e read (Some (BuildImage program output)) before after w plays = tt
are_replayed law e read (Some (ReadImage image)) before after w plays = tt
are_replayed law e read (Some (Pack configuration output images)) before after w plays = tt
are_replayed law e read (Some (ListContainer container)) before after w plays = tt
are_replayed law e read (Some (CheckContainer container)) before after w plays = tt
are_replayed law e read (Some (MakePlan description)) before after w plays = tt
are_replayed law e read (Some (CheckPlan description)) before after w plays = tt
are_replayed law e read (Some (ListGroups description)) before after w plays = tt
are_replayed law e read (Some (ListSteerers description)) before after w plays = tt
are_replayed law e read (Some (Generate number)) before after w plays = tt
are_replayed law e read (Some (Run container options)) before after w plays = tt
are_replayed law e read (Some (Replay container part script options)) before after w plays = replayed_so law e read container part script options before after w plays
