-- A replay that is played, and what it leaves of the outside and of the board.
use Rattle.std.proofs.Common.{◌≡◌, ℕ, suc, ◌+◌, ◌≤◌, ◌∙◌, Bool, true, false, nat_lt, if◌then◌else◌, List, [], ◌∷◌, ◌++◌, length, map, drop, take, Option, Some, None, Result, Ok, Err, refl, sym, ap, subst, arith}
use Rattle.std.specs.Prelude.{IsSome}
use Rattle.std.proofs.lemmas.List.{take_all}
use Rattle.xm_outside.specs.Causes.{Rose}
use Rattle.xm_outside.specs.Files.{Files}
use Rattle.xm_report.specs.Report.{ReportLine}
use Rattle.xm_report.specs.declared.output.WriteFault.{WriteFault}
use Rattle.uart_board.specs.Heard.{IsHeard}
use Rattle.uart_board.specs.Views.{BoardView, without_marks}
use Rattle.replay_setup.specs.Readied.{IsUnready}
use Rattle.builders.specs.Ready.{Replay as Readied, Unready}
use Rattle.machine_model.specs.Cue.{Cue}
use Rattle.machine_model.specs.View.{view_of}
use Rattle.recording_model.specs.Replayed.{replay_lines}
use Rattle.xm_alone.specs.Replay.{IsReplay, IsReplayed, IsWholeReplay}
use Rattle.xm_alone.specs.Shown.{IsCutShowing, IsShown}
use Rattle.recording_model.specs.Lone.{Lone, booted_alone, own_view, replay_said}
use Rattle.upset_model.specs.declared.upset_line.UpsetLine.{UpsetLine}
use Rattle.command_line.specs.Words.{ReplayFile, replay_input, replay_upsets}
use Rattle.run_commands.specs.EndsAfter.{EndsAfter}
use Rattle.run_commands.specs.Boards.{IsRunTo, LeavesBoard}
use Rattle.run_commands.specs.lemmas.EndsAfterLemmas.{leaves_and_after, outcome_and_after}
use Rattle.file_commands.specs.Ending.{Ending, WriteFaultReport}
use Rattle.xm_base.specs.declared.limits.TheConstants.{FILE_BYTES}
use Rattle.file_commands.specs.Outcome.{Output, Running, Apart, bytes_if_any, content, first_long, name_if_any, played, replay_input_bytes, replay_inputs, replay_outcome_by, replay_output, unready_denial}
use Rattle.xm_commands.specs.lemmas.Replaying.{lone_output, ready_of, unready_ending}
use Rattle.file_commands.specs.Work.{Outside, outside, reported_all}
use Rattle.file_commands.specs.lemmas.WorkTerms.{HasOutcome}
use Rattle.std.proofs.lemmas.Bool.Decides.{nat_tests}
use Rattle.run_commands.specs.lemmas.InputLemmas.{rest_short}
use Rattle.file_commands.specs.lemmas.CommandLemmas.{refused_outcome}

-- A replay.

-- its whole report went out
pub whole_reported : (lone new : Lone) (upsets : List UpsetLine) (cues : List Cue) (core : Option (List ℕ)) (had got : Option (List ℕ)) (before now : ℕ) (files : Option Files) (reads writes calls : ℕ) (mid after : BoardView)
    → IsWholeReplay upsets cues (replay_lines upsets (own_view lone) cues) lone new had got mid after → now ≡ before
    → outside files reads writes calls got now ≡ reported_all (played core (ready_of lone upsets cues)) (outside files reads writes calls had before)
unfolding played
whole_reported lone new upsets cues core had got before now files reads writes calls mid after is same = rw (is.report, same) refl

-- the core file that is written of it
pub core_is : (lone new : Lone) (upsets : List UpsetLine) (cues : List Cue) (file : List ℕ) → IsReplayed upsets cues lone new → lone_output new file ≡ replay_output (ready_of lone upsets cues) file
core_is lone new upsets cues file is =
    let view : own_view new ≡ own_view lone = ap (λ s. view_of s new.p) is.system ∙ ap (λ q. view_of lone.system q) is.p in
    rw (view, is.part) refl

pub cores_are : (lone new : Lone) (upsets : List UpsetLine) (cues : List Cue) (core : Option (List ℕ)) → IsReplayed upsets cues lone new → map (lone_output new) (name_if_any core) ≡ (played core (ready_of lone upsets cues)).later
unfolding played
cores_are lone new upsets cues None is = refl
cores_are lone new upsets cues (Some file) is = ap (λ (o : Output). o ∷ []) (core_is lone new upsets cues file is)

-- what is played is granted, and is a run
pub played-granted : (core : Option (List ℕ)) (replay : Readied) → (played core replay).denial ≡ None
unfolding played
played-granted core replay = refl

pub played-runs : (core : Option (List ℕ)) (replay : Readied) → IsSome (played core replay).run
unfolding played
played-runs core replay = refl

-- so its outcome is what is done after its report
pub after_replay : (e : Ending) (board : BoardView) (lone new : Lone) (upsets : List UpsetLine) (cues : List Cue) (core : Option (List ℕ)) (had got : Option (List ℕ)) (before now : ℕ) (files : Option Files) (reads writes calls : ℕ) (mid last : BoardView) (after : Outside)
    → IsWholeReplay upsets cues (replay_lines upsets (own_view lone) cues) lone new had got mid last → now ≡ before → EndsAfter e (map (lone_output new) (name_if_any core)) board (outside files reads writes calls got now) after
    → HasOutcome e (played core (ready_of lone upsets cues)) (outside files reads writes calls had before) after
after_replay e board lone new upsets cues core had got before now files reads writes calls mid last after is same ends =
    outcome_and_after e board (played core (ready_of lone upsets cues)) (outside files reads writes calls had before) (outside files reads writes calls got now) after (played-granted core (ready_of lone upsets cues)) (played-runs core (ready_of lone upsets cues))
    (whole_reported lone new upsets cues core had got before now files reads writes calls mid last is same)
    (subst (λ (os : List Output). EndsAfter e os board (outside files reads writes calls got now) after) (cores_are lone new upsets cues core is.left) ends)

-- its report was cut
pub cut_outcome : (lone : Lone) (upsets : List UpsetLine) (cues : List Cue) (core : Option (List ℕ)) (had got : Option (List ℕ)) (before now : ℕ) (files : Option Files) (reads writes calls : ℕ) (mid after : BoardView)
    → IsCutShowing upsets cues (replay_lines upsets (own_view lone) cues) lone had got mid after → Rose before now
    → HasOutcome WriteFaultReport (played core (ready_of lone upsets cues)) (outside files reads writes calls had before) (outside files reads writes calls got now)
unfolding played
cut_outcome lone upsets cues core had got before now files reads writes calls mid after is rose = (rose, is.report, refl)

-- one that was played shows its lines
replay_shows : {T : Type 0} (result : Result T WriteFault) (upsets : List UpsetLine) (cues : List Cue) (lines : List ReportLine) (lone new : Lone) (had got : Option (List ℕ)) (mid after : BoardView)
    → IsReplay result upsets cues lines lone new had got mid after → IsShown result upsets cues lines lone new had got mid after
replay_shows (Ok done) upsets cues lines lone new had got mid after is = is
replay_shows (Err unwritten) upsets cues lines lone new had got mid after is =
    record { done = is.done; within = is.within; report = is.report; heard = is.heard; whole = is.whole; cut = is.cut }

-- and one that was played from a state shows those from the state that is the same
pub played_from : {T : Type 0} (result : Result T WriteFault) (upsets : List UpsetLine) (cues : List Cue) (lines : List ReportLine) (lone from new : Lone) (had got : Option (List ℕ)) (mid after : BoardView) → lone ≡ from
    → IsReplay result upsets cues lines lone new had got mid after → IsShown result upsets cues lines from new had got mid after
played_from result upsets cues lines lone from new had got mid after same is =
    subst (λ (old : Lone). IsShown result upsets cues lines old new had got mid after) same (replay_shows result upsets cues lines lone new had got mid after is)

-- What it leaves of the board.

-- what a partition says from its boot on
said_same : (lone : Lone) (upsets : List UpsetLine) (cues : List Cue) → lone ≡ booted_alone lone.system lone.p → replay_said upsets lone cues ≡ replay_said upsets (booted_alone lone.system lone.p) cues
said_same lone upsets cues booted = ap (λ l. replay_said upsets l cues) booted

-- all of it
whole_heard : (lone new : Lone) (upsets : List UpsetLine) (cues : List Cue) (had got : Option (List ℕ)) (before mid after : BoardView) → IsWholeReplay upsets cues (replay_lines upsets (own_view lone) cues) lone new had got mid after → mid ≡ without_marks before
    → IsRunTo (length cues) (Apart lone.system lone.p upsets cues) before after
whole_heard lone new upsets cues had got before mid after is begins = rw take_all_same (subst (λ (board : BoardView). IsHeard (replay_said upsets lone cues) board after) begins is.heard)
  where
    take_all_same : take (length cues) cues ≡ cues
    take_all_same = take_all (length cues) cues (omega arith)

-- where its whole report went out
pub lone_after : (e : Ending) (outputs : List Output) (from to : Outside) (lone new : Lone) (upsets : List UpsetLine) (cues : List Cue) (core : Option (List ℕ)) (had got : Option (List ℕ)) (before mid after : BoardView)
    → EndsAfter e outputs after from to → IsWholeReplay upsets cues (replay_lines upsets (own_view lone) cues) lone new had got mid after → mid ≡ without_marks before → LeavesBoard e (played core (ready_of lone upsets cues)).run had got before after
unfolding played
lone_after e outputs from to lone new upsets cues core had got before mid after ends is begins =
    leaves_and_after e outputs (Apart lone.system lone.p upsets cues) had got from to before after (whole_heard lone new upsets cues had got before mid after is begins) ends

pub lone_cut : (lone : Lone) (upsets : List UpsetLine) (cues : List Cue) (core : Option (List ℕ)) (had got : Option (List ℕ)) (before mid after : BoardView) → IsCutShowing upsets cues (replay_lines upsets (own_view lone) cues) lone had got mid after → mid ≡ without_marks before
    → LeavesBoard WriteFaultReport (played core (ready_of lone upsets cues)).run had got before after
unfolding played
lone_cut lone upsets cues core had got before mid after is begins = record {
  front = is.report;
  ticks = is.done;
  within = is.within;
  cut = (is.whole, is.cut);
  heard = subst (λ (board : BoardView). IsHeard (replay_said upsets lone (take is.done cues)) board after) begins is.heard;
}

-- A replay that cannot begin.

pub unready_outcome : (container : List ℕ) (part : ℕ) (script : List ℕ) (options : List ReplayFile) (why : Option Unready) (made : Result Readied Unready) (before : Outside) → IsUnready why made
    → HasOutcome (unready_ending container part script options why) (replay_outcome_by container part script options made) before before
unready_outcome container part script options None made before is = refl
unready_outcome container part script options (Some why) made before is =
    subst (λ (m : Result Readied Unready). HasOutcome (unready_ending container part script options (Some why)) (replay_outcome_by container part script options m) before before) (sym is)
    (refused_outcome (unready_denial container part script options why).file (unready_denial container part script options why).text before)

pub unready_leaves : (container : List ℕ) (part : ℕ) (script : List ℕ) (options : List ReplayFile) (why : Option Unready) (run : Option Running) (had got : Option (List ℕ)) (board : BoardView)
    → LeavesBoard (unready_ending container part script options why) run had got board board
unready_leaves container part script options None run had got board = refl
unready_leaves container part script options (Some why) run had got board = refl

-- Contents.

-- the content of the file after the first
pub content_next : (n : ℕ) (contents : List (List ℕ)) → content (suc n) contents ≡ content n (drop 1 contents)
content_next n [] = refl
content_next n (bytes ∷ contents) = refl

-- the second content
pub content_second : (contents others : List (List ℕ)) (received : List ℕ) → received ≡ content 0 others → others ≡ drop 1 contents → received ≡ content 1 contents
content_second contents others received is following = is ∙ ap (content 0) following ∙ sym (content_next 0 contents)

-- the content of the first file that may be named, after two others
pub content_third : (contents others more : List (List ℕ)) → more ≡ drop 1 others → others ≡ drop 1 contents → content 0 more ≡ content 2 contents
content_third contents others more following after_first = ap (content 0) (following ∙ ap (drop 1) after_first) ∙ sym (content_next 0 (drop 1 contents)) ∙ sym (content_next 1 contents)

-- and that of the second, where the first one was left out or taken
pub content_last : (named : Option (List ℕ)) (contents others more last : List (List ℕ)) → last ≡ drop (length (name_if_any named)) more → more ≡ drop 1 others → others ≡ drop 1 contents
    → content 0 last ≡ content (2 + length (name_if_any named)) contents
content_last None contents others more last taken following after_first = ap (content 0) taken ∙ content_third contents others more following after_first
content_last (Some file) contents others more last taken following after_first =
    ap (content 0) (taken ∙ ap (drop 1) (following ∙ ap (drop 1) after_first)) ∙ sym (content_next 0 (drop 1 (drop 1 contents))) ∙ sym (content_next 1 (drop 1 contents)) ∙ sym (content_next 2 contents)

-- a first file that is not too long
pub head_short : (file : List ℕ) (files contents : List (List ℕ)) → first_long (file ∷ files) contents ≡ None → length (content 0 contents) ≤ FILE_BYTES
head_short file files [] none = omega arith
head_short file files (bytes ∷ contents) none = at (nat_lt FILE_BYTES (length bytes)) refl none
  where
    at : (t : Bool) → nat_lt FILE_BYTES (length bytes) ≡ t → (if t then Some file else first_long files contents) ≡ None → length bytes ≤ FILE_BYTES
    at true is e = absurd (cc)
    at false is e = grind (arith, nat_tests)

-- the first of a replay's files that is too long, by the names of those that may be named
pub long_named : (container script : List ℕ) (input upsets : Option (List ℕ)) (options : List ReplayFile) (contents : List (List ℕ)) (long : Option (List ℕ)) → input ≡ replay_input options → upsets ≡ replay_upsets options
    → long ≡ first_long (container ∷ script ∷ name_if_any input ++ name_if_any upsets) contents → long ≡ first_long (container ∷ script ∷ replay_inputs options) contents
long_named container script input upsets options contents long first last is =
    is ∙ ap (λ (o : Option (List ℕ)). first_long (container ∷ script ∷ name_if_any o ++ name_if_any upsets) contents) first
    ∙ ap (λ (o : Option (List ℕ)). first_long (container ∷ script ∷ name_if_any (replay_input options) ++ name_if_any o) contents) last

-- the input words of a replay none of whose files is too long
pub input_short : (container script : List ℕ) (options : List ReplayFile) (contents : List (List ℕ)) → first_long (container ∷ script ∷ replay_inputs options) contents ≡ None → length (replay_input_bytes options contents) ≤ FILE_BYTES
input_short container script options contents none =
    at (replay_input options) (rest_short script (replay_inputs options) (drop 1 contents) (rest_short container (script ∷ replay_inputs options) contents none))
  where
    at : (input : Option (List ℕ)) → first_long (name_if_any input ++ name_if_any (replay_upsets options)) (drop 1 (drop 1 contents)) ≡ None → length (bytes_if_any input (content 2 contents)) ≤ FILE_BYTES
    at None short = omega arith
    at (Some file) short =
        let third : content 2 contents ≡ content 0 (drop 1 (drop 1 contents)) = content_next 1 contents ∙ content_next 0 (drop 1 contents) in
        let few : length (content 0 (drop 1 (drop 1 contents))) ≤ FILE_BYTES = head_short file (name_if_any (replay_upsets options)) (drop 1 (drop 1 contents)) short in
        rw third few
