-- A run of a container that saves its machine, and the run that goes on from there: over what the program answers alone.
use Rattle.std.specs.Prelude.{◌≡◌, ℕ, ◌+◌, true, List, ◌∷◌, ◌++◌, Option, Some, None}
use Rattle.xm_outside.specs.Files.{Files}
use Rattle.xm_report.specs.Report.{ReportLine, texts}
use Rattle.continuation_laws.specs.Joined.{AreFrom}
use Rattle.machine_model.specs.Machine.{start}
use Rattle.machine_model.specs.View.{System}
use Rattle.upset_model.specs.Places.{due}
use Rattle.upset_model.specs.Reports.{after_run, reported, upset_report}
use Rattle.upset_model.specs.declared.upset_line.UpsetLine.{UpsetLine}
use Rattle.command_line.specs.Words.{PartFile, RunOption, Run, command_of, cores_in, from_in, save_in, upsets_in}
use Rattle.file_commands.specs.Outcome.{core_outputs}
use Rattle.run_commands.specs.Numbers.{StoresOf}
use Rattle.xm_commands.specs.Answer.{Answer, answer, saved_all}
use Rattle.xm_commands.specs.Continued.{line_to}
use Rattle.xm_commands.specs.RunThenAlone.{HoldsBytes, IsUntouched}
use Rattle.xm_commands.specs.Separation.{save_outputs}
use Rattle.xm_commands.specs.Top.{IsNoneOf, writes_of}
use Rattle.file_commands.specs.declared.status.Status.TheVariants.{Done}

-- a run goes on from another one, of the same container
pub record FollowsRun (container : List ℕ) (options further : List RunOption) (file : List ℕ) : Type 0 where
  -- The first run begins with the boot of its system.
  pub begun : from_in options ≡ None
  -- It saves its machine to this file, and the second run goes on from there.
  pub saved : save_in options ≡ Some file
  pub from : from_in further ≡ Some file
  -- The first run writes neither over the container nor over the upsets of the second one.
  pub unwritten : IsNoneOf (writes_of (Run container options)) container
  pub struck : IsUntouched (writes_of (Run container options)) (upsets_in further)

-- what the second run answers, over the files that the first one left: the rest of the run in one piece, with the upsets of both
pub record AnswersRest (before gone : Answer) (first last : List UpsetLine) (system : System) (done count : ℕ) (box : List ℕ) (cores : List PartFile) (save : Option (List ℕ)) : Type 0 where
  pub lines : List ReportLine
  -- The report of the run in one piece is its first line, the lines of the ticks of the first run, and then these lines.
  pub whole : upset_report (first ++ last) system (done + count) ≡ line_to system (done + count) ∷ reported (due first) (start system) done ++ lines
  -- The second run prints a first line, with the tick since the boot that it goes to, and then these lines.
  pub printed : gone.out ≡ texts (line_to system ((after_run first system done).ticks + count) ∷ lines)
  -- Its core files and its saved machine are those after the run in one piece.
  pub written : gone.files
      ≡ saved_all (core_outputs (after_run (first ++ last) system (done + count)) cores ++ save_outputs box (after_run (first ++ last) system (done + count)) save) before.files

-- what both runs answer
pub record AnswersInOne (ran gone : Answer) (cores : List PartFile) (save : Option (List ℕ)) : Type 0 where
  pub system : System
  pub first : List UpsetLine
  pub last : List UpsetLine
  pub done : ℕ
  pub count : ℕ
  pub box : List ℕ
  -- The first run prints its report.
  pub printed : ran.out ≡ texts (upset_report first system done)
  -- The second one answers the rest of the run in one piece; where the first one left a machine that has halted, its upsets are to be of ticks that the first one did
  -- not do.
  pub rest : ((after_run first system done).halted ≡ true → AreFrom done last) → AnswersRest ran gone first last system done count box cores save

-- a run that is done, and then a run that goes on from it, over the files that the first one left, and is done, too; the container's file is to hold bytes,
-- as each file does, and the numbers of the machine that is saved are to be in their ranges
abbrev pub RunsThenGoOn : Type 0
RunsThenGoOn =
    (words others : List (List ℕ)) (files : Files) (container : List ℕ) (options further : List RunOption) (file : List ℕ)
    → command_of words ≡ Some (Run container options) → command_of others ≡ Some (Run container further)
    → (answer words files).status ≡ Done → (answer others (answer words files).files).status ≡ Done
    → FollowsRun container options further file → HoldsBytes files container → StoresOf container options (Some files)
    → AnswersInOne (answer words files) (answer others (answer words files).files) (cores_in further) (save_in further)
