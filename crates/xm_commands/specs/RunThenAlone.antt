-- A run of a container, and the replay of one of its partitions by a script that the run wrote: over what the program answers alone.
use Rattle.std.specs.Prelude.{◌≡◌, ℕ, ◌==◌, if◌then◌else◌, List, [], ◌∷◌, ◌++◌, map, Option, Some, None}
use Rattle.std.specs.FinMap.{get}
use Rattle.xm_base.specs.Bytes.{AreBytes}
use Rattle.xm_outside.specs.Files.{Files}
use Rattle.xm_report.specs.Report.{texts}
use Rattle.machine_model.specs.Lines.{own}
use Rattle.machine_model.specs.View.{System}
use Rattle.upset_model.specs.Reports.{after_run, upset_report}
use Rattle.upset_model.specs.declared.upset_line.UpsetLine.{UpsetLine}
use Rattle.command_line.specs.Words.{PartFile, ReplayFile, RunOption, Run, Replay, command_of, inputs_in, replay_core, replay_input, replay_upsets, save_in, scripts_in, upsets_in}
use Rattle.file_commands.specs.Outcome.{core_output, name_if_any}
use Rattle.file_commands.specs.Packing.{file_names}
use Rattle.xm_commands.specs.Answer.{Answer, answer, saved_all}
use Rattle.xm_commands.specs.Top.{IsNoneOf, writes_of}
use Rattle.file_commands.specs.declared.status.Status.TheVariants.{Done}

-- the file of input words that a run names for a partition, where it names one: the last, and no partition has two
abbrev pub input_or : Option (List ℕ) → Option (List ℕ) → Option (List ℕ)
input_or None other = other
input_or (Some file) other = Some file

abbrev pub input_of : ℕ → List PartFile → Option (List ℕ)
input_of part [] = None
input_of part (named ∷ files) = input_or (input_of part files) (if named.part == part then Some named.file else None)

-- none of these files is this one, where there is one
abbrev pub IsUntouched : List (List ℕ) → Option (List ℕ) → Type 0
IsUntouched written None = Unit {0}
IsUntouched written (Some file) = IsNoneOf written file

-- the file of this name, where it is there, holds bytes
abbrev pub HoldsBytes : Files → List ℕ → Type 0
HoldsBytes files name = (bytes : List ℕ) → get files name ≡ Some bytes → AreBytes bytes

-- a replay belongs to a run: it is of the same container and by a script that the run writes, with the partition's own input file and with the file of the
-- run's upsets, where there is one; and the run writes over none of these files, and no script and no saved machine over this one
pub record BelongsTo (container : List ℕ) (options : List RunOption) (part : ℕ) (script : List ℕ) (further : List ReplayFile) : Type 0 where
  pub earlier : List PartFile
  pub later : List PartFile
  pub named : scripts_in options ≡ earlier ++ record { part = part; file = script } ∷ later
  pub last : IsNoneOf (file_names later ++ name_if_any (save_in options)) script
  pub unwritten : IsNoneOf (writes_of (Run container options)) container
  pub input : replay_input further ≡ input_of part (inputs_in options)
  pub given : IsUntouched (writes_of (Run container options)) (replay_input further)
  pub struck : replay_upsets further ≡ upsets_in options
  pub kept : IsUntouched (writes_of (Run container options)) (replay_upsets further)

-- what a run with upsets and the replay after it answer: the report of the run, of which the replay prints the partition's own lines; and the replay writes
-- the core file that the partition has after the run
pub record AnswersAsRun (ran replayed : Answer) (part : ℕ) (core : Option (List ℕ)) : Type 0 where
  pub system : System
  pub upsets : List UpsetLine
  pub ticks : ℕ
  pub printed : ran.out ≡ texts (upset_report upsets system ticks)
  pub done : replayed.status ≡ Done
  pub lines : replayed.out ≡ texts (own part (upset_report upsets system ticks))
  pub core_file : replayed.files ≡ saved_all (map (λ file. core_output (after_run upsets system ticks) (record { part = part; file = file })) (name_if_any core)) ran.files

-- a run that is done, and then a replay that belongs to it, over the files that the run left; the container's file is to hold bytes, as each file does
abbrev pub RunsThenAlone : Type 0
RunsThenAlone =
    (words others : List (List ℕ)) (files : Files) (container : List ℕ) (options : List RunOption) (part : ℕ) (script : List ℕ) (further : List ReplayFile)
    → command_of words ≡ Some (Run container options) → command_of others ≡ Some (Replay container part script further)
    → (answer words files).status ≡ Done → BelongsTo container options part script further → HoldsBytes files container
    → AnswersAsRun (answer words files) (answer others (answer words files).files) part (replay_core further)
