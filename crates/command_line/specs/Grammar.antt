-- The grammar in the words of its users: what is to be typed for each command.
use Rattle.std.specs.Prelude.{◌≡◌, ◌≢◌, ◌⊎◌, ℕ, ◌<◌, ◌≤◌, ◌↔◌, List, [], ◌∷◌, ◌++◌, length, map, codes, decimal, All, AllPairs, Some}
use Rattle.std.specs.List.{flat_map}
use Rattle.xm_base.specs.declared.limits.TheConstants.{TICKS}
use Rattle.command_line.specs.declared.commands.Span.{Span}
use Rattle.command_line.specs.declared.commands.Span.TheVariants.{Frames, Ticks}
use Rattle.command_line.specs.declared.replay_options.ReplayKind.{ReplayKind}
use Rattle.command_line.specs.declared.replay_options.ReplayKind.TheVariants as replay
use Rattle.command_line.specs.declared.run_options.FileKind.{FileKind}
use Rattle.command_line.specs.declared.run_options.FileKind.TheVariants.{Core, Input, Script}
use Rattle.command_line.specs.declared.run_options.RunKind.{RunKind}
use Rattle.command_line.specs.declared.run_options.RunKind.TheVariants as whole
use Rattle.command_line.specs.Words.{Command, PartFile, ReplayFile, RunOption, Bare, Parse, Upgrade, BuildImage, ReadImage, Pack, ListContainer, CheckContainer, MakePlan, CheckPlan, ListGroups, ListSteerers, Generate, Run, Replay, Length, ForRun, ForPart, command_of, files_in, inputs_in, replay_files_in, run_files_in, scripts_in, spans_in, ticks_of}

-- a word is this many ticks where it is their number in decimal, and they are not above the limit
abbrev pub TicksAreDecimal : Type 0
TicksAreDecimal = (word : List ℕ) (n : ℕ) → (ticks_of word ≡ Some n) ↔ ((n ≤ TICKS) × (word ≡ decimal n))

-- a name of a file: it has a byte, and does not begin with two dashes
pub record IsFileName (word : List ℕ) : Type 0 where
  pub some : 0 < length word
  pub plain : (rest : List ℕ) → word ≢ codes "--" ++ rest

-- what is typed for a file for a partition
abbrev pub part_word : PartFile → List ℕ
part_word named = decimal named.part ++ codes "=" ++ named.file

-- the option that is typed for how long a run is
abbrev pub option_of : Span → List ℕ
option_of (Frames count) = codes "--frames"
option_of (Ticks count) = codes "--ticks"

-- the number after it
abbrev pub count_of : Span → ℕ
count_of (Frames count) = count
count_of (Ticks count) = count

-- the option that is typed for a file of a kind
abbrev pub file_option_of : FileKind → List ℕ
file_option_of Input = codes "--input"
file_option_of Core = codes "--core"
file_option_of Script = codes "--script"

-- the option that is typed for a file for the whole run
abbrev pub run_file_option : RunKind → List ℕ
run_file_option whole.Upsets = codes "--upset"
run_file_option whole.From = codes "--from"
run_file_option whole.Save = codes "--save"

-- what is typed for an option of a run
abbrev pub option_words : RunOption → List (List ℕ)
option_words (Length span) = option_of span ∷ decimal (count_of span) ∷ []
option_words (ForRun kind file) = run_file_option kind ∷ file ∷ []
option_words (ForPart kind file) = file_option_of kind ∷ part_word file ∷ []

-- the option that is typed for a file of a replay
abbrev pub replay_option : ReplayKind → List ℕ
replay_option replay.Input = codes "--input"
replay_option replay.Core = codes "--core"
replay_option replay.Upsets = codes "--upset"

-- what is typed for a file of a replay
abbrev pub replay_words : ReplayFile → List (List ℕ)
replay_words named = replay_option named.kind ∷ named.file ∷ []

-- what is typed for each command
abbrev pub words_of : Command → List (List ℕ)
words_of (Bare image ticks) = codes "bare" ∷ image ∷ decimal ticks ∷ []
words_of (Parse description output) = codes "xmcparser" ∷ description ∷ output ∷ []
words_of (Upgrade configuration output) = codes "xmcparser" ∷ codes "upgrade" ∷ configuration ∷ output ∷ []
words_of (BuildImage program output) = codes "xmeformat" ∷ codes "build" ∷ program ∷ output ∷ []
words_of (ReadImage image) = codes "xmeformat" ∷ codes "read" ∷ image ∷ []
words_of (Pack configuration output images) = codes "xmpack" ∷ codes "build" ∷ configuration ∷ output ∷ map part_word images
words_of (ListContainer container) = codes "xmpack" ∷ codes "list" ∷ container ∷ []
words_of (CheckContainer container) = codes "xmpack" ∷ codes "check" ∷ container ∷ []
words_of (MakePlan description) = codes "plan" ∷ codes "make" ∷ description ∷ []
words_of (CheckPlan description) = codes "plan" ∷ codes "check" ∷ description ∷ []
words_of (ListGroups description) = codes "flows" ∷ description ∷ []
words_of (ListSteerers description) = codes "flows" ∷ codes "--steering" ∷ description ∷ []
words_of (Generate number) = codes "gen" ∷ decimal number ∷ []
words_of (Run container options) = codes "run" ∷ container ∷ flat_map option_words options
words_of (Replay container part script options) = codes "alone" ∷ container ∷ decimal part ∷ script ∷ flat_map replay_words options

-- a file for a partition: the partition's number is at most 31, and the file is one
abbrev pub IsPartFile : PartFile → Type 0
IsPartFile named = (named.part ≤ 31) × IsFileName named.file

-- no partition has two files
abbrev pub HaveOneFileEach : List PartFile → Type 0
HaveOneFileEach files = AllPairs (λ one other. one.part ≢ other.part) files

-- files for partitions: there is one, each is one, and no partition has two
pub record ArePartFiles (files : List PartFile) : Type 0 where
  pub some : 0 < length files
  pub each : All IsPartFile files
  pub apart : HaveOneFileEach files

-- an option of a run: a length not above the limit, a file for the whole run, or a file for a partition
abbrev pub IsRunOption : RunOption → Type 0
IsRunOption (Length span) = count_of span ≤ TICKS
IsRunOption (ForRun kind file) = IsFileName file
IsRunOption (ForPart kind file) = IsPartFile file

-- options of a run: each is one, one says how long the run is, one at most names a file of each kind for the whole run, no partition has two files of one
-- kind, and a run that goes on from a saved machine has no input words and no scripts
pub record AreRunOptions (options : List RunOption) : Type 0 where
  pub each : All IsRunOption options
  pub spanned : length (spans_in options) ≡ 1
  pub single : (kind : RunKind) → length (run_files_in kind options) ≤ 1
  pub apart : (kind : FileKind) → HaveOneFileEach (files_in kind options)
  pub begun : (run_files_in whole.From options ≡ []) ⊎ ((inputs_in options ≡ []) × (scripts_in options ≡ []))

-- an option of a replay names a file
abbrev pub IsReplayOption : ReplayFile → Type 0
IsReplayOption named = IsFileName named.file

-- options of a replay: each names a file, and they name one of each kind at most
pub record AreReplayOptions (options : List ReplayFile) : Type 0 where
  pub each : All IsReplayOption options
  pub few : (kind : ReplayKind) → length (replay_files_in kind options) ≤ 1

-- what each command names is a file, its partition is at most 31, its ticks are not above the limit, and its options are right
abbrev pub IsRight : Command → Type 0
IsRight (Bare image ticks) = IsFileName image × (ticks ≤ TICKS)
IsRight (Parse description output) = IsFileName description × IsFileName output
IsRight (Upgrade configuration output) = IsFileName configuration × IsFileName output
IsRight (BuildImage program output) = IsFileName program × IsFileName output
IsRight (ReadImage image) = IsFileName image
IsRight (Pack configuration output images) = IsFileName configuration × IsFileName output × ArePartFiles images
IsRight (ListContainer container) = IsFileName container
IsRight (CheckContainer container) = IsFileName container
IsRight (MakePlan description) = IsFileName description
IsRight (CheckPlan description) = IsFileName description
IsRight (ListGroups description) = IsFileName description
IsRight (ListSteerers description) = IsFileName description
IsRight (Generate number) = number ≤ 4294967295
IsRight (Run container options) = IsFileName container × AreRunOptions options
IsRight (Replay container part script options) = IsFileName container × (part ≤ 31) × IsFileName script × AreReplayOptions options

-- words are a command exactly where they are what is typed for it, and what they name is right
abbrev pub CommandsAreSpelled : Type 0
CommandsAreSpelled =
    (words : List (List ℕ)) (command : Command) → (command_of words ≡ Some command) ↔ ((words ≡ words_of command) × IsRight command)
