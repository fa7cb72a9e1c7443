-- The words of a command line, and the commands that they spell.
use Rattle.std.specs.Prelude.{ℕ, ◌==◌, Bool, true, false, ◌&&◌, ◌||◌, not, nat_le, nat_lt, nat_eq, if◌then◌else◌, List, [], ◌∷◌, length, codes, Option, Some, None, is_some}
use Rattle.std.specs.List.{after_first, before_first, filter_map, list_all, starts_with}
use Rattle.std.specs.Str.{all_ascii_digits, bytes_eq}
use Rattle.std.specs.Str.Parse.{digits_value}
use Rattle.xm_base.specs.declared.limits.TheConstants.{TICKS}
use Rattle.command_line.specs.declared.commands.Span.{Span}
use Rattle.command_line.specs.declared.commands.Span.TheVariants.{Frames, Ticks}
use Rattle.command_line.specs.declared.replay_options.ReplayKind.{ReplayKind}
use Rattle.command_line.specs.declared.replay_options.ReplayKind.TheVariants as replay
use Rattle.command_line.specs.declared.run_options.FileKind.{FileKind}
use Rattle.command_line.specs.declared.run_options.FileKind.TheVariants.{Core, Input, Script}
use Rattle.command_line.specs.declared.run_options.RunKind.{RunKind}
use Rattle.command_line.specs.declared.run_options.RunKind.TheVariants as whole

-- a file for a partition
pub record PartFile : Type 0 where
  pub part : ℕ
  pub file : List ℕ

-- an option of a run: how long it is; a file for the whole run, and what it is there; a file for a partition, and what it is there
pub data RunOption : Type 0 where
  Length : (span : Span) → RunOption
  ForRun : (kind : RunKind) (file : List ℕ) → RunOption
  ForPart : (kind : FileKind) (file : PartFile) → RunOption

-- a file that an option of a replay names, and what it is there
pub record ReplayFile : Type 0 where
  pub kind : ReplayKind
  pub file : List ℕ

-- a command: a raw image runs for this many ticks; the binary configuration of a system description is made; a binary
-- configuration is made again in the version that is written now; the image of a program is made; an image is printed; a
-- configuration and the images of its partitions are packed into a container; a
-- container is printed; a container is checked; a cyclic plan is made from the requirements of a system description; the
-- plan of a system description is checked against its requirements; the groups of the partitions of a system description are
-- printed; these groups are printed, and by what each partition may steer others; a system is generated from a number, and runs; a container runs with options; a partition of a container is replayed alone, by a
-- script, with options
pub data Command : Type 0 where
  Bare : (image : List ℕ) (ticks : ℕ) → Command
  Parse : (description output : List ℕ) → Command
  Upgrade : (configuration output : List ℕ) → Command
  BuildImage : (program output : List ℕ) → Command
  ReadImage : (image : List ℕ) → Command
  Pack : (configuration output : List ℕ) (images : List PartFile) → Command
  ListContainer : (container : List ℕ) → Command
  CheckContainer : (container : List ℕ) → Command
  MakePlan : (description : List ℕ) → Command
  CheckPlan : (description : List ℕ) → Command
  ListGroups : (description : List ℕ) → Command
  ListSteerers : (description : List ℕ) → Command
  Generate : (number : ℕ) → Command
  Run : (container : List ℕ) (options : List RunOption) → Command
  Replay : (container : List ℕ) (part : ℕ) (script : List ℕ) (options : List ReplayFile) → Command

-- a decimal number: digits without a sign, and without a leading zero unless it is `0`
abbrev pub is_decimal : List ℕ → Bool
is_decimal [] = false
is_decimal (digit ∷ digits) = all_ascii_digits (digit ∷ digits) && (not (digit == 48) || nat_eq (length digits) 0)

-- the number that a word spells: a decimal number that is not above the limit
unfoldable pub number_spelled : ℕ → List ℕ → Option ℕ
number_spelled limit word = if is_decimal word && nat_le (digits_value 10 word) limit then Some (digits_value 10 word) else None

-- the number of ticks that a word spells
abbrev pub ticks_of : List ℕ → Option ℕ
ticks_of word = number_spelled TICKS word

-- the number of major frames that a word spells: each has a tick at least, and so their limit is that of ticks
abbrev pub frames_of : List ℕ → Option ℕ
frames_of word = number_spelled TICKS word

-- the partition that a word spells
abbrev pub part_number : List ℕ → Option ℕ
part_number word = number_spelled 31 word

-- a word that names a file: it has a byte, and does not begin with two dashes
unfoldable pub is_file : List ℕ → Bool
is_file word = nat_lt 0 (length word) && not (starts_with nat_eq word (codes "--"))

-- a file for a partition, where its partition is one and its word names a file
abbrev pub part_file_by : Option ℕ → Bool → List ℕ → Option PartFile
part_file_by None is file = None
part_file_by (Some part) true file = Some (record { part = part; file = file })
part_file_by (Some part) false file = None

-- whether a byte is `=`
abbrev pub is_equals : ℕ → Bool
is_equals byte = byte == 61

-- the file for a partition that a word names: the partition stands before its first `=`, and the file after it
unfoldable pub part_file_of : List ℕ → Option PartFile
part_file_of word = part_file_by (part_number (before_first is_equals word)) (is_file (after_first is_equals word)) (after_first is_equals word)

-- what a word names, where it names something, before what others name
abbrev pub before_others : {X : Type 0} → Option X → List X → List X
before_others None others = []
before_others (Some first) others = first ∷ others

-- the files for partitions that words name, up to the first word that names none
abbrev pub part_files : List (List ℕ) → List PartFile
part_files [] = []
part_files (word ∷ words) = before_others (part_file_of word) (part_files words)

-- whether there is a file for the partition
abbrev pub has_part : ℕ → List PartFile → Bool
has_part part [] = false
has_part part (file ∷ files) = (file.part == part) || has_part part files

-- whether each partition has one file at most
abbrev pub are_apart : List PartFile → Bool
are_apart [] = true
are_apart (file ∷ files) = not (has_part file.part files) && are_apart files

-- whether each word names a file for a partition
abbrev pub are_named : List (List ℕ) → Bool
are_named words = list_all (λ word. is_some (part_file_of word)) words

-- whether words are files for partitions: there is a word, each names one, and each partition has one at most
unfoldable pub are_part_files : List (List ℕ) → Bool
are_part_files words = nat_lt 0 (length words) && are_named words && are_apart (part_files words)

-- what is asked for, where that passes its test
abbrev pub asked : {X : Type 0} → Bool → X → Option X
asked true it = Some it
asked false it = None

-- a run of an image for a number of ticks, where there is one
abbrev pub bare_for : List ℕ → Option ℕ → Option Command
bare_for image None = None
bare_for image (Some ticks) = Some (Bare image ticks)

-- a run of an image, where its word names a file
abbrev pub bare_of : Bool → List ℕ → Option ℕ → Option Command
bare_of true image ticks = bare_for image ticks
bare_of false image ticks = None

-- how long a run is, where there is a number
abbrev pub spanned : (ℕ → Span) → Option ℕ → Option Span
spanned make None = None
spanned make (Some count) = Some (make count)

-- how long a run is, by an option and its number
unfoldable pub span_of : List ℕ → List ℕ → Option Span
span_of option number =
    if bytes_eq option (codes "--frames") then spanned Frames (frames_of number)
    else if bytes_eq option (codes "--ticks") then spanned Ticks (ticks_of number)
    else None

-- what a file is to its run, by its option
unfoldable pub kind_of : List ℕ → Option FileKind
kind_of option =
    if bytes_eq option (codes "--input") then Some Input
    else if bytes_eq option (codes "--core") then Some Core
    else if bytes_eq option (codes "--script") then Some Script
    else None

-- an option with a file for a partition, where both are there
abbrev pub option_for : Option FileKind → Option PartFile → Option RunOption
option_for None file = None
option_for (Some kind) None = None
option_for (Some kind) (Some file) = Some (ForPart kind file)

-- what a file is to a whole run, by its option: its upsets, the saved machine that it goes on from, or the file that its machine is saved to
unfoldable pub run_kind_of : List ℕ → Option RunKind
run_kind_of option =
    if bytes_eq option (codes "--upset") then Some whole.Upsets
    else if bytes_eq option (codes "--from") then Some whole.From
    else if bytes_eq option (codes "--save") then Some whole.Save
    else None

-- an option with a file for the whole run, where there is a kind and the word names a file
abbrev pub option_whole : Option RunKind → List ℕ → Option RunOption
option_whole None file = None
option_whole (Some kind) file = asked (is_file file) (ForRun kind file)

-- the first of two options, where it is there
abbrev pub option_or : Option RunOption → Option RunOption → Option RunOption
option_or (Some option) other = Some option
option_or None other = other

-- an option with how long the run is, and else one with a file
abbrev pub option_by : Option Span → Option RunOption → Option RunOption
option_by (Some span) other = Some (Length span)
option_by None other = other

-- the option of a run that two words spell
unfoldable pub run_option_of : List ℕ → List ℕ → Option RunOption
run_option_of option word = option_by (span_of option word) (option_or (option_whole (run_kind_of option) word) (option_for (kind_of option) (part_file_of word)))

-- the options that words spell, two words each, up to the first two that spell none
abbrev pub options_by : {X : Type 0} → (List ℕ → List ℕ → Option X) → List (List ℕ) → List X
options_by read [] = []
options_by read (option ∷ []) = []
options_by read (option ∷ word ∷ words) = before_others (read option word) (options_by read words)

-- whether words are options, two words each
abbrev pub are_options_by : {X : Type 0} → (List ℕ → List ℕ → Option X) → List (List ℕ) → Bool
are_options_by read [] = true
are_options_by read (option ∷ []) = false
are_options_by read (option ∷ word ∷ words) = is_some (read option word) && are_options_by read words

-- the options of a run that words spell, up to the first two words that spell none
abbrev pub run_options : List (List ℕ) → List RunOption
run_options words = options_by run_option_of words

-- whether words are options of a run
abbrev pub are_options : List (List ℕ) → Bool
are_options words = are_options_by run_option_of words

-- how long a run is by an option, where it says so
abbrev pub span_by : RunOption → Option Span
span_by (Length span) = Some span
span_by (ForRun kind file) = None
span_by (ForPart kind file) = None

-- all that options say of how long a run is
abbrev pub spans_in : List RunOption → List Span
spans_in options = filter_map span_by options

-- the first length among some; a run without one has no ticks, and no command asks for it
abbrev pub first_span : List Span → Span
first_span [] = Ticks 0
first_span (span ∷ spans) = span

-- how long a run with these options is
abbrev pub span_in : List RunOption → Span
span_in options = first_span (spans_in options)

-- the place of a kind among all kinds of files
abbrev pub kind_place : FileKind → ℕ
kind_place Input = 0
kind_place Core = 1
kind_place Script = 2

-- the file of a kind for a partition that an option names
abbrev pub file_by : FileKind → RunOption → Option PartFile
file_by kind (Length span) = None
file_by kind (ForRun other file) = None
file_by kind (ForPart other file) = asked (kind_place other == kind_place kind) file

-- the files of a kind for partitions that options name, in their order
abbrev pub files_in : FileKind → List RunOption → List PartFile
files_in kind options = filter_map (file_by kind) options

-- the inputs of partitions that options name, in their order
abbrev pub inputs_in : List RunOption → List PartFile
inputs_in options = files_in Input options

-- the core files of partitions that options name, in their order
abbrev pub cores_in : List RunOption → List PartFile
cores_in options = files_in Core options

-- the scripts of partitions that options name, in their order
abbrev pub scripts_in : List RunOption → List PartFile
scripts_in options = files_in Script options

-- the place of a kind among all kinds of files for a whole run
abbrev pub run_place : RunKind → ℕ
run_place whole.Upsets = 0
run_place whole.From = 1
run_place whole.Save = 2

-- the file of a kind for the whole run that an option names
abbrev pub run_file_by : RunKind → RunOption → Option (List ℕ)
run_file_by kind (Length span) = None
run_file_by kind (ForRun other file) = asked (run_place other == run_place kind) file
run_file_by kind (ForPart other file) = None

-- all files of a kind for the whole run that options name; no run has two
abbrev pub run_files_in : RunKind → List RunOption → List (List ℕ)
run_files_in kind options = filter_map (run_file_by kind) options

-- the first of some files, where there is one
abbrev pub first_file : List (List ℕ) → Option (List ℕ)
first_file [] = None
first_file (file ∷ files) = Some file

-- the file of upsets of a run with these options, where there is one
abbrev pub upsets_in : List RunOption → Option (List ℕ)
upsets_in options = first_file (run_files_in whole.Upsets options)

-- the saved machine that a run with these options goes on from, where there is one
abbrev pub from_in : List RunOption → Option (List ℕ)
from_in options = first_file (run_files_in whole.From options)

-- the file that the machine after such a run is saved to, where there is one
abbrev pub save_in : List RunOption → Option (List ℕ)
save_in options = first_file (run_files_in whole.Save options)

-- whether options name one file of a kind for the whole run at most
abbrev pub is_single : RunKind → List RunOption → Bool
is_single kind options = nat_le (length (run_files_in kind options)) 1

-- whether they name one of each kind at most
abbrev pub are_single : List RunOption → Bool
are_single options = is_single whole.Upsets options && is_single whole.From options && is_single whole.Save options

-- whether a run begins in one way: one that goes on from a saved machine has no input words and no scripts, which are of a run from the boot on
abbrev pub begins_once : List RunOption → Bool
begins_once options =
    nat_eq (length (run_files_in whole.From options)) 0 || (nat_eq (length (inputs_in options)) 0 && nat_eq (length (scripts_in options)) 0)

-- whether each partition has one file of each kind at most
abbrev pub are_kinds_apart : List RunOption → Bool
are_kinds_apart options = are_apart (inputs_in options) && are_apart (cores_in options) && are_apart (scripts_in options)

-- whether words are options of a run: each is one, one says how long the run is, one at most names a file of each kind for the whole run, each partition has
-- one file of each kind at most, and the run begins in one way
unfoldable pub are_run_options : List (List ℕ) → Bool
are_run_options words = are_options words && nat_eq (length (spans_in (run_options words))) 1 && are_single (run_options words)
    && are_kinds_apart (run_options words) && begins_once (run_options words)

-- a run of a container with options
abbrev pub run_of : List ℕ → List (List ℕ) → Option Command
run_of container options = asked (is_file container && are_run_options options) (Run container (run_options options))

-- what a file is to its replay, by its option
unfoldable pub replay_kind_of : List ℕ → Option ReplayKind
replay_kind_of option =
    if bytes_eq option (codes "--input") then Some replay.Input
    else if bytes_eq option (codes "--core") then Some replay.Core
    else if bytes_eq option (codes "--upset") then Some replay.Upsets
    else None

-- a file of a replay, where there is a kind and the word names a file
abbrev pub replay_file_for : Option ReplayKind → Bool → List ℕ → Option ReplayFile
replay_file_for None is file = None
replay_file_for (Some kind) is file = asked is (record { kind = kind; file = file })

-- the option of a replay that two words spell
abbrev pub replay_option_of : List ℕ → List ℕ → Option ReplayFile
replay_option_of option word = replay_file_for (replay_kind_of option) (is_file word) word

-- the options of a replay that words spell, up to the first two words that spell none
abbrev pub replay_options : List (List ℕ) → List ReplayFile
replay_options words = options_by replay_option_of words

-- the place of a kind among all kinds of files of a replay
abbrev pub replay_place : ReplayKind → ℕ
replay_place replay.Input = 0
replay_place replay.Core = 1
replay_place replay.Upsets = 2

-- the file of a kind that an option of a replay names
abbrev pub replay_file_by : ReplayKind → ReplayFile → Option (List ℕ)
replay_file_by kind option = asked (replay_place option.kind == replay_place kind) option.file

-- all files of a kind that options of a replay name; no replay has two
abbrev pub replay_files_in : ReplayKind → List ReplayFile → List (List ℕ)
replay_files_in kind options = filter_map (replay_file_by kind) options

-- the file of input words for a replay, where there is one
abbrev pub replay_input : List ReplayFile → Option (List ℕ)
replay_input options = first_file (replay_files_in replay.Input options)

-- where a replay writes the core file, if it does
abbrev pub replay_core : List ReplayFile → Option (List ℕ)
replay_core options = first_file (replay_files_in replay.Core options)

-- the file of upsets of a replay, where there is one
abbrev pub replay_upsets : List ReplayFile → Option (List ℕ)
replay_upsets options = first_file (replay_files_in replay.Upsets options)

-- whether options of a replay name one file of a kind at most
abbrev pub are_few : ReplayKind → List ReplayFile → Bool
are_few kind options = nat_le (length (replay_files_in kind options)) 1

-- whether options of a replay name one file of each kind at most
abbrev pub are_few_each : List ReplayFile → Bool
are_few_each options = are_few replay.Input options && are_few replay.Core options && are_few replay.Upsets options

-- whether words are options of a replay: each is one, and they name one file of each kind at most
unfoldable pub are_replay_options : List (List ℕ) → Bool
are_replay_options words = are_options_by replay_option_of words && are_few_each (replay_options words)

-- a replay of a partition with options, where it is one and the options are right
abbrev pub replay_for : List ℕ → Option ℕ → List ℕ → List (List ℕ) → Option Command
replay_for container None script options = None
replay_for container (Some part) script options = asked (are_replay_options options) (Replay container part script (replay_options options))

-- where the container and the script are files
abbrev pub replay_by : Bool → List ℕ → Option ℕ → List ℕ → List (List ℕ) → Option Command
replay_by true container part script options = replay_for container part script options
replay_by false container part script options = None

-- a replay of a container's partition by its script
abbrev pub replay_command : List ℕ → List (List ℕ) → Option Command
replay_command container [] = None
replay_command container (part ∷ []) = None
replay_command container (part ∷ script ∷ options) = replay_by (is_file container && is_file script) container (part_number part) script options

-- a command of one file, where its word names one
abbrev pub of_file : (List ℕ → Command) → List ℕ → Option Command
of_file command file = asked (is_file file) (command file)

-- a command of two files, where its words name them
abbrev pub of_files : (List ℕ → List ℕ → Command) → List ℕ → List ℕ → Option Command
of_files command first second = asked (is_file first && is_file second) (command first second)

-- what `xmeformat` is asked to do with a file
unfoldable pub format_command : List ℕ → List ℕ → Option Command
format_command verb file = if bytes_eq verb (codes "read") then of_file ReadImage file else None

-- the command of a file that one of two verbs asks for, where its word names one
unfoldable pub by_verb : Bool → List ℕ → List ℕ → Command → List ℕ → Command → Option Command
by_verb is verb one first other second =
    if bytes_eq verb one then asked is first
    else if bytes_eq verb other then asked is second
    else None

-- what `xmpack` is asked to do with a file
abbrev pub pack_command : List ℕ → List ℕ → Option Command
pack_command verb file = by_verb (is_file file) verb (codes "list") (ListContainer file) (codes "check") (CheckContainer file)

-- what `plan` is asked to do with a file
abbrev pub plan_command : List ℕ → List ℕ → Option Command
plan_command verb file = by_verb (is_file file) verb (codes "make") (MakePlan file) (codes "check") (CheckPlan file)

-- what `flows` is asked to print of a file besides groups
unfoldable pub flows_command : List ℕ → List ℕ → Option Command
flows_command option file = if bytes_eq option (codes "--steering") then of_file ListSteerers file else None

-- the number that a system is generated out of
abbrev pub seed_of : List ℕ → Option ℕ
seed_of word = number_spelled 4294967295 word

-- a system is generated, where there is a number
abbrev pub generate_for : Option ℕ → Option Command
generate_for None = None
generate_for (Some number) = Some (Generate number)

-- the command of a name and one word
unfoldable pub command_of_one : List ℕ → List ℕ → Option Command
command_of_one name first =
    if bytes_eq name (codes "flows") then of_file ListGroups first
    else if bytes_eq name (codes "gen") then generate_for (seed_of first)
    else None

-- the command of a name and two words
unfoldable pub command_of_two : List ℕ → List ℕ → List ℕ → Option Command
command_of_two name first second =
    if bytes_eq name (codes "bare") then bare_of (is_file first) first (ticks_of second)
    else if bytes_eq name (codes "xmcparser") then of_files Parse first second
    else if bytes_eq name (codes "xmeformat") then format_command first second
    else if bytes_eq name (codes "xmpack") then pack_command first second
    else if bytes_eq name (codes "plan") then plan_command first second
    else if bytes_eq name (codes "flows") then flows_command first second
    else None

-- the command of a name and three words
unfoldable pub command_of_three : List ℕ → List ℕ → List ℕ → List ℕ → Option Command
command_of_three name first second third =
    if bytes_eq name (codes "xmeformat") && bytes_eq first (codes "build") then of_files BuildImage second third
    else if bytes_eq name (codes "xmcparser") && bytes_eq first (codes "upgrade") then of_files Upgrade second third
    else None

-- the command of a name and four words or more
unfoldable pub command_of_more : List ℕ → List ℕ → List ℕ → List ℕ → List (List ℕ) → Option Command
command_of_more name verb configuration output images =
    if bytes_eq name (codes "xmpack") && bytes_eq verb (codes "build")
    then asked (is_file configuration && is_file output && are_part_files images) (Pack configuration output (part_files images))
    else None

-- the command of a name and words whose number is fixed, or those of images
unfoldable pub command_by_count : List ℕ → List ℕ → List (List ℕ) → Option Command
command_by_count name first [] = command_of_one name first
command_by_count name first (second ∷ []) = command_of_two name first second
command_by_count name first (second ∷ third ∷ []) = command_of_three name first second third
command_by_count name first (second ∷ third ∷ fourth ∷ rest) = command_of_more name first second third (fourth ∷ rest)

-- the command that words spell
unfoldable pub command_of : List (List ℕ) → Option Command
command_of [] = None
command_of (name ∷ []) = None
command_of (name ∷ first ∷ rest) =
    if bytes_eq name (codes "run") then run_of first rest
    else if bytes_eq name (codes "alone") then replay_command first rest
    else command_by_count name first rest
