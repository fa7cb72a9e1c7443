-- What the program's commands say.
use Rattle.std.specs.Prelude.{ℕ, List, Option, Some, None}
use Rattle.command_line.specs.Texts.{texts_of}
use Rattle.command_line.specs.Words.{Command, PartFile, ReplayFile, RunOption, Bare, Parse, Upgrade, BuildImage, ReadImage, Pack, ListContainer, CheckContainer, MakePlan, CheckPlan, ListGroups, ListSteerers, Generate, Run, Replay, Length, ForRun, ForPart, files_in, part_files, replay_options, run_options}
use Rattle.command_line.specs.declared.commands.Command as code
use Rattle.command_line.specs.declared.commands.Command.TheVariants as variant
use Rattle.command_line.specs.declared.part_files.PartFile as file
use Rattle.command_line.specs.declared.part_files.PartFiles as files
use Rattle.command_line.specs.declared.replay_options.ReplayFile as replay
use Rattle.command_line.specs.declared.replay_options.ReplayOptions as replays
use Rattle.command_line.specs.declared.run_options.FileKind.{FileKind}
use Rattle.command_line.specs.declared.run_options.RunOption as option
use Rattle.command_line.specs.declared.run_options.RunOption.TheVariants as options
use Rattle.command_line.specs.declared.run_options.RunOptions as run

-- what a file for a partition says
abbrev pub seen_file : file.PartFile → PartFile
seen_file named = record { part = named.part; file = named.file.now }

-- the files for partitions that words name: each word one, or each option of this kind
abbrev pub files_by : Option FileKind → List (List ℕ) → List PartFile
files_by None words = part_files words
files_by (Some kind) words = files_in kind (run_options words)

-- what files for partitions say
abbrev pub seen_files : files.PartFiles → List PartFile
seen_files named = files_by named.option (texts_of named.words.now)

-- what an option of a run says
abbrev pub seen_option : option.RunOption → RunOption
seen_option (options.Length span) = Length span
seen_option (options.ForRun kind file) = ForRun kind file.now
seen_option (options.ForPart kind file) = ForPart kind (seen_file file)

-- what the options of a run say
abbrev pub seen_options : run.RunOptions → List RunOption
seen_options named = run_options (texts_of named.words.now)

-- what an option of a replay says
abbrev pub seen_replay_file : replay.ReplayFile → ReplayFile
seen_replay_file named = record { kind = named.kind; file = named.file.now }

-- what the options of a replay say
abbrev pub seen_replay : replays.ReplayOptions → List ReplayFile
seen_replay named = replay_options (texts_of named.words.now)

-- what a command of the program says
abbrev pub seen_command : code.Command → Command
seen_command (variant.Bare image ticks) = Bare image.now ticks
seen_command (variant.Parse description output) = Parse description.now output.now
seen_command (variant.Upgrade configuration output) = Upgrade configuration.now output.now
seen_command (variant.BuildImage program output) = BuildImage program.now output.now
seen_command (variant.ReadImage image) = ReadImage image.now
seen_command (variant.Pack configuration output images) = Pack configuration.now output.now (seen_files images)
seen_command (variant.ListContainer container) = ListContainer container.now
seen_command (variant.CheckContainer container) = CheckContainer container.now
seen_command (variant.MakePlan description) = MakePlan description.now
seen_command (variant.CheckPlan description) = CheckPlan description.now
seen_command (variant.ListGroups description) = ListGroups description.now
seen_command (variant.ListSteerers description) = ListSteerers description.now
seen_command (variant.Generate number) = Generate number
seen_command (variant.Run container options) = Run container.now (seen_options options)
seen_command (variant.Replay container part script options) = Replay container.now part script.now (seen_replay options)

-- what a command of the program says, where there is one
abbrev pub command_seen : Option code.Command → Option Command
command_seen None = None
command_seen (Some command) = Some (seen_command command)
