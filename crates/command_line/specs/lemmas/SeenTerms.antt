-- For proofs and private clauses: what the program's commands say.
use Rattle.std.specs.Prelude.{Option, Some, None}
use Rattle.command_line.specs.Words.{PartFile, ReplayFile, RunOption}
use Rattle.command_line.specs.declared.part_files.PartFile as file
use Rattle.command_line.specs.declared.replay_options.ReplayFile as replay
use Rattle.command_line.specs.declared.run_options.RunOption as option
use Rattle.command_line.specs.Seen.{seen_file, seen_option, seen_replay_file}

-- what a file for a partition says, where there is one
abbrev pub seen_part_file : Option file.PartFile → Option PartFile
seen_part_file None = None
seen_part_file (Some named) = Some (seen_file named)

-- what an option of a run says, where there is one
abbrev pub seen_run_option : Option option.RunOption → Option RunOption
seen_run_option None = None
seen_run_option (Some named) = Some (seen_option named)

-- what an option of a replay says, where there is one
abbrev pub seen_replay_option : Option replay.ReplayFile → Option ReplayFile
seen_replay_option None = None
seen_replay_option (Some named) = Some (seen_replay_file named)
