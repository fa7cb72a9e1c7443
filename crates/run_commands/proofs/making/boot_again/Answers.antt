use Rattle.std.proofs.Common.{map, drop}
use Rattle.command_line.specs.Seen.{seen_options}
use Rattle.file_commands.specs.EndingValues.{vector_bytes}
use Rattle.run_commands.specs.lemmas.InputLemmas.{inputs_short}
use Rattle.run_commands.proofs.making.boot_again.Goals as goal

pub inputs_for-requires : goal.inputs_for-requires
inputs_for-requires c = rw c.split_contents.ensures.others (inputs_short (seen_options c.args.options) (drop 1 (map vector_bytes c.args.contents.now)) c.requires.short)
