use Rattle.std.proofs.Common.{map, drop}
use Rattle.command_line.specs.Seen.{seen_options}
use Rattle.file_commands.specs.EndingValues.{ending_of, vector_bytes}
use Rattle.run_commands.specs.lemmas.InputLemmas.{inputs_short}
use Rattle.run_commands.proofs.BeginLemmas.{inputs_denied}
use Rattle.run_commands.proofs.beginning.first_beginning.Goals as goal

pub inputs_for-requires : goal.inputs_for-requires
inputs_for-requires c = rw c.split_contents.ensures.others (inputs_short (seen_options c.args.options) (drop 1 (map vector_bytes c.args.contents.now)) c.requires.short)

pub beginning_with-requires-clause-inputs : goal.beginning_with-requires-clause-inputs
beginning_with-requires-clause-inputs c = rw (c.part_count.ensures.value, c.conf.ensures.value, c.split_contents.ensures.others) at c.in-Ok.ensures.value

pub returns-in-Ok-clause-value : goal.returns-in-Ok-clause-value
returns-in-Ok-clause-value c =
    let words = rw (c.part_count.ensures.value, c.conf.ensures.value, c.split_contents.ensures.others) at c.in-Ok.ensures.value in
    rw words c.beginning_with.ensures.value

pub returns-in-Err-clause-value : goal.returns-in-Err-clause-value
returns-in-Err-clause-value c =
    let denied = rw (c.part_count.ensures.value, c.conf.ensures.value, c.split_contents.ensures.others) at c.in-Err.ensures.value in
    inputs_denied (ending_of c.in-Err.ending) (seen_options c.args.options) (map vector_bytes c.args.contents.now) c.args.system.now _ denied
