use Rattle.std.proofs.Common.{◌∙◌, sym}
use Rattle.command_line.proofs.WordPairLemmas.{few_options}
use Rattle.command_line.specs.Words.{run_option_of}
use Rattle.command_line.proofs.run_options.are_options.Goals as goal

pub returns : goal.returns
returns c = record { value = c.is_empty.ensures ∙ sym (few_options run_option_of c.loop-rest.rest.now c.in_default.len_below) ∙ c.loop-rest.invariant }
