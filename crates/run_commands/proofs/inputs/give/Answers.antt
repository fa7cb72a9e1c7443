use Rattle.command_line.specs.Seen.{seen_file}
use Rattle.run_commands.specs.lemmas.InputLemmas.{words_given}
use Rattle.run_commands.proofs.inputs.give.Goals as goal

pub returns-in-Ok-clause-given : goal.returns-in-Ok-clause-given
returns-in-Ok-clause-given c = words_given c.args.inputs.now c.set.new.self (seen_file c.args.named) c.args.bytes.now _ _ c.in-Ok.ensures.length c.in-Ok.ensures.set
