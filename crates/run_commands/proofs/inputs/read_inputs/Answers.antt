use Rattle.std.proofs.Common.{map, ap, sym, ◌∙◌, arith}
use Rattle.std.proofs.lemmas.List.{drop_all}
use Rattle.file_commands.specs.EndingValues.{vector_bytes}
use Rattle.run_commands.specs.lemmas.InputLemmas.{no_more_inputs}
use Rattle.run_commands.proofs.inputs.read_inputs.Goals as goal

pub returns-clause-value : goal.returns-clause-value
returns-clause-value c =
    sym c.loop-bytes.invariant.0 ∙ no_more_inputs _ _ _ (ap (map vector_bytes) (drop_all c.loop-bytes.bytes-index c.args.contents.now (omega arith)))
