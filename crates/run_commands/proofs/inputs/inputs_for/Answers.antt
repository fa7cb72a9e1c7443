use Rattle.std.proofs.Common.{sym}
use Rattle.command_line.specs.Seen.{seen_options}
use Rattle.run_commands.specs.lemmas.CoreLemmas.{always_ok, cores_inside, inputs_inside, scripts_inside}
use Rattle.run_commands.proofs.inputs.inputs_for.Goals as goal

pub read_inputs-requires-clause-inside : goal.read_inputs-requires-clause-inside
read_inputs-requires-clause-inside c = rw c.inputs.ensures.value (inputs_inside c.args.parts (seen_options c.args.options) (sym c.in-None.ensures.value))

pub returns-in-None-clause-cores : goal.returns-in-None-clause-cores
returns-in-None-clause-cores c = always_ok c.read_inputs.result (cores_inside c.args.parts (seen_options c.args.options) (sym c.in-None.ensures.value))

pub returns-in-None-clause-scripts : goal.returns-in-None-clause-scripts
returns-in-None-clause-scripts c = always_ok c.read_inputs.result (scripts_inside c.args.parts (seen_options c.args.options) (sym c.in-None.ensures.value))
