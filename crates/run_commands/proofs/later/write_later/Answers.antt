use Rattle.std.proofs.Common.{map}
use Rattle.command_line.specs.Seen.{seen_files}
use Rattle.file_commands.specs.Outcome.{core_outputs}
use Rattle.run_commands.specs.lemmas.Made.{made_output}
use Rattle.file_commands.specs.EndingValues.{ending_of}
use Rattle.run_commands.proofs.ScriptLemmas.{not_saved_before, saved_after}
use Rattle.run_commands.proofs.later.write_later.Goals as goal

pub returns-in-Ok : goal.returns-in-Ok
returns-in-Ok g c = λ got faults.
    saved_after c.write_made.result (core_outputs c.args.machine.now.state (seen_files c.args.cores)) (map made_output c.args.made.now) _ _ _ (c.in-Ok.ensures got faults) (c.write_made.ensures got faults)

pub returns-in-Err : goal.returns-in-Err
returns-in-Err g c = λ got faults.
    not_saved_before (ending_of c.in-Err.ending) (core_outputs c.args.machine.now.state (seen_files c.args.cores)) (map made_output c.args.made.now) _ _ (c.in-Err.ensures got faults)
