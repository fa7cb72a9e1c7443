use Rattle.command_line.specs.Seen.{seen_files}
use Rattle.run_commands.specs.lemmas.CoreLemmas.{machine_inside}
use Rattle.run_commands.proofs.running.run_machine.Goals as goal

pub core_room-requires : goal.core_room-requires
core_room-requires g c = machine_inside c.sys-sys.result.now c.args.machine.now.state (seen_files c.args.cores) c.sys-sys.ensures.kept c.sys-sys.ensures.machine c.requires.inside

pub run_into-requires-clause-inside : goal.run_into-requires-clause-inside
run_into-requires-clause-inside g c = machine_inside c.sys-sys.result.now c.args.machine.now.state (seen_files c.args.cores) c.sys-sys.ensures.kept c.sys-sys.ensures.machine c.requires.inside
