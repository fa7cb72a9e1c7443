use Rattle.generated_runs.proofs.CountLemmas.{has_queues}
use Rattle.generated_runs.proofs.running.lines_of.Goals as goal

pub waiting_in-waiting-requires-clause-queues : goal.waiting_in-waiting-requires-clause-queues
waiting_in-waiting-requires-clause-queues c = has_queues c.args.number c.channels.result.now c.args.machine.now.state.system.conf c.channels.ensures.shapes c.requires.conf
