use Rattle.std.proofs.Common.{sym, subst}
use Rattle.machine_model.specs.Machine.{Machine}
use Rattle.generated_runs.specs.lemmas.Short.{AreShort}
use Rattle.generated_runs.proofs.CountLemmas.{are_short}
use Rattle.generated_runs.proofs.counting.exec_in.Goals as goal

pub exec_of-requires : goal.exec_of-requires
exec_of-requires c = subst (λ (g : Machine). AreShort g) (sym c.sys.ensures.machine) (are_short c.args.machine.now.state c.done.ensures.counters)
