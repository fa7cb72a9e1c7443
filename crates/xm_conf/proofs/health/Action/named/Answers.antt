use Rattle.xm_conf.proofs.HealthLemmas.{action_named-exact}
use Rattle.xm_conf.proofs.health.Action.named.Goals as goal

pub returns-clause-exact : goal.returns-clause-exact
returns-clause-exact c = rw c.with_name.ensures (action_named-exact c.args.bytes.now)
