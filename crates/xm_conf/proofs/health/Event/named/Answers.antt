use Rattle.xm_conf.proofs.HealthLemmas.{event_named-exact}
use Rattle.xm_conf.proofs.health.Event.named.Goals as goal

pub returns-clause-exact : goal.returns-clause-exact
returns-clause-exact c = rw c.with_name.ensures (event_named-exact c.args.bytes.now)
