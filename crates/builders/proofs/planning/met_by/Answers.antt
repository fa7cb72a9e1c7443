use Rattle.builders.proofs.PlanningLemmas.{met_is}
use Rattle.builders.proofs.planning.met_by.Goals as goal

pub returns : goal.returns
returns c = met_is c.args.plan.now c.args.id c.args.need c.met.result c.requires.need c.met.ensures
