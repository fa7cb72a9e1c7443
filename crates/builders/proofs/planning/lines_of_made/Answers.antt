use Rattle.builders.proofs.PlanningLemmas.{plan_unmade}
use Rattle.builders.proofs.planning.lines_of_made.Goals as goal

pub returns-in-Err : goal.returns-in-Err
returns-in-Err c = plan_unmade c.in-Err.fault _ c.no_plan.result c.in-Err.ensures.answer c.no_plan.ensures.text c.no_plan.ensures.memory
