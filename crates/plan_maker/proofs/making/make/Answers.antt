-- What is known of the plan that is made, and of a refusal.
use Rattle.plan_maker.specs.Needed.{requirements}
use Rattle.plan_maker.proofs.PlanLemmas.{answer_hopeless, answer_refused, answer_rules, answer_served}
use Rattle.plan_maker.proofs.making.make.Goals as goal

pub returns-clause-refused : goal.returns-clause-refused
returns-clause-refused c = answer_refused (requirements c.args.conf.now) c.made.result c.made.ensures.answer

pub returns-clause-hopeless : goal.returns-clause-hopeless
returns-clause-hopeless c = answer_hopeless (requirements c.args.conf.now) c.made.result c.made.ensures.possible c.made.ensures.answer

pub returns-clause-rules : goal.returns-clause-rules
returns-clause-rules c = answer_rules (requirements c.args.conf.now) c.made.result c.made.ensures.possible c.made.ensures.answer

pub returns-clause-served : goal.returns-clause-served
returns-clause-served c = answer_served (requirements c.args.conf.now) c.made.result c.made.ensures.possible c.made.ensures.answer
