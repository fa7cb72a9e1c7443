use Rattle.tick_steps.specs.lemmas.ReachLemmas.{other_left, other_reach, own_obeyed, own_reach}
use Rattle.hypercalls.proofs.calling.give_order.Goals as goal

pub returns-then-id-p-clause-done : goal.returns-then-id-p-clause-done
returns-then-id-p-clause-done c = own_obeyed c.args.p c.args.id c.args.order _ _ _ _ c.if-id-p.true c.obey.ensures.done

pub returns-then-id-p-clause-act : goal.returns-then-id-p-clause-act
returns-then-id-p-clause-act c = own_reach _ c.args.p c.args.id c.args.order _ c.if-id-p.true

pub returns-else-id-p-clause-done : goal.returns-else-id-p-clause-done
returns-else-id-p-clause-done c = other_left c.args.p c.args.id c.args.order _ _ c.if-id-p.false

pub returns-else-id-p-clause-act : goal.returns-else-id-p-clause-act
returns-else-id-p-clause-act c = other_reach _ c.args.p c.args.id c.args.order _ c.if-id-p.false
