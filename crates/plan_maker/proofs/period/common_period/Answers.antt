-- A period is at most the longest.
use Rattle.std.proofs.Common.{arith}
use Rattle.xm_conf.specs.Rules.{longest}
use Rattle.plan_maker.proofs.period.common_period.Goals as goal

pub least_multiple-common-requires-clause-most_b : goal.least_multiple-common-requires-clause-most_b
unfolding longest
least_multiple-common-requires-clause-most_b c = (c.requires c.loop-requirement.requirement-index _ (omega arith)).most
