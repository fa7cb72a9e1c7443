-- The requirements are those of the partitions of the configuration.
use Rattle.std.proofs.Common.{◌≡◌, List, IfOk, subst}
use Rattle.xm_conf.specs.Along.{added_by_each}
use Rattle.xm_conf.specs.Configuration.{Part}
use Rattle.plan_maker.specs.Needed.{required_by, requirements}
use Rattle.plan_maker.proofs.PeriodLemmas.{conf_few, conf_possible}
use Rattle.plan_maker.proofs.making.requirements.Goals as goal

pub returns-clause-value : goal.returns-clause-value
unfolding requirements
returns-clause-value c =
    subst (λ (parts : List Part). IfOk c.required_of.result (λ found. found.items ≡ added_by_each required_by parts)) c.parts_of.ensures.value c.required_of.ensures

pub returns-clause-possible : goal.returns-clause-possible
returns-clause-possible c = conf_possible c.args.conf.now c.parts_of.ensures.fits

pub returns-clause-few : goal.returns-clause-few
returns-clause-few c = conf_few c.args.conf.now c.parts_of.ensures.fits
