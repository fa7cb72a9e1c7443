-- The rules limit the partitions.
use Rattle.std.proofs.Common.{◌≡◌, ◌≤◌, length, arith, rules}
use Rattle.xm_conf.specs.Limits.{most_parts}
use Rattle.plan_maker.proofs.PeriodLemmas.{parts_few}
use Rattle.plan_maker.proofs.making.parts_of.Goals as goal

pub returns-clause-few : goal.returns-clause-few
returns-clause-few c =
    let same : c.deref.result.now ≡ c.args.conf.now.parts = first_of (search rules, cc, grind arith) in
    let few : length c.args.conf.now.parts ≤ most_parts = parts_few c.args.conf.now c.raw.ensures.fits in
    rw same few
