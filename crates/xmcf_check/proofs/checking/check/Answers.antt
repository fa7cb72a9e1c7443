use Rattle.xm_conf.specs.Limits.{most_parts}
use Rattle.xmcf_check.specs.Described.{description_of}
use Rattle.xmcf_check.proofs.GathersLemmas.{gathers}
use Rattle.xmcf_check.proofs.VerdictLemmas.{verdict-some, verdict-none}
use Rattle.xmcf_check.proofs.checking.check.Goals as goal

pub judge-requires : goal.judge-requires
judge-requires c =
    let reported = c.in_ok-gathered.ensures in
    (gathers c.in_ok-gathered.gathered c.args.draft.now reported.conf reported.ids reported.answers).sizes

pub returns-in-Ok-clause-verdict : goal.returns-in-Ok-clause-verdict
returns-in-Ok-clause-verdict c =
    let reported = c.in_ok-gathered.ensures in
    let is = c.in-Ok.ensures (description_of c.args.draft.now) (gathers c.in_ok-gathered.gathered c.args.draft.now reported.conf reported.ids reported.answers) in
    (verdict-none c.args.draft.now is.0, is.1)

pub returns-in-Ok-clause-fits : goal.returns-in-Ok-clause-fits
returns-in-Ok-clause-fits c =
    let reported = c.in_ok-gathered.ensures in
    let is = c.in-Ok.ensures (description_of c.args.draft.now) (gathers c.in_ok-gathered.gathered c.args.draft.now reported.conf reported.ids reported.answers) in
    (c.broken_unless_fits.ensures.law most_parts (description_of c.args.draft.now)).0 is.0

pub returns-in-Err-clause-verdict : goal.returns-in-Err-clause-verdict
returns-in-Err-clause-verdict c =
    let reported = c.in_ok-gathered.ensures in
    let is = c.in-Err.ensures (description_of c.args.draft.now) (gathers c.in_ok-gathered.gathered c.args.draft.now reported.conf reported.ids reported.answers) in
    rw c.at_places.ensures (verdict-some c.args.draft.now c.in-Err.broken is)
