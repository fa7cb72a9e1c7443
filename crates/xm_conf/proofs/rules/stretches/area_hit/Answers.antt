use Rattle.std.proofs.Common.{ap, ◌∙◌}
use Rattle.xm_base.specs.Options.{on}
use Rattle.xm_conf.specs.Rules.{overlaps, stretch}
use Rattle.xm_conf.specs.lemmas.Walks.{area_hits}
use Rattle.xm_conf.specs.declared.item.Item.TheVariants as item
use Rattle.xm_conf.proofs.MeetLemmas.{first_hit}
use Rattle.xm_conf.proofs.rules.stretches.area_hit.Goals as goal

pub returns-in-Some : goal.returns-in-Some
unfolding area_hits
returns-in-Some c =
    ap (on (item.Area c.args.p)) c.in-Some.ensures.first
    ∙ first_hit (λ earlier. overlaps earlier c.args.at.now) (item.Area c.args.p) stretch 0 c.args.areas.now

pub returns-in-None : goal.returns-in-None
unfolding area_hits
returns-in-None c =
    ap (on (item.Area c.args.p)) c.in-None.ensures.first
    ∙ first_hit (λ earlier. overlaps earlier c.args.at.now) (item.Area c.args.p) stretch 0 c.args.areas.now
