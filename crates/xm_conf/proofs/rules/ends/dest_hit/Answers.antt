use Rattle.std.proofs.Common.{ap, ◌∙◌, ◌+◌}
use Rattle.xm_base.specs.Options.{on}
use Rattle.xm_conf.specs.Rules.{same_end}
use Rattle.xm_conf.specs.lemmas.Walks.{dest_hits}
use Rattle.xm_conf.specs.declared.item.Item.TheVariants as item
use Rattle.xm_conf.proofs.MeetLemmas.{first_hit}
use Rattle.xm_conf.proofs.rules.ends.dest_hit.Goals as goal

pub returns-in-Some : goal.returns-in-Some
unfolding dest_hits
returns-in-Some c =
    ap (on (λ n. item.End c.args.c (n + 1))) c.in-Some.ensures.first
    ∙ first_hit (λ earlier. same_end earlier c.args.at.now) (λ n. item.End c.args.c (n + 1)) (λ end. end) 0 c.args.dests.now

pub returns-in-None : goal.returns-in-None
unfolding dest_hits
returns-in-None c =
    ap (on (λ n. item.End c.args.c (n + 1))) c.in-None.ensures.first
    ∙ first_hit (λ earlier. same_end earlier c.args.at.now) (λ n. item.End c.args.c (n + 1)) (λ end. end) 0 c.args.dests.now
