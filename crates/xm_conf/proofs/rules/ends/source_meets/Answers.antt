use Rattle.std.proofs.Common.{ap, sym, ◌∙◌, length}
use Rattle.xm_conf.specs.Along.{head_of}
use Rattle.xm_conf.specs.Rules.{beside, chan_ends, same_end}
use Rattle.xm_conf.specs.lemmas.Walks.{chan_hits}
use Rattle.xm_conf.specs.declared.item.Item.TheVariants as item
use Rattle.xm_conf.proofs.MeetLemmas.{items_where-each}
use Rattle.xm_conf.proofs.rules.ends.source_meets.Goals as goal

pub returns : goal.returns
unfolding chan_hits
returns c =
    c.beside.ensures
    ∙ ap (λ earlier. head_of (beside 18 (item.End (length c.args.chans.now) 0) earlier))
    (c.chans_hit.ensures ∙ ap head_of (sym (items_where-each (λ earlier. same_end earlier c.args.source.now) chan_ends 0 c.args.chans.now)))
