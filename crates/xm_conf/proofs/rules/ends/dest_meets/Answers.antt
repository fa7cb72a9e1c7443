use Rattle.std.proofs.Common.{ap, sym, ◌∙◌, ◌+◌, length}
use Rattle.xm_conf.specs.Along.{head_of}
use Rattle.xm_conf.specs.Rules.{beside}
use Rattle.xm_conf.specs.lemmas.Walks.{dest_meets, before_dests}
use Rattle.xm_conf.specs.declared.item.Item.TheVariants as item
use Rattle.xm_conf.proofs.MeetLemmas.{dest-hits}
use Rattle.xm_conf.proofs.rules.ends.dest_meets.Goals as goal

pub returns : goal.returns
unfolding dest_meets before_dests
returns c =
    let number = length c.args.chans.now in
    c.beside.ensures
    ∙ ap (λ earlier. head_of (beside 18 (item.End number (length c.args.before.now + 1)) earlier))
    (c.first_before-earlier.ensures ∙ ap head_of (sym (dest-hits c.args.dest.now c.args.chans.now c.args.source.now number c.args.before.now)))
