use Rattle.std.proofs.Common.{ap, sym, ◌∙◌, length}
use Rattle.xm_conf.specs.Along.{head_of}
use Rattle.xm_conf.specs.Rules.{beside, stretch}
use Rattle.xm_conf.specs.lemmas.Walks.{area_meets}
use Rattle.xm_conf.specs.declared.item.Item.TheVariants as item
use Rattle.xm_conf.proofs.MeetLemmas.{area-hits}
use Rattle.xm_conf.proofs.rules.stretches.area_meets.Goals as goal

pub returns : goal.returns
unfolding area_meets
returns c =
    let number = length c.args.parts.now in
    c.beside.ensures
    ∙ ap (λ earlier. head_of (beside 9 (item.Area number (length c.args.before.now)) earlier))
    (rw c.stretch.ensures at c.first_before-earlier.ensures
    ∙ ap head_of (sym (area-hits (stretch c.args.area.now) c.args.whole c.args.parts.now number c.args.before.now)))
