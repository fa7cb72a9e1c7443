use Rattle.std.proofs.Common.{ap, ◌∙◌, length, Some}
use Rattle.xm_base.specs.Options.{on}
use Rattle.xm_conf.specs.Along.{head_of}
use Rattle.xm_conf.specs.Rules.{beside}
use Rattle.xm_conf.proofs.rules.broken.repeated.Goals as goal

pub returns-in-Some : goal.returns-in-Some
returns-in-Some g c = λ clash_of item_of clashes items.
    let number = length c.args.before.now in
    c.beside.ensures
    ∙ ap (λ later. head_of (beside c.args.rule later (Some c.numbered.result))) (items number _ c.numbered-later.ensures)
    ∙ ap (λ earlier. head_of (beside c.args.rule (item_of number) (Some earlier))) (items c.in-Some.n _ c.numbered.ensures)
    ∙ ap (λ n. head_of (beside c.args.rule (item_of number) (on item_of n))) (c.in-Some.ensures clash_of clashes)

pub returns : goal.returns
returns g c = λ clash_of item_of clashes items.
    ap (λ n. head_of (beside c.args.rule (item_of (length c.args.before.now)) (on item_of n))) (c.in-None.ensures clash_of clashes)
