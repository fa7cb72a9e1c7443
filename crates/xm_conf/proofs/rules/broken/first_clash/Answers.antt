use Rattle.std.proofs.Common.{rules, sym, ◌∙◌, [], ◌∷◌, if◌then◌else◌}
use Rattle.xm_conf.proofs.FirstLemmas.{position_each}
use Rattle.xm_conf.proofs.rules.broken.first_clash.Goals as goal

pub returns : goal.returns
returns g c = λ clash_of clashes.
    c.first_of_each.ensures (λ n earlier. if clash_of earlier c.args.item.now then n ∷ [] else []) (λ n earlier found called. search rules)
    ∙ sym (position_each (λ earlier. clash_of earlier c.args.item.now) 0 c.args.before.now)
