use Rattle.std.proofs.Common.{rules, sym, ◌∙◌, ap, take}
use Rattle.xm_conf.specs.Along.{head_of}
use Rattle.xm_conf.proofs.FirstLemmas.{along_each}
use Rattle.xm_conf.proofs.first.first_along.Goals as goal

pub returns : goal.returns
returns g c = λ f adds. c.first_of_each.ensures (λ n item. f (take n c.args.items.now) item) (λ n item found called. search rules) ∙ sym (ap head_of (along_each f c.args.items.now))
