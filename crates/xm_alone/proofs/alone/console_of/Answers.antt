use Rattle.std.proofs.Common.{◌<◌, ap, arith, length, subst, sym}
use Rattle.std.specs.Prelude.{IfSome}
use Rattle.xm_conf.specs.Configuration.{Conf, Part}
use Rattle.xm_alone.proofs.ShownLemmas.{console_below}
use Rattle.xm_alone.proofs.alone.console_of.Goals as goal

pub returns-clause-below : goal.returns-clause-below
returns-clause-below c =
    let below : c.from.result < length c.conf.result.now.parts =
    omega (arith, c.requires.partition, c.from.ensures, c.count-count.ensures.parts, ap (λ (conf : Conf). length conf.parts) c.conf.ensures.value) in
    subst (λ (part : Part). IfSome part.console (λ place. place < 8)) (sym c.behind-conf.view_is)
    (console_below c.conf.result.now c.from.result c.index.result.now c.raw-conf.ensures.fits below (rw (← c.raw-conf.ensures.value, ← c.conf-2.view_is) c.index.ensures))
