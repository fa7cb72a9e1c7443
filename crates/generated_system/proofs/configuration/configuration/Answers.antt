use Rattle.std.proofs.Common.{◌≡◌, false, true, sym, subst}
use Rattle.xm_conf.specs.Configuration.{Conf}
use Rattle.xm_conf.specs.Description.{described}
use Rattle.xm_conf.specs.Fits.{Fits}
use Rattle.generated_system.proofs.FitLemmas.{generated_fits}
use Rattle.generated_system.proofs.configuration.configuration.Goals as goal

pub unreachable-requires : goal.unreachable-requires
unreachable-requires c =
    let fits : Fits (described c.in_ok-raw.raw) = subst (λ (conf : Conf). Fits (described conf)) (sym c.in_ok-raw.ensures) (generated_fits c.broken_unless_fits.ensures.law c.args.number) in
    let other : false ≡ true = c.in_default.ensures.fits.1 fits in
    absurd cc
