use Rattle.xm_conf.proofs.RuleLaws.{first_broken_none}
use Rattle.xm_conf.proofs.law.broken_unless_fits.Goals as goal

pub returns : goal.returns
returns c = record { law = first_broken_none }
