use Rattle.machine_laws.proofs.SparedLemmas.{spares, spares_alone}
use Rattle.machine_laws.proofs.law.spares_others.Goals as goal

pub returns : goal.returns
returns c = record { law = spares c.one_tick.ensures.law; alone = spares_alone }
