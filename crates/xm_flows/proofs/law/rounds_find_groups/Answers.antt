use Rattle.xm_flows.proofs.RoundLemmas.{rounds_find}
use Rattle.xm_flows.proofs.law.rounds_find_groups.Goals as goal

pub returns : goal.returns
returns c = record { law = rounds_find }
