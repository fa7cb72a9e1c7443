use Rattle.xm_machine.proofs.CueLemmas.{kept_cues}
use Rattle.xm_machine.proofs.law.keeps_cues.Goals as goal

pub returns : goal.returns
returns c = record { law = kept_cues }
