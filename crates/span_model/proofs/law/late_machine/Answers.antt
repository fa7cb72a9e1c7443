use Rattle.span_model.proofs.AlikeLemmas.{others_go_alike, rested_go_alike}
use Rattle.span_model.proofs.law.late_machine.Goals as goal

pub returns : goal.returns
returns c = record { all = rested_go_alike; others = others_go_alike }
