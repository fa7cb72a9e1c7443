use Rattle.machine_model.proofs.ReportLemmas.{own_lines}
use Rattle.machine_model.proofs.law.own_lines.Goals as goal

pub returns : goal.returns
returns c = record { law = own_lines }
