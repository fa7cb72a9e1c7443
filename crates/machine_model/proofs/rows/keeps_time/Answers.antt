use Rattle.machine_model.proofs.OwnRowLemmas.{refuses_deadline, sets_timer, shows_clocks}
use Rattle.machine_model.proofs.rows.keeps_time.Goals as goal

pub returns : goal.returns
returns c = record { timer = sets_timer; below_zero = refuses_deadline; clocks = shows_clocks }
