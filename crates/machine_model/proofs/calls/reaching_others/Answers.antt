use Rattle.machine_model.proofs.WholeRowLemmas.{counter_rows, hearing_rows, order_rows, reset_rows, writes_to_its_console}
use Rattle.machine_model.proofs.calls.reaching_others.Goals as goal

pub returns : goal.returns
returns c = record { heard = hearing_rows; ordered = order_rows; counted = counter_rows; reset = reset_rows; consoles = writes_to_its_console }
