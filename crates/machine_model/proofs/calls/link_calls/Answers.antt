use Rattle.machine_model.proofs.LinkRowLemmas.{link_call_rows, link_rows, signal_is_delivered, signal_rows, signals_halted, signals_not_back, signals_other}
use Rattle.machine_model.proofs.calls.link_calls.Goals as goal

pub returns : goal.returns
returns c = record {
  rows = link_call_rows;
  signals = signal_rows;
  links = link_rows;
  heard = signals_other;
  halted = signals_halted;
  refused = signals_not_back;
  delivered = signal_is_delivered;
}
