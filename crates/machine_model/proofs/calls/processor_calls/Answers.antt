use Rattle.machine_model.proofs.ProcessorCallRowLemmas.{processor_call_rows}
use Rattle.machine_model.proofs.calls.processor_calls.Goals as goal

pub returns : goal.returns
returns c = record { rows = processor_call_rows }
