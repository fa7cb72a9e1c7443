use Rattle.machine_model.proofs.CoreFileRowLemmas.{core_file_rows}
use Rattle.machine_model.proofs.calls.core_files.Goals as goal

pub returns : goal.returns
returns c = record { bytes = core_file_rows }
