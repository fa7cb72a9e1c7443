-- The rows on the core file: each is computed.
use Rattle.std.proofs.Common.{refl}
use Rattle.machine_model.specs.CoreFile.{core_file, processor_bytes, standing_bytes}
use Rattle.machine_model.specs.rows.CoreFileRows.{CoreFileRows}
use Rattle.machine_model.proofs.Computing.{computing}

pub core_file_rows : CoreFileRows
unfolding computing core_file processor_bytes standing_bytes
core_file_rows = record { bytes = λ memory. refl; size = λ memory. refl }
