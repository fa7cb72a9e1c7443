-- A fault as that of another format.
use Rattle.file_headers.specs.Faults.{HeadFaults}

-- how the faults of a head are made, each as another one
abbrev pub lifted_faults : {F G : Type 0} → (F → G) → HeadFaults F → HeadFaults G
lifted_faults to faults = record {
  magic = to faults.magic;
  version = λ found. to (faults.version found);
  short = λ at. to (faults.short at);
  trailing = λ at. to (faults.trailing at);
  digest = λ stored found. to (faults.digest stored found);
}
