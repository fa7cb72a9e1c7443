-- The faults of heads as the code has them.
use Rattle.file_headers.specs.Faults.{HeadFaults}
use Rattle.fault_messages.specs.declared.fault.HeadFault.{HeadFault}
use Rattle.fault_messages.specs.declared.fault.HeadFault.TheVariants as fault

-- how they are made
abbrev pub head_faults : HeadFaults HeadFault
head_faults = record {
  magic = fault.Magic;
  version = λ found. fault.Version found;
  short = λ at. fault.Short at;
  trailing = λ at. fault.Trailing at;
  digest = λ stored found. fault.Digest stored found;
}
