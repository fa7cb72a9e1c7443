-- What a change of one partition leaves.
use Rattle.std.proofs.Common.{◌≡◌, ℕ, ◌<◌, length, ap, ◌∙◌}
use Rattle.std.proofs.lemmas.List.{get_or-set_same}
use Rattle.machine_model.specs.Partition.{PartitionState}
use Rattle.system_state.specs.State.{SysState, part_at, with_machine, with_part}

-- the state of that partition
pub part_set : (sys new : SysState) (p : ℕ) (ps : PartitionState) → p < length sys.machine.parts → new ≡ with_machine (with_part p ps sys.machine) sys → part_at p new.machine ≡ ps
part_set sys new p ps below is = ap (λ (s : SysState). part_at p s.machine) is ∙ get_or-set_same sys.machine.parts p ps _ below
