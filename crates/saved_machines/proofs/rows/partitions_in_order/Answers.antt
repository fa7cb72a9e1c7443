-- The rows compute.
use Rattle.std.proofs.Common.{refl}
use Rattle.machine_model.specs.View.{part_of}
use Rattle.saved_machines.specs.SavedFields.{flags_of}
use Rattle.xm_conf.specs.View.{channel_of, has_end, is_port}
use Rattle.saved_machines.proofs.rows.partitions_in_order.Goals as goal

pub returns-clause-parts : goal.returns-clause-parts
unfolding channel_of flags_of has_end is_port part_of
returns-clause-parts c = record {
  standing = refl;
  number = refl;
  state = refl;
  began = refl;
  never = refl;
  processor = refl;
  window = refl;
  aligned = refl;
  traps = refl;
  timer = refl;
  no_timer = refl;
  unarmed = refl;
  made = refl;
  no_end = refl;
  no_port = refl;
}

pub returns-clause-logs : goal.returns-clause-logs
returns-clause-logs c = record {
  few = refl;
  many = refl;
  last = refl;
  past = refl;
  oldest = refl;
  trace = refl;
  health = refl;
}
