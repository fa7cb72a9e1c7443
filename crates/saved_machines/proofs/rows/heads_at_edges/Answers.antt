-- The rows compute.
use Rattle.std.proofs.Common.{refl}
use Rattle.cyclic_plans.specs.Slots.{frame_of}
use Rattle.saved_machines.proofs.rows.heads_at_edges.Goals as goal

pub returns-clause-clocks : goal.returns-clause-clocks
unfolding frame_of
returns-clause-clocks c = record {
  clock = refl;
  asked = refl;
  read = refl;
  no_plan = refl;
  later = refl;
  ended = refl;
  other = refl;
  filled = refl;
  cut = refl;
}

pub returns-clause-heads : goal.returns-clause-heads
unfolding frame_of
returns-clause-heads c = record {
  head = refl;
  container = refl;
  most = refl;
  more = refl;
  halts = refl;
  after = refl;
  time = refl;
  ahead = refl;
}
