-- The rows compute.
use Rattle.std.proofs.Common.{refl}
use Rattle.plan_maker.specs.Course.{earliest, job_at}
use Rattle.plan_maker.specs.Needed.{common_period, demand, least_multiple, longest_common}
use Rattle.plan_maker.specs.Planned.{frame_slots, most_slots}
use Rattle.plan_maker.specs.Served.{time_in}
use Rattle.plan_maker.proofs.rows.worked_rows.Goals as goal

pub returns : goal.returns
unfolding common_period least_multiple longest_common demand earliest job_at time_in frame_slots most_slots
returns c = record {
  rows = record {
    none = refl;
    alone = refl;
    whole = refl;
    turns = refl;
    tie = refl;
    coprime = refl;
    overload = refl;
    long = refl;
  };
}
