-- What holds of the system of every machine at all times.
use Rattle.std.specs.Prelude.{◌≡◌, ◌≤◌}
use Rattle.xm_base.specs.declared.limits.TheConstants.{TICKS}
use Rattle.xm_conf.specs.Description.{described}
use Rattle.xm_conf.specs.Fits.{Fits}
use Rattle.xm_ports.specs.Channels.{shapes_of}
use Rattle.system_state.specs.State.{SysState}
use Rattle.machine_model.specs.Facts.{HasFacts, IsClocked, IsComplete, IsTimed, begun}
use Rattle.machine_model.specs.Machine.{Machine}

-- the counters of a machine: the numbers of log entries are bounded by the ticks that are done, and by one more where a partition or the
-- hypervisor has halted; execution clocks by the ticks that have begun, the one in which the hypervisor halts with them; its clock by
-- those that are done; and no more have begun than a run may have
pub record IsCounted (g : Machine) : Type 0 where
  pub facts : HasFacts g
  pub time : IsTimed g
  pub ticks : begun g ≤ TICKS

-- what holds of the system of every machine
pub record IsMachine (sys : SysState) : Type 0 where
  pub shapes : sys.shapes ≡ shapes_of sys.machine.system.conf
  pub fits : Fits (described sys.machine.system.conf)
  pub complete : IsComplete sys.machine
  pub clocked : IsClocked sys.machine
  pub counted : IsCounted sys.machine
