-- Rows that reach the bounds of what a partition emits in a tick.
use Rattle.std.specs.Prelude.{◌≡◌, ℕ, true, List, ◌∷◌, ◌++◌, length, Some, Err}
use Rattle.std.specs.List.{flat_map}
use Rattle.health_monitor.specs.Monitor.{event_of_type}
use Rattle.virt_traps.specs.Delivery.{delivered}
use Rattle.virt_traps.specs.declared.windows.StackFault.{StackFault}
use Rattle.xm_base.specs.declared.partition.State.TheVariants.{Ready}
use Rattle.xm_conf.specs.declared.health.Action.TheVariants as action
use Rattle.machine_model.specs.Health.{entered_emissions, propagated}
use Rattle.machine_model.specs.LocalTick.{said_in}
use Rattle.machine_model.specs.OwnEffects.{printed}
use Rattle.machine_model.specs.Partition.{PartitionState, areas_of}
use Rattle.machine_model.specs.View.{PartitionView}

-- a trap that is logged and goes on to a partition that is ready, but cannot be delivered, is three lines: its event, the failed delivery, and the halt; and a
-- console call prints each byte that it is given
pub record BoundsAreReached : Type 0 where
  pub lines : (view : PartitionView) (time type : ℕ) (fault : StackFault) (ps : PartitionState) → ps.state ≡ Ready
      → (delivered (areas_of view) ps.traps ps.core ps.memory type).answer ≡ Err fault
      → length (entered_emissions true (event_of_type type) ps.core.pc action.Propagate ++ (propagated view time (Some type) ps).emitted) ≡ 3
  pub bytes : (byte : ℕ) (bytes : List ℕ) → length (flat_map said_in (printed (byte ∷ bytes))) ≡ length (byte ∷ bytes)
