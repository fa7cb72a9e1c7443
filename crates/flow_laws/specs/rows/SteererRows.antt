-- Rows on which partitions may steer others.
use Rattle.std.specs.Prelude.{true, [], ◌∷◌}
use Rattle.xm_conf.specs.Configuration.{Part}
use Rattle.xm_conf.specs.declared.health.Action.{Action}
use Rattle.xm_conf.specs.declared.health.Action.TheVariants as action
use Rattle.machine_model.specs.View.{PartitionView, view_of}
use Rattle.machine_model.specs.rows.Rows.{actions_table, halves, plain_part, small_conf, with_illegal}
use Rattle.xm_flows.specs.Rights.{MaySteer}

-- what partition 0 of a system has of its own, where it is this one
abbrev pub steerer_view : Part → PartitionView
steerer_view part = view_of (record { conf = small_conf (halves ∷ []) (part ∷ []) []; images = []; inputs = [] }) 0

-- a partition with this action for an illegal instruction
abbrev pub acting_part : Action → Part
acting_part an_action = record (plain_part 0x40000000 8) { hm = actions_table (with_illegal an_action) }

-- a system partition may steer, and so may one whose health table resets or halts the hypervisor, or starts the maintenance plan; one that resets
-- or halts only itself may not
pub record WhoMaySteer : Type 0 where
  pub system : MaySteer (steerer_view (record (plain_part 0x40000000 8) { system = true }))
  pub resets_all : MaySteer (steerer_view (acting_part action.HypervisorColdReset))
  pub halts_all : MaySteer (steerer_view (acting_part action.HypervisorHalt))
  pub maintenance : MaySteer (steerer_view (acting_part action.SwitchToMaintenance))
  pub resets_itself : ¬ MaySteer (steerer_view (acting_part action.PartitionColdReset))
  pub halts_itself : ¬ MaySteer (steerer_view (acting_part action.Halt))
