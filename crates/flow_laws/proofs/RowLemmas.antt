-- The rows on who may steer.
use Rattle.std.proofs.Common.{◌≡◌, true, inl, inr, refl}
use Rattle.health_monitor.specs.Monitor.{action_in}
use Rattle.xm_conf.specs.declared.health.Action.TheVariants as action
use Rattle.xm_conf.specs.declared.health.Event.{Event}
use Rattle.xm_conf.specs.declared.health.Event.TheVariants as event
use Rattle.machine_model.specs.View.{part_of, view_of}
use Rattle.xm_flows.specs.Rights.{MaySteer, reaches_all}
use Rattle.flow_laws.specs.rows.SteererRows.{WhoMaySteer, acting_part, steerer_view}

no_reset : (an_event : Event) → reaches_all (action_in (acting_part action.PartitionColdReset).hm an_event) ≡ true → ⊥
unfolding action_in
no_reset event.PartitionError is = absurd cc
no_reset event.MemProtection is = absurd cc
no_reset event.UnexpectedTrap is = absurd cc
no_reset event.SparcIllegalInstruction is = absurd cc
no_reset event.SparcPrivilegedInstruction is = absurd cc
no_reset event.SparcFpDisabled is = absurd cc
no_reset event.SparcCpDisabled is = absurd cc
no_reset event.SparcAddressNotAligned is = absurd cc
no_reset event.SparcTagOverflow is = absurd cc
no_reset event.SparcDivideException is = absurd cc
no_reset event.SparcInstrAccess is = absurd cc
no_reset event.SparcDataAccess is = absurd cc

no_halt : (an_event : Event) → reaches_all (action_in (acting_part action.Halt).hm an_event) ≡ true → ⊥
unfolding action_in
no_halt event.PartitionError is = absurd cc
no_halt event.MemProtection is = absurd cc
no_halt event.UnexpectedTrap is = absurd cc
no_halt event.SparcIllegalInstruction is = absurd cc
no_halt event.SparcPrivilegedInstruction is = absurd cc
no_halt event.SparcFpDisabled is = absurd cc
no_halt event.SparcCpDisabled is = absurd cc
no_halt event.SparcAddressNotAligned is = absurd cc
no_halt event.SparcTagOverflow is = absurd cc
no_halt event.SparcDivideException is = absurd cc
no_halt event.SparcInstrAccess is = absurd cc
no_halt event.SparcDataAccess is = absurd cc

resets_only_itself : MaySteer (steerer_view (acting_part action.PartitionColdReset)) → ⊥
unfolding part_of view_of
resets_only_itself (inl flag) = absurd cc
resets_only_itself (inr table) = no_reset table.event table.reaches

halts_only_itself : MaySteer (steerer_view (acting_part action.Halt)) → ⊥
unfolding part_of view_of
halts_only_itself (inl flag) = absurd cc
halts_only_itself (inr table) = no_halt table.event table.reaches

pub who_may_steer : WhoMaySteer
unfolding action_in part_of view_of
who_may_steer = record {
  system = inl refl;
  resets_all = inr (record { event = event.SparcIllegalInstruction; reaches = refl });
  halts_all = inr (record { event = event.SparcIllegalInstruction; reaches = refl });
  maintenance = inr (record { event = event.SparcIllegalInstruction; reaches = refl });
  resets_itself = resets_only_itself;
  halts_itself = halts_only_itself;
}
