-- Health events, the actions that a partition's table has for them, and the outcome of each action.
use Rattle.std.specs.Prelude.{◌≡◌, ◌≢◌, ◌==◌, ◌⊎◌, ℕ, Bool, true, false, if◌then◌else◌, slice_index_or}
use Rattle.std.specs.Int.{bit_at}
use Rattle.xm_base.specs.declared.partition.Mode.TheVariants as mode
use Rattle.xm_conf.specs.Health.{event_row}
use Rattle.xm_conf.specs.declared.health.Action.{Action}
use Rattle.xm_conf.specs.declared.health.Action.TheVariants as action
use Rattle.xm_conf.specs.declared.health.Event.{Event}
use Rattle.xm_conf.specs.declared.health.Event.TheVariants as event
use Rattle.xm_conf.specs.declared.part.HmTable.{HmTable}
use Rattle.health_monitor.specs.declared.effects.Effect.{Effect}
use Rattle.health_monitor.specs.declared.effects.Own.{Own}
use Rattle.health_monitor.specs.declared.effects.Own.TheVariants as own
use Rattle.health_monitor.specs.declared.effects.Whole.{Whole}
use Rattle.health_monitor.specs.declared.effects.Whole.TheVariants as whole

-- the event that a trap raises, by the trap's type
unfoldable pub event_of_type : ℕ → Event
event_of_type tt =
    if tt == 0x01 then event.SparcInstrAccess
    else if tt == 0x02 then event.SparcIllegalInstruction
    else if tt == 0x03 then event.SparcPrivilegedInstruction
    else if tt == 0x04 then event.SparcFpDisabled
    else if tt == 0x05 then event.MemProtection
    else if tt == 0x06 then event.MemProtection
    else if tt == 0x07 then event.SparcAddressNotAligned
    else if tt == 0x09 then event.SparcDataAccess
    else if tt == 0x0a then event.SparcTagOverflow
    else if tt == 0x24 then event.SparcCpDisabled
    else if tt == 0x2a then event.SparcDivideException
    else event.UnexpectedTrap

-- the trap type has no event of its own
abbrev pub HasNoEvent : ℕ → Type 0
HasNoEvent tt =
    (tt ≢ 0x01) × (tt ≢ 0x02) × (tt ≢ 0x03) × (tt ≢ 0x04) × (tt ≢ 0x05) × (tt ≢ 0x06) × (tt ≢ 0x07) × (tt ≢ 0x09) × (tt ≢ 0x0a)
    × (tt ≢ 0x24) × (tt ≢ 0x2a)

-- the action for an event: the one at the event's number, of which a table has all twelve
unfoldable pub action_in : HmTable → Event → Action
action_in table event = slice_index_or table.actions (event_row event).number action.Halt

-- whether an event is logged: the bit of the event's number is set
unfoldable pub is_logged : HmTable → Event → Bool
is_logged table event = bit_at table.logged (event_row event).number == 1

-- the action that is entered, whether it passes over the instruction, and what it does to the partition and to the whole
abbrev pub does : Action → Bool → Own → Whole → Effect
does action pass own whole = record { action = action; pass = pass; own = own; whole = whole }

-- the outcome of an action, where traps are enabled (true) or disabled (false)
unfoldable pub effect_of : Action → Bool → Effect
effect_of action.Ignore _ = does action.Ignore true own.Nothing whole.Nothing
effect_of action.Shutdown _ = does action.Shutdown true own.Shutdown whole.Nothing
effect_of action.PartitionColdReset _ = does action.PartitionColdReset false (own.Reset mode.Cold) whole.Nothing
effect_of action.PartitionWarmReset _ = does action.PartitionWarmReset false (own.Reset mode.Warm) whole.Nothing
effect_of action.Suspend _ = does action.Suspend true own.Suspend whole.Nothing
effect_of action.Halt _ = does action.Halt false own.Halt whole.Nothing
effect_of action.Propagate true = does action.Propagate false own.Propagate whole.Nothing
effect_of action.Propagate false = does action.Halt false own.Halt whole.Nothing
effect_of action.HypervisorColdReset _ = does action.HypervisorColdReset false own.Nothing (whole.Reset mode.Cold)
effect_of action.HypervisorWarmReset _ = does action.HypervisorWarmReset false own.Nothing (whole.Reset mode.Warm)
effect_of action.HypervisorHalt _ = does action.HypervisorHalt false own.Nothing whole.Halt
effect_of action.SwitchToMaintenance _ = does action.SwitchToMaintenance true own.Nothing whole.Maintenance

-- the partition goes on after the instruction that raised the event
abbrev pub PassesOver : Action → Type 0
PassesOver taken =
    (taken ≡ action.Ignore) ⊎ (taken ≡ action.Shutdown) ⊎ (taken ≡ action.Suspend) ⊎ (taken ≡ action.SwitchToMaintenance)
