-- Health events and actions: the number and the name of each, which action may answer which event, and which does where none is named.
use Rattle.std.specs.Prelude.{◌≡◌, ℕ, Bool, true, false, List, [], ◌∷◌, codes, ◌↔◌, Option, Some}
use Rattle.std.specs.List.{find}
use Rattle.std.specs.Str.{bytes_eq}
use Rattle.xm_conf.specs.declared.health.Event.{Event}
use Rattle.xm_conf.specs.declared.health.Event.TheVariants as event
use Rattle.xm_conf.specs.declared.health.Action.{Action}
use Rattle.xm_conf.specs.declared.health.Action.TheVariants as action

-- a row of a table: a number, and the name that texts have for it
pub record Row : Type 0 where
  pub number : ℕ
  pub text : List ℕ

-- the row of a number and a name
abbrev pub row : ℕ → List ℕ → Row
row number text = record { number = number; text = text }

-- the table of the health events
abbrev pub event_row : Event → Row
event_row event.PartitionError = row 0 (codes "XM_HM_EV_PARTITION_ERROR")
event_row event.MemProtection = row 1 (codes "XM_HM_EV_MEM_PROTECTION")
event_row event.UnexpectedTrap = row 2 (codes "XM_HM_EV_UNEXPECTED_TRAP")
event_row event.SparcIllegalInstruction = row 3 (codes "XM_HM_EV_SPARC_ILLEGAL_INSTRUCTION")
event_row event.SparcPrivilegedInstruction = row 4 (codes "XM_HM_EV_SPARC_PRIVILEGED_INSTRUCTION")
event_row event.SparcFpDisabled = row 5 (codes "XM_HM_EV_SPARC_FP_DISABLED")
event_row event.SparcCpDisabled = row 6 (codes "XM_HM_EV_SPARC_CP_DISABLED")
event_row event.SparcAddressNotAligned = row 7 (codes "XM_HM_EV_SPARC_ADDRESS_NOT_ALIGNED")
event_row event.SparcTagOverflow = row 8 (codes "XM_HM_EV_SPARC_TAG_OVERFLOW")
event_row event.SparcDivideException = row 9 (codes "XM_HM_EV_SPARC_DIVIDE_EXCEPTION")
event_row event.SparcInstrAccess = row 10 (codes "XM_HM_EV_SPARC_INSTR_ACCESS")
event_row event.SparcDataAccess = row 11 (codes "XM_HM_EV_SPARC_DATA_ACCESS")

-- the table of the actions
abbrev pub action_row : Action → Row
action_row action.Ignore = row 0 (codes "XM_HM_AC_IGNORE")
action_row action.Shutdown = row 1 (codes "XM_HM_AC_SHUTDOWN")
action_row action.PartitionColdReset = row 2 (codes "XM_HM_AC_PARTITION_COLD_RESET")
action_row action.PartitionWarmReset = row 3 (codes "XM_HM_AC_PARTITION_WARM_RESET")
action_row action.Suspend = row 4 (codes "XM_HM_AC_SUSPEND")
action_row action.Halt = row 5 (codes "XM_HM_AC_HALT")
action_row action.Propagate = row 6 (codes "XM_HM_AC_PROPAGATE")
action_row action.HypervisorColdReset = row 7 (codes "XM_HM_AC_HYPERVISOR_COLD_RESET")
action_row action.HypervisorWarmReset = row 8 (codes "XM_HM_AC_HYPERVISOR_WARM_RESET")
action_row action.HypervisorHalt = row 9 (codes "XM_HM_AC_HYPERVISOR_HALT")
action_row action.SwitchToMaintenance = row 10 (codes "XM_HM_AC_SWITCH_TO_MAINTENANCE")

-- the health events in the order of their numbers
abbrev pub events : List Event
events =
    event.PartitionError ∷ event.MemProtection ∷ event.UnexpectedTrap ∷ event.SparcIllegalInstruction
    ∷ event.SparcPrivilegedInstruction ∷ event.SparcFpDisabled ∷ event.SparcCpDisabled ∷ event.SparcAddressNotAligned
    ∷ event.SparcTagOverflow ∷ event.SparcDivideException ∷ event.SparcInstrAccess ∷ event.SparcDataAccess ∷ []

-- the actions in the order of their numbers
abbrev pub actions : List Action
actions =
    action.Ignore ∷ action.Shutdown ∷ action.PartitionColdReset ∷ action.PartitionWarmReset ∷ action.Suspend ∷ action.Halt
    ∷ action.Propagate ∷ action.HypervisorColdReset ∷ action.HypervisorWarmReset ∷ action.HypervisorHalt
    ∷ action.SwitchToMaintenance ∷ []

-- the event that bytes name, where they name one
abbrev pub event_named : List ℕ → Option Event
event_named bytes = find (λ e. bytes_eq (event_row e).text bytes) events

-- the action that bytes name, where they name one
abbrev pub action_named : List ℕ → Option Action
action_named bytes = find (λ a. bytes_eq (action_row a).text bytes) actions

-- an event is found exactly where the bytes are its name
abbrev pub IsEventNamed : List ℕ → Option Event → Type 0
IsEventNamed bytes found = (e : Event) → (found ≡ Some e) ↔ (bytes ≡ (event_row e).text)

-- an action is found exactly where the bytes are its name
abbrev pub IsActionNamed : List ℕ → Option Action → Type 0
IsActionNamed bytes found = (a : Action) → (found ≡ Some a) ↔ (bytes ≡ (action_row a).text)

-- whether an action is allowed for an event
abbrev pub is_allowed : Event → Action → Bool
is_allowed event.PartitionError action.Propagate = false
is_allowed event.MemProtection action.Propagate = false
is_allowed event.MemProtection action.Ignore = false
is_allowed event.SparcInstrAccess action.Ignore = false
is_allowed _ _ = true

-- the action for an event that nothing answers
abbrev pub default_action : Event → Action
default_action event.PartitionError = action.Halt
default_action event.MemProtection = action.Halt
default_action event.UnexpectedTrap = action.Propagate
default_action event.SparcIllegalInstruction = action.Propagate
default_action event.SparcPrivilegedInstruction = action.Propagate
default_action event.SparcFpDisabled = action.Propagate
default_action event.SparcCpDisabled = action.Propagate
default_action event.SparcAddressNotAligned = action.Propagate
default_action event.SparcTagOverflow = action.Propagate
default_action event.SparcDivideException = action.Propagate
default_action event.SparcInstrAccess = action.Halt
default_action event.SparcDataAccess = action.Halt
