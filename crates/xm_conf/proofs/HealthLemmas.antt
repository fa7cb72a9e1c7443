-- The names of health events and actions are found exactly.
use Rattle.std.specs.Prelude.{◌≡◌, ℕ, Bool, true, false, if◌then◌else◌, List, [], ◌∷◌, Some, IfSome}
use Rattle.std.specs.List.{find}
use Rattle.std.specs.Str.{bytes_eq}
use Rattle.std.proofs.Common.{refl, sym}
use Rattle.std.proofs.lemmas.Slice.Eq.{bytes_eq-Decides}
use Rattle.xm_conf.specs.Health.{IsActionNamed, IsEventNamed, action_named, action_row, actions, event_named, event_row, events}
use Rattle.xm_conf.specs.declared.health.Event.{Event}
use Rattle.xm_conf.specs.declared.health.Event.TheVariants as event
use Rattle.xm_conf.specs.declared.health.Action.{Action}
use Rattle.xm_conf.specs.declared.health.Action.TheVariants as action

-- what is found passes the test
pub find_passes : {X : Type 0} (p : X → Bool) (xs : List X) → IfSome (find p xs) (λ x. p x ≡ true)
find_passes p [] = tt
find_passes p (y ∷ ys) = at (p y) refl (find_passes p ys)
  where
    at : (b : Bool) → p y ≡ b → IfSome (find p ys) (λ x. p x ≡ true) → IfSome (if b then Some y else find p ys) (λ x. p x ≡ true)
    at true h later = h
    at false h later = later

-- the event with a name is found by it
pub event_named-text : (e : Event) → event_named (event_row e).text ≡ Some e
event_named-text event.PartitionError = refl
event_named-text event.MemProtection = refl
event_named-text event.UnexpectedTrap = refl
event_named-text event.SparcIllegalInstruction = refl
event_named-text event.SparcPrivilegedInstruction = refl
event_named-text event.SparcFpDisabled = refl
event_named-text event.SparcCpDisabled = refl
event_named-text event.SparcAddressNotAligned = refl
event_named-text event.SparcTagOverflow = refl
event_named-text event.SparcDivideException = refl
event_named-text event.SparcInstrAccess = refl
event_named-text event.SparcDataAccess = refl

-- an event is found exactly where the bytes are its name
pub event_named-exact : (bytes : List ℕ) → IsEventNamed bytes (event_named bytes)
event_named-exact bytes e = (
  λ found. sym ((bytes_eq-Decides (event_row e).text bytes).0 (rw found at (find_passes (λ e. bytes_eq (event_row e).text bytes) events))),
  λ named. rw named (event_named-text e),
)

-- the action with a name is found by it
pub action_named-text : (a : Action) → action_named (action_row a).text ≡ Some a
action_named-text action.Ignore = refl
action_named-text action.Shutdown = refl
action_named-text action.PartitionColdReset = refl
action_named-text action.PartitionWarmReset = refl
action_named-text action.Suspend = refl
action_named-text action.Halt = refl
action_named-text action.Propagate = refl
action_named-text action.HypervisorColdReset = refl
action_named-text action.HypervisorWarmReset = refl
action_named-text action.HypervisorHalt = refl
action_named-text action.SwitchToMaintenance = refl

-- an action is found exactly where the bytes are its name
pub action_named-exact : (bytes : List ℕ) → IsActionNamed bytes (action_named bytes)
action_named-exact bytes a = (
  λ found. sym ((bytes_eq-Decides (action_row a).text bytes).0 (rw found at (find_passes (λ a. bytes_eq (action_row a).text bytes) actions))),
  λ named. rw named (action_named-text a),
)
