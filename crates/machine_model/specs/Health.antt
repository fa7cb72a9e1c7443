-- The outcome of a partition's health events.
use Rattle.std.specs.Prelude.{ℕ, ◌+◌, ◌==◌, ◌&&◌, not, Bool, true, false, List, [], ◌∷◌, ◌++◌, Option, Some, None, Result, Ok, Err}
use Rattle.sparc_step.specs.Registers.{advanced}
use Rattle.virt_traps.specs.Delivery.{Delivered, delivered}
use Rattle.virt_traps.specs.Virtual.{interrupt_cleared, raised}
use Rattle.virt_traps.specs.declared.windows.StackFault.{StackFault}
use Rattle.xm_base.specs.declared.partition.Order.{Order}
use Rattle.xm_base.specs.declared.partition.Order.TheVariants as order
use Rattle.xm_conf.specs.Health.{event_row}
use Rattle.xm_conf.specs.declared.health.Action.{Action}
use Rattle.xm_conf.specs.declared.health.Action.TheVariants as action
use Rattle.xm_conf.specs.declared.health.Event.{Event}
use Rattle.xm_conf.specs.declared.health.Event.TheVariants as event
use Rattle.xm_traces.specs.Ring.{noted}
use Rattle.health_monitor.specs.Monitor.{action_in, effect_of, is_logged}
use Rattle.health_monitor.specs.declared.effects.Effect.{Effect}
use Rattle.health_monitor.specs.declared.effects.Own.{Own}
use Rattle.health_monitor.specs.declared.effects.Own.TheVariants as own
use Rattle.health_monitor.specs.declared.effects.Whole.{Whole}
use Rattle.health_monitor.specs.declared.effects.Whole.TheVariants as whole
use Rattle.machine_model.specs.Partition.{PartitionState, areas_of, ordered, ordered_emissions, shutdown}
use Rattle.machine_model.specs.Emission.{Act, AllHalted, AllReset, Health, Maintenance, Nothing, Plans, Emission, UponAll}
use Rattle.machine_model.specs.View.{PartitionView}

-- the outcome of a partition's part of a tick
pub record Worked : Type 0 where
  pub after : PartitionState
  pub emitted : List Emission
  pub act : Act

-- a tick that reported nothing and did not reach beyond the partition
abbrev pub quiet : PartitionState → Worked
quiet ps = record { after = ps; emitted = []; act = Nothing }

-- a partition that entered an event in its health log
unfoldable pub entered : ℕ → Event → ℕ → Action → PartitionState → PartitionState
entered time an_event word an_action ps = record ps {
  health = noted (record { time = time; seq = ps.health.next; event = an_event; action = an_action; word = word }) ps.health;
}

-- the event is entered and emitted where it is logged
abbrev pub entered_if : Bool → ℕ → Event → ℕ → Action → PartitionState → PartitionState
entered_if true time an_event word an_action ps = entered time an_event word an_action ps
entered_if false time an_event word an_action ps = ps

abbrev pub entered_emissions : Bool → Event → ℕ → Action → List Emission
entered_emissions true an_event word an_action = Health an_event word an_action ∷ []
entered_emissions false an_event word an_action = []

-- an order on oneself
unfoldable pub self_ordered : PartitionView → Order → PartitionState → Worked
self_ordered view an_order ps = record { after = ordered view an_order ps; emitted = ordered_emissions an_order ps; act = Nothing }

-- a trap or an interrupt that could not be delivered: it is logged and emitted whatever the log flags say, and the partition halts
unfoldable pub undelivered : PartitionView → ℕ → PartitionState → Worked
undelivered view time ps = record {
  after = ordered view order.Halt (entered time event.MemProtection ps.core.pc action.Halt ps);
  emitted = Health event.MemProtection ps.core.pc action.Halt ∷ ordered_emissions order.Halt ps;
  act = Nothing;
}

-- the partition after a delivery
abbrev pub after_delivery : Delivered → PartitionState → PartitionState
after_delivery d ps = record ps { core = d.core; memory = d.memory; traps = d.traps }

-- a delivery that was made or refused
abbrev pub by_delivery : Result (Unit {0}) StackFault → PartitionView → ℕ → Delivered → PartitionState → Worked
by_delivery (Ok made) view time d ps = quiet (after_delivery d ps)
by_delivery (Err fault) view time d ps = undelivered view time ps

-- a trap is delivered to the partition
unfoldable pub trap_delivered : PartitionView → ℕ → ℕ → PartitionState → Worked
trap_delivered view time type ps =
    let d = delivered (areas_of view) ps.traps ps.core ps.memory type in
    by_delivery d.answer view time d ps

-- the delivery of an interrupt clears its pending bit; one that could not be delivered stays pending
abbrev pub by_interrupt : Result (Unit {0}) StackFault → PartitionView → ℕ → ℕ → Delivered → PartitionState → Worked
by_interrupt (Ok made) view time n d ps = quiet (after_delivery (record d { traps = interrupt_cleared n d.traps }) ps)
by_interrupt (Err fault) view time n d ps = undelivered view time ps

-- an interrupt is delivered to the partition; its trap type is 0xE0 and its number
unfoldable pub interrupt_delivered : PartitionView → ℕ → ℕ → PartitionState → Worked
interrupt_delivered view time n ps =
    let d = delivered (areas_of view) ps.traps ps.core ps.memory (0xE0 + n) in
    by_interrupt d.answer view time n d ps

-- the trap that goes on to the partition, where the event was a trap
abbrev pub propagated : PartitionView → ℕ → Option ℕ → PartitionState → Worked
propagated view time None ps = quiet ps
propagated view time (Some type) ps = trap_delivered view time type ps

-- what an action does to the partition itself
abbrev pub done_to_itself : PartitionView → ℕ → Option ℕ → Own → PartitionState → Worked
done_to_itself view time type own.Nothing ps = quiet ps
done_to_itself view time type own.Shutdown ps = quiet (record ps { traps = raised shutdown ps.traps })
done_to_itself view time type (own.Reset mode) ps = self_ordered view (order.Reset mode 0) ps
done_to_itself view time type own.Suspend ps = self_ordered view order.Suspend ps
done_to_itself view time type own.Halt ps = self_ordered view order.Halt ps
done_to_itself view time type own.Propagate ps = propagated view time type ps

-- what an action does to the whole system
abbrev pub done_to_all : Whole → Act
done_to_all whole.Nothing = Nothing
done_to_all (whole.Reset mode) = UponAll (AllReset mode)
done_to_all whole.Halt = UponAll AllHalted
done_to_all whole.Maintenance = Plans Maintenance

-- whether a partition raised the event itself, by call 27: it is the event of number 0
abbrev pub is_raised : Event → Bool
is_raised an_event = (event_row an_event).number == 0

-- whether the program counter is moved past the instruction: after a raised event it has moved already
abbrev pub is_passed_over : Event → Effect → Bool
is_passed_over an_event effect = not (is_raised an_event) && effect.pass

-- the partition past the instruction that it was at
abbrev pub passed_over_if : Bool → PartitionState → PartitionState
passed_over_if true ps = record ps { core = advanced ps.core }
passed_over_if false ps = ps

-- what was emitted before, and the outcome of a part of the tick
abbrev pub after_emitting : List Emission → Act → Worked → Worked
after_emitting emitted act w = record w { emitted = emitted ++ w.emitted; act = act }

-- an event with its effect: it is entered and emitted, then passed over, then answered
unfoldable pub answered_by : PartitionView → ℕ → Event → ℕ → Option ℕ → Effect → PartitionState → Worked
answered_by view time an_event word type effect ps =
    let logged = is_logged view.part.hm an_event in
    let logged_state = entered_if logged time an_event word effect.action ps in
    let passed = passed_over_if (is_passed_over an_event effect) logged_state in
    after_emitting (entered_emissions logged an_event word effect.action) (done_to_all effect.whole) (done_to_itself view time type effect.own passed)

-- a health event with its word, and the trap type where it is a trap's: the partition's health table says what is done
unfoldable pub event_handled : PartitionView → ℕ → Event → ℕ → Option ℕ → PartitionState → Worked
event_handled view time an_event word type ps =
    answered_by view time an_event word type (effect_of (action_in view.part.hm an_event) ps.traps.enabled) ps
