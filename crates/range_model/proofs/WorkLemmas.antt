-- A partition's part of a tick leaves its numbers in their ranges.
use Rattle.std.proofs.Common.{◌≡◌, ℕ, ◌<◌, ◌+◌, Bool, true, false, List, [], ◌∷◌, Option, None, Some, Result, Ok, Err, refl, arith}
use Rattle.std.specs.Prelude.{◌==◌, ◌^◌, if◌then◌else◌, replicate}
use Rattle.std.specs.FinMap.{empty}
use Rattle.std.specs.List.{AllByRecursion}
use Rattle.guest_bus.specs.Memory.{Area, Memory, with_bytes}
use Rattle.guest_memory.specs.Loading.{areas_with_image, with_segments, with_zeros}
use Rattle.health_monitor.specs.Monitor.{action_in, effect_of, event_of_type, is_logged}
use Rattle.health_monitor.specs.declared.effects.Effect.{Effect}
use Rattle.health_monitor.specs.declared.effects.Own.{Own}
use Rattle.health_monitor.specs.declared.effects.Own.TheVariants as own
use Rattle.health_monitor.specs.declared.effects.Whole.{Whole}
use Rattle.health_monitor.specs.declared.effects.Whole.TheVariants as whole
use Rattle.sparc_step.specs.Registers.{advanced}
use Rattle.sparc_step.specs.declared.outcome.Turn.{Turn}
use Rattle.sparc_step.specs.declared.outcome.Turn.TheVariants.{Went, Trap, Call}
use Rattle.virt_clocks.specs.Clocks.{is_due}
use Rattle.virt_traps.specs.Delivery.{Delivered, delivered}
use Rattle.virt_traps.specs.Settled.{settled}
use Rattle.virt_traps.specs.Virtual.{VirtualTraps, due, interrupt_cleared, no_traps, raised}
use Rattle.virt_traps.specs.declared.windows.StackFault.{StackFault}
use Rattle.xef_images.specs.Image.{Image, Segment}
use Rattle.xm_base.specs.Bytes.{AreBytes}
use Rattle.xm_base.specs.declared.partition.Mode.{Mode}
use Rattle.xm_base.specs.declared.partition.Mode.TheVariants.{Cold, Warm}
use Rattle.xm_base.specs.declared.partition.Order.{Order}
use Rattle.xm_base.specs.declared.partition.Order.TheVariants as order
use Rattle.xm_base.specs.declared.partition.State.TheVariants.{Ready}
use Rattle.xm_conf.specs.declared.health.Action.{Action}
use Rattle.xm_conf.specs.declared.health.Event.{Event}
use Rattle.xm_ports.specs.Channels.{Content}
use Rattle.xm_traces.specs.Ring.{nothing_kept}
use Rattle.machine_model.specs.Caller.{Acts, Caller, Meets, Upshot}
use Rattle.machine_model.specs.Health.{Worked, after_delivery, answered_by, by_delivery, by_interrupt, done_to_all, done_to_itself, entered, entered_if, event_handled, interrupt_delivered, is_passed_over, passed_over_if, propagated, quiet, self_ordered, trap_delivered, undelivered}
use Rattle.machine_model.specs.Hypercalls.{served}
use Rattle.machine_model.specs.LocalTick.{LocalTick, bounded, by_act, by_turn, by_upshot, called, clocked, delivered_or_executed, executed_in_tick, goes_on, is_its, local_tick, turned_state, with_interrupts, worked, worked_if}
use Rattle.machine_model.specs.Partition.{PartitionState, applies, areas_of, booted, carried_out, disarmed, execution_looked_at, hardware_looked_at, loaded_memory, memory_after, ordered, raised_if, reset, slot_start}
use Rattle.machine_model.specs.Partition as partition
use Rattle.machine_model.specs.Emission as emission
use Rattle.machine_model.specs.Emission.{Act, Sight}
use Rattle.machine_model.specs.View.{PartitionView}
use Rattle.cue_scripts.specs.Script.{IsOrder}
use Rattle.range_model.specs.Cues.{HasShownBytes}
use Rattle.range_model.specs.Instructions.{IsTrapByte}
use Rattle.range_model.specs.Numbers.{IsByteMemory}
use Rattle.range_model.specs.Ranges.{IsImageInRange, IsPartitionInRange}
use Rattle.range_model.proofs.CallLemmas.{IsActInRange, IsCallerInRange, IsCopyInRange, IsUpshotInRange, IsViewInRange, core_in_range, same_range, served_range}
use Rattle.range_model.proofs.NumberLemmas.{copies_below, empty_bytes, written_bytes}
use Rattle.range_model.proofs.StepLemmas.{advanced_words, started_words}
use Rattle.range_model.proofs.TrapLemmas.{IsDeliveredInRange, delivered_in_range, due_small, settled_in_range}

-- a memory with an image loaded
zeros_bytes : (memory : Memory) (areas : List Area) → IsByteMemory memory → IsByteMemory (with_zeros memory areas)
zeros_bytes memory [] bytes = bytes
zeros_bytes memory (area ∷ areas) bytes =
    zeros_bytes (with_bytes memory area.start (replicate area.size 0)) areas (written_bytes memory area.start (replicate area.size 0) (copies_below 256 area.size 0 (omega arith)) bytes)

segment_bytes : (memory : Memory) (segments : List Segment) → AllByRecursion (λ (segment : Segment). AreBytes segment.bytes) segments → IsByteMemory memory → IsByteMemory (with_segments memory segments)
segment_bytes memory [] each bytes = bytes
segment_bytes memory (segment ∷ segments) each bytes =
    segment_bytes (with_bytes memory segment.address segment.bytes) segments each.1 (written_bytes memory segment.address segment.bytes each.0 bytes)

loaded_bytes : (areas : List Area) (image : Image) → IsImageInRange image → IsByteMemory (areas_with_image areas image)
unfolding areas_with_image
loaded_bytes areas image is = segment_bytes (with_zeros empty areas) image.segments is.bytes (zeros_bytes empty areas empty_bytes)

pub memory_loaded : (view : PartitionView) → IsImageInRange view.image → IsByteMemory (loaded_memory view)
unfolding loaded_memory
memory_loaded view is = loaded_bytes (areas_of view) view.image is

-- a reset
reset_memory : (mode : Mode) (view : PartitionView) (memory : Memory) → IsImageInRange view.image → IsByteMemory memory → IsByteMemory (memory_after mode view memory)
reset_memory Cold view memory is bytes = memory_loaded view is
reset_memory Warm view memory is bytes = bytes

pub reset_range : (view : PartitionView) (mode : Mode) (status : ℕ) (ps : PartitionState) → IsImageInRange view.image → status < 2 ^ 32 → IsPartitionInRange ps → IsPartitionInRange (reset view mode status ps)
unfolding no_traps reset
reset_range view mode status ps is small has = record {
  core = started_words view.image.entry is.entry;
  memory = reset_memory mode view ps.memory is has.memory;
  table = omega arith;
  status = small;
  traces = has.traces;
}

pub booted_range : (view : PartitionView) → IsImageInRange view.image → IsPartitionInRange (booted view)
unfolding booted no_traps nothing_kept
booted_range view is = record {
  core = started_words view.image.entry is.entry;
  memory = memory_loaded view is;
  table = omega arith;
  status = omega arith;
  traces = tt;
}

-- an order
carried_range : (view : PartitionView) (an_order : Order) (ps : PartitionState) → IsImageInRange view.image → IsOrder (Some an_order) → IsPartitionInRange ps → IsPartitionInRange (carried_out view an_order ps)
unfolding disarmed raised
carried_range view order.Halt ps is small has = same_range ps (carried_out view order.Halt ps) refl refl refl refl refl has
carried_range view order.Suspend ps is small has = same_range ps (carried_out view order.Suspend ps) refl refl refl refl refl has
carried_range view order.Resume ps is small has = same_range ps (carried_out view order.Resume ps) refl refl refl refl refl has
carried_range view order.Shutdown ps is small has = same_range ps (carried_out view order.Shutdown ps) refl refl refl refl refl has
carried_range view (order.Reset mode status) ps is small has = reset_range view mode status ps is small has

pub ordered_range : (view : PartitionView) (an_order : Order) (ps : PartitionState) → IsImageInRange view.image → IsOrder (Some an_order) → IsPartitionInRange ps → IsPartitionInRange (ordered view an_order ps)
unfolding ordered
ordered_range view an_order ps is small has = at (applies an_order ps.state)
  where
    at : (b : Bool) → IsPartitionInRange (if b then carried_out view an_order ps else ps)
    at true = carried_range view an_order ps is small has
    at false = has

-- the work of a tick leaves a partition and an act in range
pub record IsWorkInRange (w : Worked) : Type 0 where
  pub after : IsPartitionInRange w.after
  pub act : IsActInRange w.act

quiet_range : (ps : PartitionState) → IsPartitionInRange ps → IsWorkInRange (quiet ps)
quiet_range ps has = record { after = has; act = tt }

self_range : (view : PartitionView) (an_order : Order) (ps : PartitionState) → IsImageInRange view.image → IsOrder (Some an_order) → IsPartitionInRange ps → IsWorkInRange (self_ordered view an_order ps)
unfolding self_ordered
self_range view an_order ps is small has = record { after = ordered_range view an_order ps is small has; act = tt }

entered_range : (time : ℕ) (an_event : Event) (word : ℕ) (an_action : Action) (ps : PartitionState) → IsPartitionInRange ps → IsPartitionInRange (entered time an_event word an_action ps)
unfolding entered
entered_range time an_event word an_action ps has = same_range ps (entered time an_event word an_action ps) refl refl refl refl refl has

entered_if_range : (b : Bool) (time : ℕ) (an_event : Event) (word : ℕ) (an_action : Action) (ps : PartitionState) → IsPartitionInRange ps → IsPartitionInRange (entered_if b time an_event word an_action ps)
entered_if_range true time an_event word an_action ps has = entered_range time an_event word an_action ps has
entered_if_range false time an_event word an_action ps has = has

undelivered_range : (view : PartitionView) (time : ℕ) (ps : PartitionState) → IsImageInRange view.image → IsPartitionInRange ps → IsWorkInRange (undelivered view time ps)
unfolding undelivered
undelivered_range view time ps is has = record {
  after = ordered_range view order.Halt _ is tt (entered_range time _ ps.core.pc _ ps has);
  act = tt;
}

-- a delivery
delivery_range : (answer : Result (Unit {0}) StackFault) (view : PartitionView) (time : ℕ) (d : Delivered) (ps : PartitionState) → IsImageInRange view.image → IsDeliveredInRange d ps.traps → IsPartitionInRange ps
    → IsWorkInRange (by_delivery answer view time d ps)
delivery_range (Ok made) view time d ps is delivery has = quiet_range (after_delivery d ps) (core_in_range ps (after_delivery d ps) delivery.core delivery.memory delivery.base refl refl has)
delivery_range (Err fault) view time d ps is delivery has = undelivered_range view time ps is has

trap_range : (view : PartitionView) (time type : ℕ) (ps : PartitionState) → type < 256 → IsImageInRange view.image → IsPartitionInRange ps → IsWorkInRange (trap_delivered view time type ps)
unfolding trap_delivered
trap_range view time type ps byte is has =
    let d = delivered (areas_of view) ps.traps ps.core ps.memory type in
    delivery_range d.answer view time d ps is (delivered_in_range (areas_of view) ps.traps ps.core ps.memory type has.table byte has.core has.memory) has

interrupt_range : (answer : Result (Unit {0}) StackFault) (view : PartitionView) (time n : ℕ) (d : Delivered) (ps : PartitionState) → IsImageInRange view.image → IsDeliveredInRange d ps.traps → IsPartitionInRange ps
    → IsWorkInRange (by_interrupt answer view time n d ps)
unfolding interrupt_cleared
interrupt_range (Ok made) view time n d ps is delivery has =
    quiet_range (after_delivery (record d { traps = interrupt_cleared n d.traps }) ps)
    (core_in_range ps (after_delivery (record d { traps = interrupt_cleared n d.traps }) ps) delivery.core delivery.memory delivery.base refl refl has)
interrupt_range (Err fault) view time n d ps is delivery has = undelivered_range view time ps is has

interrupt_delivered_range : (view : PartitionView) (time n : ℕ) (ps : PartitionState) → n < 32 → IsImageInRange view.image → IsPartitionInRange ps → IsWorkInRange (interrupt_delivered view time n ps)
unfolding interrupt_delivered
interrupt_delivered_range view time n ps small is has =
    let d = delivered (areas_of view) ps.traps ps.core ps.memory (0xE0 + n) in
    interrupt_range d.answer view time n d ps is (delivered_in_range (areas_of view) ps.traps ps.core ps.memory (0xE0 + n) has.table (omega (arith, small)) has.core has.memory) has

-- a trap that goes on to the partition has a type of one byte
abbrev IsTypeInRange : Option ℕ → Type 0
IsTypeInRange None = Unit {0}
IsTypeInRange (Some type) = type < 256

propagated_range : (view : PartitionView) (time : ℕ) (type : Option ℕ) (ps : PartitionState) → IsTypeInRange type → IsImageInRange view.image → IsPartitionInRange ps → IsWorkInRange (propagated view time type ps)
propagated_range view time None ps byte is has = quiet_range ps has
propagated_range view time (Some type) ps byte is has = trap_range view time type ps byte is has

own_range : (view : PartitionView) (time : ℕ) (type : Option ℕ) (own_effect : Own) (ps : PartitionState) → IsTypeInRange type → IsImageInRange view.image → IsPartitionInRange ps
    → IsWorkInRange (done_to_itself view time type own_effect ps)
unfolding raised
own_range view time type own.Nothing ps byte is has = quiet_range ps has
own_range view time type own.Shutdown ps byte is has = quiet_range _ (same_range ps _ refl refl refl refl refl has)
own_range view time type (own.Reset mode) ps byte is has = self_range view (order.Reset mode 0) ps is (omega arith) has
own_range view time type own.Suspend ps byte is has = self_range view order.Suspend ps is tt has
own_range view time type own.Halt ps byte is has = self_range view order.Halt ps is tt has
own_range view time type own.Propagate ps byte is has = propagated_range view time type ps byte is has

passed_range : (b : Bool) (ps : PartitionState) → IsPartitionInRange ps → IsPartitionInRange (passed_over_if b ps)
passed_range true ps has = core_in_range ps (record ps { core = advanced ps.core }) (advanced_words ps.core has.core) has.memory refl refl refl has
passed_range false ps has = has

all_acts : (effect : Whole) → IsActInRange (done_to_all effect)
all_acts whole.Nothing = tt
all_acts (whole.Reset mode) = tt
all_acts whole.Halt = tt
all_acts whole.Maintenance = tt

event_range : (view : PartitionView) (time : ℕ) (an_event : Event) (word : ℕ) (type : Option ℕ) (ps : PartitionState) → IsTypeInRange type → IsImageInRange view.image → IsPartitionInRange ps
    → IsWorkInRange (event_handled view time an_event word type ps)
unfolding answered_by event_handled
event_range view time an_event word type ps byte is has =
    let effect : Effect = effect_of (action_in view.part.hm an_event) ps.traps.enabled in
    let noted_state : PartitionState = entered_if (is_logged view.part.hm an_event) time an_event word effect.action ps in
    let passed : PartitionState = passed_over_if (is_passed_over an_event effect) noted_state in
    record {
      after = (own_range view time type effect.own passed byte is
          (passed_range (is_passed_over an_event effect) noted_state (entered_if_range (is_logged view.part.hm an_event) time an_event word effect.action ps has))).after;
      act = all_acts effect.whole;
    }

-- the outcome of a call
act_range : (act : Act) (view : PartitionView) (ps : PartitionState) → IsActInRange act → IsImageInRange view.image → IsPartitionInRange ps → IsWorkInRange (by_act act view ps)
act_range emission.Nothing view ps small is has = quiet_range ps has
act_range (emission.Trades traffic) view ps small is has = record { after = has; act = small }
act_range (emission.Upon id an_order) view ps small is has = at (id == view.id)
  where
    at : (b : Bool) → IsWorkInRange (if b then self_ordered view an_order ps else record (quiet ps) { act = emission.Upon id an_order })
    at true = self_range view an_order ps is small has
    at false = record { after = has; act = small }
act_range (emission.Plans change) view ps small is has = record { after = has; act = tt }
act_range (emission.UponAll event) view ps small is has = record { after = has; act = tt }

upshot_range : (upshot : Upshot) (view : PartitionView) (time : ℕ) (ps : PartitionState) → IsUpshotInRange upshot → IsImageInRange view.image → IsPartitionInRange ps → IsWorkInRange (by_upshot upshot view time ps)
upshot_range (Acts act) view time ps small is has = act_range act view ps small is has
upshot_range (Meets event word) view time ps small is has = event_range view time event word None ps tt is has

clocked_range : (ps : PartitionState) → IsPartitionInRange ps → IsPartitionInRange (clocked ps)
unfolding clocked
clocked_range ps has = same_range ps (clocked ps) refl refl refl refl refl has

called_range : (caller : Caller) → IsCallerInRange caller → IsWorkInRange (called caller)
unfolding called
called_range caller has =
    let s = served_range caller has in
    let w = upshot_range (served caller).upshot caller.view caller.time (clocked (served caller).after) s.upshot has.view.image (clocked_range (served caller).after s.after) in
    record { after = w.after; act = w.act }

-- an instruction
turn_range : (turn : Turn) (view : PartitionView) (contents : List (Option Content)) (time : ℕ) (sight : Sight) (before ps : PartitionState) → IsTrapByte turn → IsViewInRange view
    → AllByRecursion IsCopyInRange contents → HasShownBytes sight → IsPartitionInRange before → IsPartitionInRange ps → IsWorkInRange (by_turn turn view contents time sight before ps)
turn_range Went view contents time sight before ps byte is copies shown first has = quiet_range (clocked ps) (clocked_range ps has)
turn_range (Trap type) view contents time sight before ps byte is copies shown first has =
    event_range view time (event_of_type type) before.core.pc (Some type) (clocked ps) byte is.image (clocked_range ps has)
turn_range Call view contents time sight before ps byte is copies shown first has =
    called_range (record { view = view; state = ps; contents = contents; time = time; sight = sight; pc = before.core.pc; npc = before.core.npc })
    (record { view = is; state = has; contents = copies; sight = shown; pc = first.core.pc; npc = first.core.npc })

executed_range : (view : PartitionView) (contents : List (Option Content)) (time : ℕ) (sight : Sight) (ps : PartitionState) → IsViewInRange view → AllByRecursion IsCopyInRange contents → HasShownBytes sight
    → IsPartitionInRange ps → IsWorkInRange (executed_in_tick view contents time sight ps)
unfolding executed_in_tick
executed_range view contents time sight ps is copies shown has =
    let t = settled (areas_of view) ps.core ps.memory in
    let turned = settled_in_range (areas_of view) ps.core ps.memory has.core has.memory in
    turn_range t.turn view contents time sight ps (turned_state t ps) turned.turn is copies shown has (core_in_range ps (turned_state t ps) turned.core turned.memory refl refl refl has)

delivered_range : (o : Option ℕ) (enabled : Bool) (view : PartitionView) (contents : List (Option Content)) (time : ℕ) (sight : Sight) (ps : PartitionState) → ((n : ℕ) → o ≡ Some n → n < 32) → IsViewInRange view
    → AllByRecursion IsCopyInRange contents → HasShownBytes sight → IsPartitionInRange ps → IsWorkInRange (delivered_or_executed o enabled view contents time sight ps)
delivered_range None enabled view contents time sight ps small is copies shown has = executed_range view contents time sight ps is copies shown has
delivered_range (Some n) true view contents time sight ps small is copies shown has = interrupt_delivered_range view time n (clocked ps) (small n refl) is.image (clocked_range ps has)
delivered_range (Some n) false view contents time sight ps small is copies shown has = executed_range view contents time sight ps is copies shown has

going_range : (b : Bool) (view : PartitionView) (contents : List (Option Content)) (time : ℕ) (sight : Sight) (ps : PartitionState) → IsViewInRange view → AllByRecursion IsCopyInRange contents → HasShownBytes sight
    → IsPartitionInRange ps → IsWorkInRange (worked_if b view contents time sight ps)
going_range false view contents time sight ps is copies shown has = quiet_range ps has
going_range true view contents time sight ps is copies shown has =
    delivered_range (due ps.traps) ps.traps.enabled view contents time sight (record ps { state = Ready }) (λ n its. due_small n ps.traps its) is copies shown
    (same_range ps (record ps { state = Ready }) refl refl refl refl refl has)

-- interrupts leave the table of traps where it is
raised_base : (b : Bool) (n : ℕ) (v : VirtualTraps) → (raised_if b n v).base ≡ v.base
unfolding raised
raised_base true n v = refl
raised_base false n v = refl

pub looked_range : (time : ℕ) (ps : PartitionState) → IsPartitionInRange ps → IsPartitionInRange (hardware_looked_at time ps)
unfolding hardware_looked_at
looked_range time ps has = same_range ps (hardware_looked_at time ps) refl refl (raised_base (is_due time ps.clocks.hardware_timer) partition.hardware_timer ps.traps) refl refl has

execution_range : (ps : PartitionState) → IsPartitionInRange ps → IsPartitionInRange (execution_looked_at ps)
unfolding execution_looked_at
execution_range ps has = same_range ps (execution_looked_at ps) refl refl (raised_base (is_due ps.clocks.execution ps.clocks.execution_timer) partition.execution_timer ps.traps) refl refl has

ready_range : (time : ℕ) (first : Bool) (ps : PartitionState) → IsPartitionInRange ps → IsPartitionInRange (with_interrupts time first ps)
unfolding with_interrupts
ready_range time first ps has =
    execution_range (hardware_looked_at time (record ps { traps = raised_if first slot_start ps.traps }))
    (looked_range time (record ps { traps = raised_if first slot_start ps.traps })
    (same_range ps (record ps { traps = raised_if first slot_start ps.traps }) refl refl (raised_base first slot_start ps.traps) refl refl has))

work_range : (view : PartitionView) (contents : List (Option Content)) (time : ℕ) (first : Bool) (sight : Sight) (ps : PartitionState) → IsViewInRange view → AllByRecursion IsCopyInRange contents → HasShownBytes sight
    → IsPartitionInRange ps → IsWorkInRange (worked view contents time first sight ps)
unfolding worked
work_range view contents time first sight ps is copies shown has =
    let ready = with_interrupts time first ps in
    going_range (goes_on ready.state first (due ready.traps)) view contents time sight ready is copies shown (ready_range time first ps has)

-- the act, as the rest of the system sees it
bounded_range : (view : PartitionView) (act : Act) → IsActInRange act → IsActInRange (bounded view act)
bounded_range view emission.Nothing is = tt
bounded_range view (emission.Trades traffic) is = at (is_its view traffic)
  where
    at : (b : Bool) → IsActInRange (if b then emission.Trades traffic else emission.Nothing)
    at true = is
    at false = tt
bounded_range view (emission.Upon id an_order) is = at (id == view.id)
  where
    at : (b : Bool) → IsActInRange (if b then emission.Nothing else emission.Upon id an_order)
    at true = tt
    at false = is
bounded_range view (emission.Plans change) is = tt
bounded_range view (emission.UponAll event) is = tt

-- what a partition's part of a tick leaves is in range
pub record IsLocalInRange (tick : LocalTick) : Type 0 where
  pub after : IsPartitionInRange tick.after
  pub act : IsActInRange tick.act

pub local_range : (view : PartitionView) (ps : PartitionState) (contents : List (Option Content)) (n time : ℕ) (first : Bool) (sight : Sight) → IsViewInRange view → AllByRecursion IsCopyInRange contents → HasShownBytes sight
    → IsPartitionInRange ps → IsLocalInRange (local_tick view ps contents n time first sight)
unfolding local_tick
local_range view ps contents n time first sight is copies shown has =
    let w = work_range view contents time first sight ps is copies shown has in
    record { after = w.after; act = bounded_range view (worked view contents time first sight ps).act w.act }
