-- How slots and partitions were used: figures of ticks.
use Rattle.std.specs.Prelude.{◌≡◌, ℕ, ◌+◌, ◌^◌, ◌≤◌, ◌==◌, ◌&&◌, not, nat_le, min, max, zero, suc, Bool, true, false, if◌then◌else◌, List, [], ◌∷◌, ◌++◌, length, map, filter, Option, Some, None, slice_get}
use Rattle.std.specs.Int.{bit_at}
use Rattle.std.specs.List.{flat_map, list_any}
use Rattle.cyclic_plans.specs.PlanClock.{here}
use Rattle.cyclic_plans.specs.declared.slots.Here.{Here}
use Rattle.guest_bus.specs.Memory.{is_writable}
use Rattle.sparc_step.specs.Registers.{register_at}
use Rattle.xm_base.specs.declared.partition.State.{State}
use Rattle.xm_base.specs.declared.partition.State.TheVariants.{Ready, Idle, Suspended, Halted}
use Rattle.machine_model.specs.Alone.{Alone}
use Rattle.machine_model.specs.Calls.{call_of}
use Rattle.machine_model.specs.declared.numbers.Call.{Call as HyperCall}
use Rattle.machine_model.specs.Cue.{Away, CueSlot, Mine}
use Rattle.machine_model.specs.Laws.{alone_part_at}
use Rattle.machine_model.specs.Lists.{table}
use Rattle.machine_model.specs.LocalTick.{with_interrupts}
use Rattle.machine_model.specs.Machine.{Machine, step}
use Rattle.machine_model.specs.Partition.{PartitionState, areas_of}
use Rattle.machine_model.specs.Structures.{flag}
use Rattle.machine_model.specs.View.{PartitionView, view_of}
use Rattle.upset_model.specs.Upsets.{Schedule, later, own_strikes, ready, upset_run, upset_script}
use Rattle.continuation_laws.specs.Continued.{from_tick}
use Rattle.run_records.specs.Calls.{CallLine, CallMade, HealthMet, InterruptTaken, StateMoved, TrapMet, call_lines}
use Rattle.run_records.specs.Counts.{busy}
use Rattle.run_records.specs.Doing.{Delivers, Doing, Executes, Rests, doing}
use Rattle.run_records.specs.Executed.{executed, is_busy}
use Rattle.run_records.specs.OwnTicks.{OwnTick, alone_ticks, own_tick, own_ticks}

-- some numbers in figures: how many they are, the least, their sum, and the greatest; the mean is the sum by how many they are
pub record Figures : Type 0 where
  pub count : ℕ
  pub least : ℕ
  pub sum : ℕ
  pub most : ℕ

-- the figures of no number, and those of one number more
abbrev pub no_figures : Figures
no_figures = record { count = 0; least = 0; sum = 0; most = 0 }

abbrev pub with_number : ℕ → Figures → Figures
with_number n f = record {
  count = f.count + 1;
  least = if f.count == 0 then n else min n f.least;
  sum = n + f.sum;
  most = max n f.most;
}

abbrev pub figures_of : List ℕ → Figures
figures_of [] = no_figures
figures_of (n ∷ numbers) = with_number n (figures_of numbers)

-- Slots.

-- a tick of a slot: its plan, its number in it and its partition, whether the slot begins with the tick, whether the partition does something in it, and
-- whether the partition is ready after it, so that it has more to do
pub record SlotTick : Type 0 where
  pub plan : ℕ
  pub slot : ℕ
  pub part : ℕ
  pub first : Bool
  pub busy : Bool
  pub ready : Bool

-- whether a partition is ready
abbrev pub is_ready : State → Bool
is_ready Ready = true
is_ready Idle = false
is_ready Suspended = false
is_ready Halted = false

abbrev pub is_ready_part : Option PartitionState → Bool
is_ready_part None = false
is_ready_part (Some ps) = is_ready ps.state

-- the tick to which the machine comes, where it is one of a slot
abbrev pub tick_of_slot : Machine → Option Here → List SlotTick
tick_of_slot g None = []
tick_of_slot g (Some h) = record {
  plan = g.clock.plan;
  slot = h.slot;
  part = h.part;
  first = h.first;
  busy = list_any is_busy (own_tick g h.part);
  ready = is_ready_part (slice_get (step g).parts h.part);
} ∷ []

unfoldable pub slot_tick : Machine → List SlotTick
slot_tick g = tick_of_slot g (here g.system.conf g.clock g.time)

-- the ticks of slots in a run of this many ticks with upsets
abbrev pub slot_ticks_unless : Bool → List SlotTick → List SlotTick
slot_ticks_unless true ticks = []
slot_ticks_unless false ticks = ticks

abbrev pub slot_ticks : Schedule → Machine → ℕ → List SlotTick
slot_ticks s g zero = []
slot_ticks s g (suc count) = slot_ticks_unless g.halted (slot_tick (ready (s 0) g) ++ slot_ticks (later s) (step (ready (s 0) g)) count)

-- more ticks are the first of them, and then those after them
abbrev pub SlotTicksInPieces : Type 0
SlotTicksInPieces = (j k : ℕ) (s : Schedule) (g : Machine) → slot_ticks s g (j + k) ≡ slot_ticks s g j ++ slot_ticks (from_tick j s) (upset_run s g j) k

-- the ticks of the slots of partition p, in which it does something
abbrev pub busy_slot_ticks : ℕ → List SlotTick → List SlotTick
busy_slot_ticks p ticks = filter (λ (tick : SlotTick). tick.part == p && tick.busy) ticks

-- they are as many as the ticks in which it does something: it does nothing outside its slots
abbrev pub SlotsHaveBusyTicks : Type 0
SlotsHaveBusyTicks = (count : ℕ) (s : Schedule) (g : Machine) (p : ℕ) → length (busy_slot_ticks p (slot_ticks s g count)) ≡ length (busy (own_ticks s g p count))

-- one occurrence of a slot: how many ticks of it were done, in how many of them its partition did something, and whether it did something in the last of them
-- and had more to do
pub record Occurrence : Type 0 where
  pub plan : ℕ
  pub slot : ℕ
  pub ticks : ℕ
  pub busy : ℕ
  pub unfinished : Bool

abbrev pub occurrence_of_tick : SlotTick → Occurrence
occurrence_of_tick tick = record { plan = tick.plan; slot = tick.slot; ticks = 1; busy = flag tick.busy; unfinished = tick.busy && tick.ready }

-- whether a tick goes on with an occurrence: it is of the same slot, and the slot does not begin with it
abbrev pub goes_on_with : Occurrence → SlotTick → Bool
goes_on_with occurrence tick = (tick.plan == occurrence.plan) && (tick.slot == occurrence.slot) && not tick.first

abbrev pub with_tick : SlotTick → Occurrence → Occurrence
with_tick tick occurrence = record occurrence { ticks = occurrence.ticks + 1; busy = occurrence.busy + flag tick.busy; unfinished = tick.busy && tick.ready }

-- the occurrences of ticks, where one has begun
abbrev pub occurrences_from : Occurrence → List SlotTick → List Occurrence
occurrences_from occurrence [] = occurrence ∷ []
occurrences_from occurrence (tick ∷ ticks) =
    if goes_on_with occurrence tick then occurrences_from (with_tick tick occurrence) ticks else occurrence ∷ occurrences_from (occurrence_of_tick tick) ticks

abbrev pub occurrences : List SlotTick → List Occurrence
occurrences [] = []
occurrences (tick ∷ ticks) = occurrences_from (occurrence_of_tick tick) ticks

-- the occurrences of a plan's slot
abbrev pub occurrences_of : ℕ → ℕ → List SlotTick → List Occurrence
occurrences_of plan slot ticks = filter (λ occurrence. occurrence.plan == plan && occurrence.slot == slot) (occurrences ticks)

-- how a slot was used: the figures of the ticks in which its partition did something, one number for each frame in which the slot ran; and in how many of
-- them the partition was still busy at the slot's end. An occurrence of fewer ticks than the slot has was cut, by the end of the run, a hypervisor event or the
-- maintenance plan, and is no overrun
pub record SlotUse : Type 0 where
  pub busy : Figures
  pub overruns : ℕ

-- an occurrence is an overrun where it has all ticks of its slot, and the partition has not finished
abbrev pub is_overrun : ℕ → Occurrence → Bool
is_overrun duration occurrence = occurrence.ticks == duration && occurrence.unfinished

unfoldable pub slot_use : ℕ → ℕ → ℕ → List SlotTick → SlotUse
slot_use plan slot duration ticks = record {
  busy = figures_of (map (λ (occurrence : Occurrence). occurrence.busy) (occurrences_of plan slot ticks));
  overruns = length (filter (is_overrun duration) (occurrences_of plan slot ticks));
}

-- no slot has more overruns than frames
abbrev pub OverrunsAreOccurrences : Type 0
OverrunsAreOccurrences = (plan slot duration : ℕ) (ticks : List SlotTick) → (slot_use plan slot duration ticks).overruns ≤ (slot_use plan slot duration ticks).busy.count

-- each tick of a slot is in one occurrence
abbrev pub ticks_in : List Occurrence → ℕ
ticks_in [] = 0
ticks_in (occurrence ∷ more) = occurrence.ticks + ticks_in more

abbrev pub OccurrencesHaveAllTicks : Type 0
OccurrencesHaveAllTicks = (ticks : List SlotTick) → ticks_in (occurrences ticks) ≡ length ticks

-- Partitions.

-- the virtual traps that a tick finds: in a slot of the partition the interrupts that the tick brings are pending, too
abbrev pub found_pending : CueSlot → OwnTick → ℕ
found_pending Away tick = tick.found.state.traps.pending
found_pending (Mine first) tick = (with_interrupts tick.found.time first tick.found.state).traps.pending

-- whether a tick finds interrupt n pending
abbrev pub is_pending : ℕ → OwnTick → Bool
is_pending n tick = bit_at (found_pending tick.cue.mine tick) n == 1

-- whether it delivers it
abbrev pub delivers : ℕ → Doing → Bool
delivers n Rests = false
delivers n (Delivers m) = m == n
delivers n Executes = false

-- the ticks one after the other that have found interrupt n pending, after a tick that does not deliver it
abbrev pub waited_after : ℕ → ℕ → OwnTick → ℕ
waited_after n waited tick = if is_pending n tick then waited + 1 else 0

-- how long interrupt n waited for each of its deliveries, in ticks from the first that finds it pending to the one that delivers it; `waited` are the
-- ticks that have found it so up to now
abbrev pub waits_from : ℕ → ℕ → List OwnTick → List ℕ
waits_from n waited [] = []
waits_from n waited (tick ∷ ticks) =
    if delivers n (doing tick.found tick.cue) then waited ∷ waits_from n 0 ticks
    else waits_from n (waited_after n waited tick) ticks

-- interrupt 3 is that of a message in a sampling port, and 4 of one in a queue: so these are the ticks from a message's arrival to its delivery, too
abbrev pub waits : ℕ → List OwnTick → List ℕ
waits n ticks = waits_from n 0 ticks

-- how long it has waited at the end: where it is masked, or traps are disabled, it is never delivered
abbrev pub waiting_from : ℕ → ℕ → List OwnTick → ℕ
waiting_from n waited [] = waited
waiting_from n waited (tick ∷ ticks) = waiting_from n (if delivers n (doing tick.found tick.cue) then 0 else waited_after n waited tick) ticks

abbrev pub waiting : ℕ → List OwnTick → ℕ
waiting n ticks = waiting_from n 0 ticks

-- whether a tick is in a slot of the partition
abbrev pub is_mine : CueSlot → Bool
is_mine Away = false
is_mine (Mine first) = true

-- the number under which a call is counted: its own, or 0 where it is no call's
abbrev pub row_number : ℕ → Option HyperCall → ℕ
row_number called None = 0
row_number called (Some call) = called

-- whether a line is a call of this number that was refused: its result is negative
abbrev pub is_negative_result : Option ℕ → Bool
is_negative_result None = false
is_negative_result (Some value) = nat_le (2 ^ 31) value

abbrev pub is_refused : ℕ → CallLine → Bool
is_refused number (CallMade n p pc called arguments name result) = row_number called (call_of called) == number && is_negative_result result
is_refused number (InterruptTaken n p pc interrupt) = false
is_refused number (TrapMet n p pc type) = false
is_refused number (HealthMet n p event word accessed action) = false
is_refused number (StateMoved n p to) = false

-- how often calls of a number were refused
abbrev pub refused : ℕ → PartitionView → List OwnTick → ℕ
refused number view ticks = length (filter (is_refused number) (call_lines view ticks))

-- the stack pointer that a tick finds in which the partition executes an instruction, where it lies in an area that may be written
abbrev pub stack_in : Doing → PartitionView → PartitionState → List ℕ
stack_in Rests view ps = []
stack_in (Delivers n) view ps = []
stack_in Executes view ps = if is_writable (areas_of view) (register_at ps.core 14) then register_at ps.core 14 ∷ [] else []

unfoldable pub stacks_in : PartitionView → OwnTick → List ℕ
stacks_in view tick = stack_in (doing tick.found tick.cue) view tick.found.state

-- how a partition was used: the ticks in which it did something, of those in its slots and of all, which are its load, and the instructions that it
-- executed; how long each of the 32 interrupts waited for its deliveries, and how long it has waited at the end; how often the calls of each number
-- from 0 to 38 were refused, 0 standing for those that are no call's; and the stack pointers, of which the least is the deepest
-- waited for its deliveries, and how long it has waited at the end; how often the calls of each number from 0 to 38 were refused, 0 standing for those that are no call's; and the stack pointers, of which the least is the deepest
pub record PartUse : Type 0 where
  pub busy : ℕ
  pub in_slots : ℕ
  pub ticks : ℕ
  pub executed : ℕ
  pub waits : List Figures
  pub waiting : List ℕ
  pub refused : List ℕ
  pub stack : Figures

unfoldable pub part_use : PartitionView → List OwnTick → PartUse
part_use view ticks = record {
  busy = length (busy ticks);
  in_slots = length (filter (λ tick. is_mine tick.cue.mine) ticks);
  ticks = length ticks;
  executed = length (executed view ticks);
  waits = table (λ n. figures_of (waits n ticks)) 32;
  waiting = table (λ n. waiting n ticks) 32;
  refused = table (λ number. refused number view ticks) 39;
  stack = figures_of (flat_map (stacks_in view) ticks);
}

-- how a partition was used in a run is how it was used alone, under its script and with its own upsets
abbrev pub UsesAlone : Type 0
UsesAlone = (count : ℕ) (s : Schedule) (g : Machine) (p : ℕ) (a : Alone) → alone_part_at g p ≡ Some a
    → part_use (view_of g.system p) (own_ticks s g p count) ≡ part_use (view_of g.system p) (alone_ticks (view_of g.system p) (own_strikes p s) a (upset_script s g p count))
