-- Whose slot a tick is in, and what holds of a machine whose ticks are taken.
use Rattle.std.proofs.Common.{◌≡◌, inl, ℕ, ◌+◌, ◌<◌, ◌≤◌, Bool, true, false, List, length, Option, None, Some, refl, sym, ap, subst, ◌∙◌, arith, []}
use Rattle.std.specs.Prelude.{All, ◌||◌, IfSome, IsSomeAnd, slice_get}
use Rattle.std.proofs.lemmas.Option.{get_or_from_slice_get, slice_get-get_or, slice_get_within}
use Rattle.cyclic_plans.specs.PlanClock.{here, moment}
use Rattle.cyclic_plans.specs.Slots.{IsHere, RunsIn, frame_of, slots_of}
use Rattle.cyclic_plans.specs.declared.slots.Here.{Here}
use Rattle.system_state.specs.State.{SysState}
use Rattle.xm_conf.specs.Configuration.{Conf, Plan}
use Rattle.xm_conf.specs.Description.{described}
use Rattle.xm_conf.specs.Fits.{Fits}
use Rattle.xm_conf.specs.declared.plan.Slot.{Slot}
use Rattle.machine_model.specs.Facts.{AreFacts}
use Rattle.machine_model.specs.Machine.{Machine, booted_part, turn_here, turn_of}
use Rattle.machine_model.specs.Partition.{is_halted}
use Rattle.machine_model.specs.Structures.{flag}
use Rattle.machine_model.specs.View.{view_of}
use Rattle.span_model.specs.Passes.{part_at}
use Rattle.span_model.specs.SpanLaws.{IsNobodys}
use Rattle.span_model.specs.Spans.{IsSlotOf}
use Rattle.tick_steps.specs.Machine.{IsMachine}
use Rattle.tick_steps.specs.lemmas.SpanTerms.{CanTake}

-- the slots of a plan are those of partitions
plan_owned : (conf : Conf) (plan : ℕ) → Fits (described conf) → plan < length conf.plans → All (λ slot. slot.part < length conf.parts) (slots_of conf plan)
unfolding described slots_of
plan_owned conf plan fits below =
    let other : Plan = record { frame = 0; slots = [] } in
    let there = slice_get-get_or conf.plans plan other below in
    rw there (fits.slots_owned plan other below)

-- what holds of all elements holds of one that stands there
at_place : (P : Slot → Type 0) (slots : List Slot) (k : ℕ) (slot : Slot) → All P slots → slice_get slots k ≡ Some slot → P slot
at_place P slots k slot all is = subst P (get_or_from_slice_get slots k slot slot is) (all k slot (slice_get_within slots k slot is))

-- the partition of the current slot is one of the system
owned : (g : Machine) (slot : Here) → Fits (described g.system.conf) → g.clock.plan < length g.system.conf.plans
    → IsHere (moment g.clock g.time) (slots_of g.system.conf g.clock.plan) slot → length g.parts ≡ length g.system.conf.parts → slot.part < length g.parts
owned g slot fits below covers counted = at (slice_get (slots_of g.system.conf g.clock.plan) slot.slot) refl covers
  where
    at : (o : Option Slot) → slice_get (slots_of g.system.conf g.clock.plan) slot.slot ≡ o → IsSomeAnd o (RunsIn (moment g.clock g.time) slot) → slot.part < length g.parts
    at None e runs = absurd runs
    at (Some one) e runs =
        let its : one.part < length g.system.conf.parts =
        at_place (λ s. s.part < length g.system.conf.parts) (slots_of g.system.conf g.clock.plan) slot.slot one (plan_owned g.system.conf g.clock.plan fits below) e in
        omega (arith, its, runs.part, counted)

pub owned_here : (sys : SysState) (slot : Here) (answer : Option Here) → IsMachine sys → answer ≡ Some slot
    → IfSome answer (IsHere (moment sys.machine.clock sys.machine.time) (slots_of sys.machine.system.conf sys.machine.clock.plan)) → slot.part < length sys.machine.parts
owned_here sys slot answer is found covers =
    owned sys.machine slot is.fits is.clocked.in_frame.plan
    (subst (λ (o : Option Here). IfSome o (IsHere (moment sys.machine.clock sys.machine.time) (slots_of sys.machine.system.conf sys.machine.clock.plan))) found covers)
    is.complete.parts

-- there is a partition
pub some_part : (sys : SysState) → IsMachine sys → 0 < length sys.machine.parts
unfolding described
some_part sys is = let some = is.fits.counts.parts.some in omega (arith, some, is.complete.parts)

-- it is its slot
pub slot_of : (sys : SysState) (slot : Here) (answer : Option Here) → answer ≡ here sys.machine.system.conf sys.machine.clock sys.machine.time → answer ≡ Some slot
    → slot.part < length sys.machine.parts → IsSlotOf sys.machine slot.part slot.first (part_at slot.part sys.machine)
unfolding turn_of
slot_of sys slot answer is found below = record {
  turn = ap turn_here (sym is ∙ found);
  there = slice_get-get_or sys.machine.parts slot.part (booted_part sys.machine.system slot.part) below;
}

-- or nobody's
pub gap_is : (sys : SysState) (answer : Option Here) → answer ≡ here sys.machine.system.conf sys.machine.clock sys.machine.time → answer ≡ None → IsNobodys sys.machine
unfolding turn_of
gap_is sys answer is none = inl (ap turn_here (sym is ∙ none))

-- a flag counts at most one
flag_most : (b : Bool) → flag b ≤ 1
flag_most true = omega arith
flag_most false = omega arith

flag_none : (b : Bool) → b ≡ false → flag b ≡ 0
flag_none b none = ap flag none

-- the ticks of a machine can be taken
pub can_take : (sys : SysState) (p most : ℕ) → IsMachine sys → sys.machine.halted ≡ false → p < length sys.machine.parts → 0 < most → sys.machine.ticks + most ≤ 4000000000
    → sys.machine.time + most ≤ sys.machine.clock.frame_start + frame_of sys.machine.system.conf sys.machine.clock.plan → CanTake p most sys
can_take sys p most is runs below some few within =
    let facts : AreFacts (view_of sys.machine.system p) sys.machine.ticks sys.machine.halted (part_at p sys.machine) =
    is.counted.facts p (part_at p sys.machine) (slice_get-get_or sys.machine.parts p (booted_part sys.machine.system p) below) in
    let traces = facts.traces in
    let health = facts.health in
    let execution = facts.execution in
    let one = flag_most (sys.machine.halted || is_halted (part_at p sys.machine).state) in
    let none = flag_none sys.machine.halted runs in
    record {
      partition = below;
      running = runs;
      shapes = is.shapes;
      frame = is.clocked.in_frame;
      within = within;
      asked = is.clocked.asked;
      some = some;
      few = few;
      timed = is.counted.time;
      traces = omega (arith, traces, none);
      health = omega (arith, health, one, none);
      execution = omega (arith, execution, none);
      made = facts.made;
    }
