-- The rows on turns, on what is spared, and on what is the same.
use Rattle.std.proofs.Common.{◌≡◌, ℕ, suc, ◌+◌, true, List, [], ◌∷◌, ◌++◌, length, Option, None, Some, Err, refl, sym, ap, ◌∙◌, arith}
use Rattle.std.specs.Prelude.{if◌then◌else◌}
use Rattle.std.specs.Int.{bit_at}
use Rattle.std.proofs.lemmas.List.{length-append}
use Rattle.std.proofs.lemmas.Nat.Bits.{bit_at_or}
use Rattle.cyclic_plans.specs.Slots.{slots_of}
use Rattle.virt_traps.specs.Delivery.{delivered}
use Rattle.virt_traps.specs.Virtual.{raised}
use Rattle.virt_traps.specs.declared.windows.StackFault.{StackFault}
use Rattle.xm_base.specs.declared.partition.Order.TheVariants as order
use Rattle.xm_base.specs.declared.partition.State.TheVariants.{Ready}
use Rattle.xm_conf.specs.declared.health.Action.TheVariants as action
use Rattle.health_monitor.specs.Monitor.{event_of_type}
use Rattle.machine_model.specs.Alone.{Alone}
use Rattle.machine_model.specs.Health.{by_delivery, entered_emissions, propagated, trap_delivered, undelivered}
use Rattle.machine_model.specs.Laws.{alone_part_at, part}
use Rattle.machine_model.specs.Machine.{copies}
use Rattle.machine_model.specs.Partition.{PartitionState, applies, areas_of, order_emissions, ordered_emissions}
use Rattle.machine_model.specs.View.{PartitionView}
use Rattle.machine_laws.specs.Planned.{planned_turn}
use Rattle.machine_laws.specs.Spared.{IsSpared}
use Rattle.machine_laws.specs.rows.BoundRows.{BoundsAreReached}
use Rattle.machine_laws.specs.rows.EqualRows.{SameForTheFirst}
use Rattle.machine_laws.specs.rows.SpareRows.{NotSpared, OutsideInterrupts, ResetRows}
use Rattle.machine_laws.specs.rows.TurnRows.{TurnsOfTwoPlans}

pub turns_of_two_plans : TurnsOfTwoPlans
unfolding slots_of planned_turn
turns_of_two_plans = record {
  begins = refl;
  goes_on = refl;
  second_begins = refl;
  second_goes_on = refl;
  gap = refl;
  other_plan = refl;
  later_gap = refl;
  no_plan = refl;
}

pub outside_interrupts : OutsideInterrupts
outside_interrupts = record {
  hardware_timer = refl;
  execution_timer = refl;
  shut_down = refl;
  sample = refl;
  message = refl;
  slot_start = refl;
  sixth = refl;
  seventh = refl;
  first_link = refl;
  last_link = refl;
}

pub resets : ResetRows
resets = record {
  none = refl;
  halt = refl;
  suspend = refl;
  resume = refl;
  shut_down = refl;
  cold = λ status. refl;
  warm = λ status. refl;
  no_event = refl;
  all_cold = refl;
  all_warm = refl;
  all_halted = refl;
}

no_more : (n : ℕ) → n + 1 ≡ n → ⊥
no_more n is = omega (arith, is)

lost_bit : (ps : PartitionState) → bit_at ps.traps.pending 3 ≡ 1 → IsSpared ps (record ps { traps = record ps.traps { pending = 0 } }) → ⊥
lost_bit ps is spared = let bit : bit_at 0 3 ≡ 1 = spared.pending 3 is in absurd cc

came_bit : (ps : PartitionState) → bit_at ps.traps.pending 5 ≡ 0 → IsSpared ps (record ps { traps = raised 5 ps.traps }) → ⊥
unfolding raised
came_bit ps is spared =
    let set : bit_at 32 5 ≡ 1 = refl in
    let bit = sym (bit_at_or ps.traps.pending 32 5) ∙ spared.others 5 refl ∙ is in
    omega (arith, bit, set)

lost_port : (ps : PartitionState) → ps.made ≡ true ∷ [] → IsSpared ps (record ps { made = [] }) → ⊥
lost_port ps is spared = let none : [] ≡ true ∷ [] = spared.made ∙ is in absurd cc

pub not_spared : NotSpared
not_spared = record {
  clock = λ ps spared. no_more ps.clocks.execution spared.execution;
  lost = lost_bit;
  came = came_bit;
  ports = lost_port;
}

ticks_of : Option Alone → ℕ
ticks_of None = 0
ticks_of (Some a) = a.ticks

pub same_for_the_first : SameForTheFirst
unfolding alone_part_at copies part ticks_of
same_for_the_first = record {
  same = λ ps one other. refl;
  later = λ ps one is. let e : 1 ≡ 2 = ap ticks_of is in absurd (omega (arith, e));
}

three_lines : (view : PartitionView) (time type : ℕ) (fault : StackFault) (ps : PartitionState) → ps.state ≡ Ready
    → (delivered (areas_of view) ps.traps ps.core ps.memory type).answer ≡ Err fault
    → length (entered_emissions true (event_of_type type) ps.core.pc action.Propagate ++ (propagated view time (Some type) ps).emitted) ≡ 3
unfolding ordered_emissions trap_delivered undelivered
three_lines view time type fault ps ready fails =
    let d = delivered (areas_of view) ps.traps ps.core ps.memory type in
    ap (λ answer. suc (length (by_delivery answer view time d ps).emitted)) fails
    ∙ ap (λ state. suc (suc (length (if applies order.Halt state then order_emissions order.Halt else [])))) ready

all_of : (bytes : List ℕ) → length (bytes ++ []) ≡ length bytes
all_of bytes = let e = length-append bytes [] in omega (arith, e)

pub bounds_are_reached : BoundsAreReached
bounds_are_reached = record { lines = three_lines; bytes = λ byte bytes. all_of (byte ∷ bytes) }
