-- Whose slot the ticks inside a span are in.
use Rattle.std.proofs.Common.{◌≡◌, ℕ, zero, suc, ◌+◌, ◌-◌, ◌≤◌, Bool, false, List, Option, None, Some, refl, sym, ap, ◌∙◌}
use Rattle.std.specs.Prelude.{◌==◌}
use Rattle.std.proofs.Math.Nat.{add-zero}
use Rattle.cyclic_plans.specs.PlanClock.{here, slot_at}
use Rattle.xm_conf.specs.declared.plan.Slot.{Slot}
use Rattle.machine_model.specs.Machine.{Machine, turn_here, turn_of}
use Rattle.machine_model.specs.Partition.{PartitionState}
use Rattle.span_model.specs.Meeting.{first_after}
use Rattle.span_model.specs.Spans.{IsSpan, inside}
use Rattle.span_model.proofs.TurnLemmas.{begins_not, begun_at, part_in, turn_is}

-- a gap stays a gap
pub gap_inside : (g : Machine) (k last : ℕ) (parts : List PartitionState) → IsSpan g last → k ≤ last → turn_of g ≡ None → turn_of (inside k parts g) ≡ None
gap_inside g k last parts span within gap = at (slot_at g.system.conf g.clock g.time) refl
  where
    at : (o : Option (ℕ × Slot)) → slot_at g.system.conf g.clock g.time ≡ o → turn_of (inside k parts g) ≡ None
    at None is = turn_is (inside k parts g) None (span.alike k within ∙ is)
    at (Some found) is = absurd (let e = turn_is g (Some found) is in cc)

-- before the first tick it is the same slot or gap
turn_at_once : (g : Machine) (parts : List PartitionState) → turn_of (inside 0 parts g) ≡ turn_of g
unfolding turn_of
turn_at_once g parts = ap (λ time. turn_here (here g.system.conf g.clock time)) (add-zero g.time)

-- later it is the slot of the same partition, and does not begin
turn_further : (g : Machine) (k last p : ℕ) (first : Bool) (parts : List PartitionState) → IsSpan g last → suc k ≤ last
    → turn_of g ≡ Some (record { part = p; first = first }) → turn_of (inside (suc k) parts g) ≡ Some (record { part = p; first = false })
turn_further g k last p first parts span within turn = at (slot_at g.system.conf g.clock g.time) refl
  where
    at : (o : Option (ℕ × Slot)) → slot_at g.system.conf g.clock g.time ≡ o → turn_of (inside (suc k) parts g) ≡ Some (record { part = p; first = false })
    at None is = absurd (let e = turn_is g None is in cc)
    at (Some found) is =
        let same_part : found.1.part ≡ p = ap part_in (sym (turn_is g (Some found) is) ∙ turn) in
        let later_on : (found.1.start == g.time + suc k - g.clock.frame_start) ≡ false =
        begins_not found.1.start g.clock.frame_start g.time k (begun_at g.system.conf g.clock g.time found is) span.begun in
        turn_is (inside (suc k) parts g) (Some found) (span.alike (suc k) within ∙ is)
        ∙ ap (λ q. Some (record { part = q; first = found.1.start == g.time + suc k - g.clock.frame_start })) same_part
        ∙ ap (λ b. Some (record { part = p; first = b })) later_on

-- the slot of a partition stays its slot, and begins only with the first tick
pub turn_inside : (g : Machine) (k last p : ℕ) (first : Bool) (parts : List PartitionState) → IsSpan g last → k ≤ last
    → turn_of g ≡ Some (record { part = p; first = first }) → turn_of (inside k parts g) ≡ Some (record { part = p; first = first_after k first })
turn_inside g zero last p first parts span within turn = turn_at_once g parts ∙ turn
turn_inside g (suc k) last p first parts span within turn = turn_further g k last p first parts span within turn
