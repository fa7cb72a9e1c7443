-- Ticks of a gap, and of the slot of a partition that takes no turns.
use Rattle.std.proofs.Common.{◌≡◌, ℕ, zero, suc, ◌+◌, ◌≤◌, inl, inr, Bool, true, false, List, map, Option, None, Some, refl, ap, subst, ◌∙◌, arith}
use Rattle.std.specs.Prelude.{if◌then◌else◌, slice_get}
use Rattle.machine_model.specs.Machine.{Machine, SlotTurn, local, local_in, local_of, taken_by, turn_of}
use Rattle.machine_model.specs.Partition.{PartitionState, is_halted, rested, takes_turns}
use Rattle.span_model.specs.Meeting.{first_after}
use Rattle.span_model.specs.SpanLaws.{IsNobodys, RestingTicks, all_rested}
use Rattle.span_model.specs.Spans.{IsUnderway, IsSpan, inside}
use Rattle.span_model.proofs.InsideLemmas.{gap_inside, turn_inside}
use Rattle.span_model.proofs.PassLemmas.{get_map, map_twice}
use Rattle.span_model.proofs.RestLemmas.{hardware_state, rested_halted, rested_runs, rested_twice}
use Rattle.span_model.proofs.SpanLemmas.{IsQuietTick, inside_to, quiet_rest, quiet_span, rest_tick}

-- rest leaves the state
pub rested_state : (time : ℕ) (ps : PartitionState) → (rested time ps).state ≡ ps.state
rested_state time ps = at (is_halted ps.state) refl
  where
    at : (b : Bool) → is_halted ps.state ≡ b → (rested time ps).state ≡ ps.state
    at true halted = ap (λ s. s.state) (rested_halted time ps halted)
    at false runs = ap (λ s. s.state) (rested_runs time ps runs) ∙ hardware_state time ps

-- all partitions, when this many ticks are done in which all rest
abbrev pub rested_inside : ℕ → Machine → List PartitionState
rested_inside zero g = g.parts
rested_inside (suc k) g = all_rested k g

-- one tick more
rested_more : (k : ℕ) (g : Machine) → map (rested (g.time + k)) (rested_inside k g) ≡ rested_inside (suc k) g
rested_more zero g = refl
rested_more (suc k) g = map_twice (rested (g.time + k)) (rested (g.time + suc k)) g.parts (λ ps. rested_twice (g.time + k) (g.time + suc k) ps (omega arith))

-- the local tick of a slot or gap
pub local_by : (g : Machine) (turn : Option SlotTurn) → turn_of g ≡ turn → local g ≡ local_in g turn
unfolding local
local_by g turn is = ap (local_in g) is

-- a partition that takes no turns has no local tick
taken_not : (g : Machine) (p : ℕ) (first : Bool) (o : Option PartitionState) (ps : PartitionState) → o ≡ Some ps → takes_turns ps.state ≡ false → taken_by g p first o ≡ None
taken_not g p first o ps there stays =
    ap (taken_by g p first) there ∙ ap (λ (b : Bool). if b then Some (local_of g p first ps) else None) stays

-- the partition of the slot, when this many ticks are done
pub rested_place : (k : ℕ) (g : Machine) (p : ℕ) (ps : PartitionState) → slice_get g.parts p ≡ Some ps
    → (now : PartitionState) × (slice_get (rested_inside k g) p ≡ Some now) × (now.state ≡ ps.state)
rested_place zero g p ps there = (ps, there, refl)
rested_place (suc k) g p ps there = (rested (g.time + k) ps, get_map (rested (g.time + k)) g.parts p ps there, rested_state (g.time + k) ps)

-- no partition has a local tick
pub none_inside : (k last : ℕ) (g : Machine) → IsSpan g last → k ≤ last → IsNobodys g → local (inside k (rested_inside k g) g) ≡ None
none_inside k last g span within (inl gap) = local_by (inside k (rested_inside k g) g) None (gap_inside g k last (rested_inside k g) span within gap)
none_inside k last g span within (inr (p, first, ps, slot, stays)) =
    let now = rested_place k g p ps slot.there in
    local_by (inside k (rested_inside k g) g) (Some (record { part = p; first = first_after k first })) (turn_inside g k last p first (rested_inside k g) span within slot.turn)
    ∙ taken_not (inside k (rested_inside k g) g) p (first_after k first) (slice_get (rested_inside k g) p) now.0 now.1 (ap takes_turns now.2 ∙ stays)

-- one such tick
rests_inside : (k last : ℕ) (g : Machine) → IsSpan g last → k ≤ last → IsNobodys g → IsQuietTick (inside k (rested_inside k g) g) (rested_inside (suc k) g)
rests_inside k last g span within nobodys =
    subst (λ (parts : List PartitionState). IsQuietTick (inside k (rested_inside k g) g) parts) (rested_more k g)
    (quiet_rest (inside k (rested_inside k g) g) (map (rested (g.time + k)) (rested_inside k g)) (turn_of (inside k (rested_inside k g) g))
    (rest_tick (inside k (rested_inside k g) g) (turn_of (inside k (rested_inside k g) g)) span.running refl (none_inside k last g span within nobodys)))

-- this many such ticks
pub rested_to : (g : Machine) (done : ℕ) → IsSpan g done → IsNobodys g → IsUnderway g done (rested_inside done g)
rested_to g done span nobodys =
    inside_to g (λ k. rested_inside k g) done done span (omega arith) refl (λ k below. rests_inside k done g span (omega (arith, below)) nobodys)

-- the law on ticks in which all partitions rest
pub resting_ticks : RestingTicks
resting_ticks g last span nobodys = quiet_span g (λ k. rested_inside k g) last span refl (λ k within. rests_inside k last g span within nobodys)
