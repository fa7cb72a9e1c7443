-- Ticks of the slot of a partition that goes on.
use Rattle.std.proofs.Common.{◌≡◌, ℕ, zero, suc, ◌+◌, ◌≤◌, Bool, true, false, List, [], map, Some, refl, ap, subst, ◌∙◌, arith}
use Rattle.std.specs.Prelude.{nat_lt, slice_get, slice_set}
use Rattle.std.proofs.lemmas.Bool.Decides.{nat_tests}
use Rattle.virt_traps.specs.Virtual.{due}
use Rattle.machine_model.specs.LocalTick.{LocalTick, delivered_or_executed, seen_outside, with_interrupts}
use Rattle.machine_model.specs.Machine.{Machine, SlotTurn, copies, local, sight}
use Rattle.machine_model.specs.Partition.{PartitionState, execution_looked_at, hardware_looked_at, rested}
use Rattle.machine_model.specs.Emission as emission
use Rattle.machine_model.specs.View.{PartitionView, view_of}
use Rattle.span_model.specs.Meeting.{HasGone, NoDelivery, first_after, timers_looked_at, with_interrupts_to}
use Rattle.span_model.specs.SpanLaws.{IsAwake, GoingTicks, going_parts, its_areas, its_met, its_state, met, met_to, others_rested}
use Rattle.span_model.specs.Spans.{IsSpan, inside}
use Rattle.span_model.proofs.AwakeLemmas.{local_awake, undelivered_executes}
use Rattle.span_model.proofs.DueLemmas.{undelivered_earlier}
use Rattle.span_model.proofs.InsideLemmas.{turn_inside}
use Rattle.span_model.proofs.MeetingLemmas.{meets_in_slot, wakes_in_slot}
use Rattle.span_model.proofs.PassLemmas.{get_set_map, map_set_twice}
use Rattle.span_model.proofs.RestLemmas.{rested_twice}
use Rattle.span_model.proofs.SpanLemmas.{IsQuietTick, quiet_span, quiet_work, work_tick}
use Rattle.span_model.proofs.StepLemmas.{gone_before, next_goes}

-- the machine
abbrev pub going : ℕ → Machine → ℕ → Bool → PartitionState → Machine
going k g p first ps = inside k (going_parts k g p first ps) g

-- the partition stands at its place
pub its_place : (k : ℕ) (g : Machine) (p : ℕ) (first : Bool) (ps : PartitionState) → slice_get g.parts p ≡ Some ps
    → slice_get (going_parts k g p first ps) p ≡ Some (its_state k g p first ps)
its_place zero g p first ps there = there
its_place (suc k) g p first ps there = get_set_map (rested (g.time + k)) g.parts p ps (its_state (suc k) g p first ps) there

-- all others rest once more
pub rests_more : (k : ℕ) (g : Machine) (p : ℕ) (first : Bool) (ps new : PartitionState)
    → slice_set (map (rested (g.time + k)) (going_parts k g p first ps)) p new ≡ others_rested k p new g
rests_more zero g p first ps new = refl
rests_more (suc k) g p first ps new =
    map_set_twice (rested (g.time + k)) (rested (g.time + suc k)) g.parts p (its_state (suc k) g p first ps) new
    (λ x. rested_twice (g.time + k) (g.time + suc k) x (omega arith))

-- the turn of such a tick
abbrev pub its_turn : ℕ → ℕ → Bool → SlotTurn
its_turn k p first = record { part = p; first = first_after k first }

-- the local tick of such a tick
pub local_going : (k last : ℕ) (g : Machine) (p : ℕ) (first : Bool) (ps : PartitionState) → IsSpan g last → k ≤ last → IsAwake g p first ps
    → local (going k g p first ps) ≡ Some (seen_outside (view_of g.system p) (g.ticks + k)
    (delivered_or_executed (due (its_met k g p first ps).traps) (its_met k g p first ps).traps.enabled (view_of g.system p)
    (copies (going k g p first ps) p) (g.time + k) (sight (going k g p first ps) p) (its_met k g p first ps)))
local_going k last g p first ps span within goes =
    local_awake (going k g p first ps) p (first_after k first) (its_state k g p first ps) (its_met k g p first ps)
    (turn_inside g k last p first (going_parts k g p first ps) span within goes.slot.turn) (its_place k g p first ps goes.slot.there)
    (wakes_in_slot k g.time (its_areas g p) first ps goes.wakes) (meets_in_slot k g.time (its_areas g p) first ps)

-- steps that went went with fewer, too
pub gone_earlier : (j k : ℕ) (view : PartitionView) (ps : PartitionState) → j ≤ k → HasGone k view ps → HasGone j view ps
gone_earlier j zero view ps within gone = let none : j ≡ 0 = omega (arith, within) in rw none gone
gone_earlier j (suc k) view ps within gone = at (nat_lt k j) refl (gone_earlier j k view ps)
  where
    at : (b : Bool) → nat_lt k j ≡ b → (j ≤ k → HasGone k view ps → HasGone j view ps) → HasGone j view ps
    at true more earlier = let same : j ≡ suc k = grind (arith, nat_tests) in rw same gone
    at false less earlier = earlier (grind (arith, nat_tests)) (gone_before k view ps gone)

-- the interrupts leave the registers and the memory
pub gone_met : (count k : ℕ) (view : PartitionView) (g : Machine) (first : Bool) (ps : PartitionState) → HasGone count view (met g first ps) → HasGone count view (met_to k g first ps)
unfolding with_interrupts hardware_looked_at execution_looked_at timers_looked_at
gone_met count k view g first ps gone = gone

-- a local tick that reports nothing and leaves this
abbrev quiet_tick : PartitionState → LocalTick
quiet_tick new = record { after = new; lines = []; said = []; act = emission.Nothing }

-- the local tick of an instruction that only goes
pub local_goes : (k last : ℕ) (g : Machine) (p : ℕ) (first : Bool) (ps : PartitionState) → IsSpan g last → k ≤ last → IsAwake g p first ps
    → NoDelivery (with_interrupts_to g.time k first ps).traps → HasGone (suc k) (view_of g.system p) (met g first ps)
    → local (going k g p first ps) ≡ Some (quiet_tick (its_state (suc k) g p first ps))
local_goes k last g p first ps span within goes none gone =
    local_going k last g p first ps span within goes
    ∙ ap (λ w. Some (seen_outside (view_of g.system p) (g.ticks + k) w))
    (undelivered_executes (view_of g.system p) (copies (going k g p first ps) p) (g.time + k) (sight (going k g p first ps) p) (its_met k g p first ps) none
    ∙ next_goes k (view_of g.system p) (met_to k g first ps) (gone_met (suc k) k (view_of g.system p) g first ps gone)
    (copies (going k g p first ps) p) (g.time + k) (sight (going k g p first ps) p))

-- one such tick
pub going_tick : (k last : ℕ) (g : Machine) (p : ℕ) (first : Bool) (ps : PartitionState) → IsSpan g last → k ≤ last → IsAwake g p first ps
    → NoDelivery (with_interrupts_to g.time k first ps).traps → HasGone (suc k) (view_of g.system p) (met g first ps)
    → IsQuietTick (going k g p first ps) (going_parts (suc k) g p first ps)
going_tick k last g p first ps span within goes none gone =
    subst (λ (parts : List PartitionState). IsQuietTick (going k g p first ps) parts) (rests_more k g p first ps (its_state (suc k) g p first ps))
    (quiet_work (going k g p first ps) (slice_set (map (rested (g.time + k)) (going_parts k g p first ps)) p (its_state (suc k) g p first ps))
    (its_turn k p first) (quiet_tick (its_state (suc k) g p first ps)) refl refl
    (work_tick (going k g p first ps) (its_turn k p first) (quiet_tick (its_state (suc k) g p first ps)) span.running
    (turn_inside g k last p first (going_parts k g p first ps) span within goes.slot.turn) (local_goes k last g p first ps span within goes none gone) refl))

-- the law on instructions that only go
pub going_ticks : GoingTicks
going_ticks g p first ps last span goes none gone =
    quiet_span g (λ k. going_parts k g p first ps) last span refl
    (λ k within. going_tick k last g p first ps span within goes (undelivered_earlier g.time k last first ps within none)
    (gone_earlier (suc k) (suc last) (view_of g.system p) (met g first ps) (omega (arith, within)) gone))
