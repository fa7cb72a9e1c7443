-- The last of many ticks in which nothing is emitted.
use Rattle.std.proofs.Common.{◌≡◌, ℕ, zero, suc, ◌+◌, inl, inr, Bool, true, false, [], None, Some, refl, sym, ap, ◌∙◌, arith}
use Rattle.std.specs.Prelude.{is_some}
use Rattle.sparc_step.specs.Execution.{Turned}
use Rattle.sparc_step.specs.declared.outcome.Turn.TheVariants.{Went}
use Rattle.virt_traps.specs.Settled.{settled}
use Rattle.virt_traps.specs.Virtual.{due}
use Rattle.xm_base.specs.declared.partition.State.TheVariants.{Idle}
use Rattle.machine_model.specs.LocalTick.{with_interrupts}
use Rattle.machine_model.specs.Machine.{Machine, act_of, local, run, sight, turn_of}
use Rattle.machine_model.specs.Partition.{PartitionState, execution_looked_at, hardware_looked_at, takes_turns}
use Rattle.machine_model.specs.Emission as emission
use Rattle.machine_model.specs.Emission.{Unseen}
use Rattle.machine_model.specs.View.{view_of}
use Rattle.span_model.specs.Calm.{GoneCalm, IdleCalm, IsCalm, RestingCalm, turn_after}
use Rattle.span_model.specs.Meeting.{HasGone, first_after, timers_looked_at}
use Rattle.span_model.specs.SpanLaws.{IsNobodys, going_parts, its_areas, its_state, met}
use Rattle.span_model.specs.Spans.{IsUnderway, inside}
use Rattle.virt_traps.specs.Stepping.{stepped}
use Rattle.span_model.proofs.DueLemmas.{none_due_earlier}
use Rattle.span_model.proofs.GoingLemmas.{going, its_place, local_goes}
use Rattle.span_model.proofs.IdleLemmas.{idle_looks, idle_parts, idle_place, idle_state, idle_still, idle_turn, idles_inside, idling, local_idle}
use Rattle.span_model.proofs.AwakeLemmas.{same_state}
use Rattle.span_model.proofs.InsideLemmas.{gap_inside, turn_inside}
use Rattle.span_model.proofs.NextLemmas.{gone_inside}
use Rattle.span_model.proofs.RestingLemmas.{none_inside, rested_inside, rested_place, rested_to}
use Rattle.span_model.proofs.ShownLemmas.{idle_unasked, unseen_away, unseen_gap, unseen_slot, unseen_unasked, went_unasked}
use Rattle.span_model.proofs.SpanLemmas.{inside_to}
use Rattle.span_model.proofs.StepLemmas.{gone_before, settled_next}
use Rattle.span_model.proofs.UndisturbedLemmas.{gone_undisturbed, idle_met, still_undelivered}

-- such a tick, by the machine before it
calm_at : (g m : Machine) (done : ℕ) (works : Bool) → run g done ≡ m → m.halted ≡ false → turn_of m ≡ turn_after done (turn_of g) → is_some (local m) ≡ works
    → act_of (local m) ≡ emission.Nothing → ((p : ℕ) → sight m p ≡ Unseen) → IsCalm g done works
calm_at g m done works is running turn worked act unseen = record {
  running = ap (λ (x : Machine). x.halted) is ∙ running;
  turn = ap turn_of is ∙ turn;
  worked = ap (λ (x : Machine). is_some (local x)) is ∙ worked;
  act = ap (λ (x : Machine). act_of (local x)) is ∙ act;
  unseen = λ p. ap (λ (x : Machine). sight x p) is ∙ unseen p;
}

-- the law on ticks in which all partitions rest
pub resting_calm : RestingCalm
resting_calm g last span nobodys =
    calm_at g m last false (rested_to g last span nobodys).state span.running (turn nobodys) (ap is_some none) (ap act_of none) (λ q. unseen q nobodys)
  where
    m : Machine
    m = inside last (rested_inside last g) g

    none : local m ≡ None
    none = none_inside last last g span (omega arith) nobodys

    turn : IsNobodys g → turn_of m ≡ turn_after last (turn_of g)
    turn (inl gap) = gap_inside g last last (rested_inside last g) span (omega arith) gap ∙ sym (ap (turn_after last) gap)
    turn (inr (p, first, ps, slot, stays)) =
        turn_inside g last last p first (rested_inside last g) span (omega arith) slot.turn ∙ sym (ap (turn_after last) slot.turn)

    unseen : (q : ℕ) → IsNobodys g → sight m q ≡ Unseen
    unseen q (inl gap) = unseen_gap m q (gap_inside g last last (rested_inside last g) span (omega arith) gap)
    unseen q (inr (p, first, ps, slot, stays)) =
        let now = rested_place last g p ps slot.there in
        unseen_slot m p q (first_after last first) now.0 (turn_inside g last last p first (rested_inside last g) span (omega arith) slot.turn) now.1
        (unseen_away m p (first_after last first) now.0 (ap takes_turns now.2 ∙ stays))

-- the law on ticks of an idle partition that nothing wakes
pub idle_calm : IdleCalm
idle_calm g p ps last span slot idle waits far =
    calm_at g (idling last g p ps) last true before.state span.running
    (turn ∙ sym (ap (turn_after last) slot.turn ∙ later last)) (ap is_some its_local) (ap act_of its_local)
    (λ q. unseen_slot (idling last g p ps) p q false (idle_state last g ps) turn (idle_place last g p ps slot.there)
    (unseen_unasked (idling last g p ps) p false (idle_state last g ps)
    (idle_unasked (view_of g.system p) (idle_state last g ps) (idle_state (suc last) g ps) (g.time + last) (idle_looks last g ps) stays none)))
  where
    none : due (with_interrupts (g.time + last) false ps).traps ≡ None
    none = ap (λ (s : PartitionState). due s.traps) (idle_met g.time last ps far) ∙ waits

    before : IsUnderway g last (idle_parts last g p ps)
    before = inside_to g (λ k. idle_parts k g p ps) last last span (omega arith) refl
        (λ k below. idles_inside k last g p ps span (omega (arith, below)) slot idle (none_due_earlier (g.time + k) (g.time + last) ps (omega (arith, below)) none))

    turn : turn_of (idling last g p ps) ≡ Some (record { part = p; first = false })
    turn = idle_turn last last g p ps span (omega arith) slot

    later : (k : ℕ) → turn_after k (Some (record { part = p; first = false })) ≡ Some (record { part = p; first = false })
    later zero = refl
    later (suc k) = refl

    its_local : local (idling last g p ps) ≡ Some (record { after = idle_state (suc last) g ps; lines = []; said = []; act = emission.Nothing })
    its_local = local_idle (idling last g p ps) p (idle_state last g ps) (idle_state (suc last) g ps) turn (idle_place last g p ps slot.there)
        (idle_still last g ps idle) (idle_looks last g ps) none

    stays : (idle_state (suc last) g ps).state ≡ Idle
    stays = same_state (g.time + last) false ps ∙ idle

-- the next instruction only goes
goes_next : (k : ℕ) (g : Machine) (p : ℕ) (first : Bool) (ps : PartitionState) → HasGone (suc k) (view_of g.system p) (met g first ps)
    → (settled (its_areas g p) (stepped k (its_areas g p) (met g first ps).core (met g first ps).memory).core (stepped k (its_areas g p) (met g first ps).core (met g first ps).memory).memory).turn ≡ Went
goes_next k g p first ps gone =
    ap (λ (t : Turned). t.turn) (settled_next k (its_areas g p) (met g first ps).core (met g first ps).memory (gone_before k (view_of g.system p) (met g first ps) gone)) ∙ gone

goes_at : (k : ℕ) (g : Machine) (p : ℕ) (first : Bool) (ps : PartitionState) → HasGone (suc k) (view_of g.system p) (met g first ps)
    → (settled (its_areas g p) (its_state k g p first ps).core (its_state k g p first ps).memory).turn ≡ Went
unfolding with_interrupts hardware_looked_at execution_looked_at timers_looked_at
goes_at zero g p first ps gone = goes_next 0 g p first ps gone
goes_at (suc k) g p first ps gone = goes_next (suc k) g p first ps gone

-- the law on instructions that only go
pub gone_calm : GoneCalm
gone_calm g p first ps last is gone =
    calm_at g (going last g p first ps) last true before.state is.span.running (turn ∙ sym (ap (turn_after last) is.goes.slot.turn)) (ap is_some its_local) (ap act_of its_local)
    (λ q. unseen_slot (going last g p first ps) p q (first_after last first) (its_state last g p first ps) turn (its_place last g p first ps is.goes.slot.there)
    (unseen_unasked (going last g p first ps) p (first_after last first) (its_state last g p first ps)
    (went_unasked (view_of g.system p) (its_state last g p first ps) (g.time + last) (first_after last first) (goes_at last g p first ps gone))))
  where
    before : IsUnderway g last (going_parts last g p first ps)
    before = gone_inside g p first ps last (gone_undisturbed g p first ps last is (gone_before last (view_of g.system p) (met g first ps) gone))

    turn : turn_of (going last g p first ps) ≡ Some (record { part = p; first = first_after last first })
    turn = turn_inside g last last p first (going_parts last g p first ps) is.span (omega arith) is.goes.slot.turn

    its_local : local (going last g p first ps) ≡ Some (record { after = its_state (suc last) g p first ps; lines = []; said = []; act = emission.Nothing })
    its_local = local_goes last last g p first ps is.span (omega arith) is.goes (still_undelivered g p first ps last last (omega arith) is) gone
