-- The tick after those in which a partition only went.
use Rattle.std.proofs.Common.{◌≡◌, ℕ, suc, ◌+◌, Bool, true, false, List, ◌++◌, map, Some, refl, sym, ap, subst, ◌∙◌, arith}
use Rattle.std.specs.Prelude.{◌==◌}
use Rattle.machine_model.specs.Health.{Worked}
use Rattle.machine_model.specs.Lines.{local_said, step_lines, step_said}
use Rattle.machine_model.specs.LocalTick.{LocalTick, seen_outside}
use Rattle.machine_model.specs.Machine.{Machine, happened, if_its_turn, local, run, turn_of}
use Rattle.machine_model.specs.Partition.{PartitionState}
use Rattle.machine_model.specs.Emission.{line_of}
use Rattle.machine_model.specs.View.{System, view_of}
use Rattle.span_model.specs.Meeting.{first_after}
use Rattle.span_model.specs.lemmas.RunLemmas.{run_more}
use Rattle.span_model.specs.NextLaws.{HasGoneOn, IsTickOf, MetTick, NextTick, EmittingTick, next_work}
use Rattle.span_model.specs.SpanLaws.{going_parts, its_met, met, others_rested}
use Rattle.span_model.specs.Spans.{IsUnderway, IsEmittingSpan, inside, plan_line, said_if}
use Rattle.span_model.proofs.AwakeLemmas.{local_awake}
use Rattle.span_model.proofs.CalmLemmas.{lines_as, step_as}
use Rattle.span_model.proofs.GoingLemmas.{going, going_tick, gone_earlier, its_turn, local_going, rests_more}
use Rattle.span_model.proofs.InsideLemmas.{turn_inside}
use Rattle.span_model.proofs.SpanLemmas.{IsTicked, inside_to, lines_one_more, said_as, said_one_more, state_more, work_tick}

-- what a machine does in its next tick, where it has not halted
tick_by : (g : Machine) (p : ℕ) (first : Bool) (work : Worked) → g.halted ≡ false → turn_of g ≡ Some (record { part = p; first = first })
    → local g ≡ Some (seen_outside (view_of g.system p) g.ticks work) → IsTickOf g p first work
tick_by g p first work runs turn works = record {
  turn = turn;
  local = works;
  state = step_as g (happened g) runs refl;
  lines = lines_as g (happened g) runs refl;
  said = λ q. said_as g (happened g) q runs refl;
}

-- the law on the tick of a partition that goes on
pub met_tick : MetTick
met_tick g p first ps runs goes =
    tick_by g p first (next_work g p (met g first ps)) runs goes.slot.turn (local_awake g p first ps (met g first ps) goes.slot.turn goes.slot.there goes.wakes refl)

-- the ticks before
pub gone_inside : (g : Machine) (p : ℕ) (first : Bool) (ps : PartitionState) (done : ℕ) → HasGoneOn g p first ps done → IsUnderway g done (going_parts done g p first ps)
gone_inside g p first ps done is =
    inside_to g (λ k. going_parts k g p first ps) done done is.span (omega arith) refl
    (λ k below. going_tick k done g p first ps is.span (omega (arith, below)) is.goes (is.undelivered k below)
    (gone_earlier (suc k) done (view_of g.system p) (met g first ps) (omega (arith, below)) is.gone))

-- the next tick of the machine inside
tick_inside : (g : Machine) (p : ℕ) (first : Bool) (ps : PartitionState) (done : ℕ) → HasGoneOn g p first ps done
    → IsTickOf (going done g p first ps) p (first_after done first) (next_work (going done g p first ps) p (its_met done g p first ps))
tick_inside g p first ps done is =
    tick_by (going done g p first ps) p (first_after done first) (next_work (going done g p first ps) p (its_met done g p first ps)) is.span.running
    (turn_inside g done done p first (going_parts done g p first ps) is.span (omega arith) is.goes.slot.turn)
    (local_going done done g p first ps is.span (omega arith) is.goes)

-- the law on the tick after those in which a partition only went
pub next_tick : NextTick
next_tick g p first ps done is =
    let before : IsUnderway g done (going_parts done g p first ps) = gone_inside g p first ps done is in
    let tick : IsTickOf (run g done) p (first_after done first) (next_work (run g done) p (its_met done g p first ps)) =
    subst (λ (m : Machine). IsTickOf m p (first_after done first) (next_work m p (its_met done g p first ps))) (sym before.state) (tick_inside g p first ps done is) in
    record {
      before = before;
      tick = tick;
      state = run_more g done ∙ tick.state;
      lines = lines_one_more g done (going_parts done g p first ps) before ∙ ap step_lines (sym before.state) ∙ tick.lines;
      said = λ q. said_one_more g done q (going_parts done g p first ps) before ∙ ap (λ m. step_said m q) (sym before.state) ∙ tick.said q;
    }

-- a partition's view has its number
pub view_id : (system : System) (p : ℕ) → (view_of system p).id ≡ p
unfolding view_of
view_id system p = refl

-- the console bytes of a local tick are those of its work
work_said : (b : Bool) (g : Machine) (p n : ℕ) (work : Worked) → local_said (if_its_turn b (Some (seen_outside (view_of g.system p) n work))) ≡ said_if b work.emitted
work_said true g p n work = refl
work_said false g p n work = refl

-- a machine after ticks that report nothing, and one whose work does not reach beyond its partition
emitted_to : (g : Machine) (done p : ℕ) (first : Bool) (parts new : List PartitionState) (work : Worked) → IsUnderway g done parts
    → IsTicked (inside done parts g) new (Some (record { part = p; first = first })) (Some (seen_outside (view_of g.system p) (g.ticks + done) work))
    → IsEmittingSpan g done p new work.emitted
emitted_to g done p first parts new work before is = record {
  state = state_more g done parts new before is.state;
  lines = lines_one_more g done parts before ∙ is.lines ∙ ap (λ id. map (line_of (g.ticks + done) id) work.emitted ++ plan_line done g) (view_id g.system p);
  said = λ q. said_one_more g done q parts before ∙ is.said q ∙ work_said (p == q) g p (g.ticks + done) work;
}

-- the law on the tick after them whose work does not reach beyond the partition
pub emitting_tick : EmittingTick
emitting_tick g p first ps done work is works nothing =
    let before : IsUnderway g done (going_parts done g p first ps) = gone_inside g p first ps done is in
    let tick : LocalTick = seen_outside (view_of g.system p) (g.ticks + done) work in
    let its_work : next_work (going done g p first ps) p (its_met done g p first ps) ≡ work =
    ap (λ m. next_work m p (its_met done g p first ps)) (sym before.state) ∙ works in
    let its_local : local (going done g p first ps) ≡ Some tick =
    local_going done done g p first ps is.span (omega arith) is.goes ∙ ap (λ w. Some (seen_outside (view_of g.system p) (g.ticks + done) w)) its_work in
    emitted_to g done p (first_after done first) (going_parts done g p first ps) (others_rested done p work.after g) work before
    (subst (λ (parts : List PartitionState). IsTicked (going done g p first ps) parts (Some (its_turn done p first)) (Some tick)) (rests_more done g p first ps work.after)
    (work_tick (going done g p first ps) (its_turn done p first) tick is.span.running
    (turn_inside g done done p first (going_parts done g p first ps) is.span (omega arith) is.goes.slot.turn) its_local nothing))
