-- Ticks of one slot or gap of any machine, one after the other.
use Rattle.std.proofs.Common.{◌≡◌, ℕ, zero, suc, ◌+◌, ◌<◌, ◌≤◌, Bool, true, false, List, [], ◌++◌, map, Option, None, Some, refl, sym, ap, ◌∙◌, arith}
use Rattle.std.specs.Prelude.{slice_set}
use Rattle.std.proofs.Math.Nat.{add-zero}
use Rattle.std.proofs.lemmas.Bool.{eq-eqb}
use Rattle.std.proofs.lemmas.List.{append-nil}
use Rattle.cyclic_plans.specs.PlanClock.{ended}
use Rattle.xm_report.specs.Report.{ReportLine}
use Rattle.machine_model.specs.Lines.{lines, lines_of, local_lines, local_said, order_lines, plan_lines, said, said_unless, step_lines, step_said}
use Rattle.machine_model.specs.Lists.{all_of, each}
use Rattle.machine_model.specs.LocalTick.{LocalTick}
use Rattle.machine_model.specs.Machine.{Happened, Machine, SlotTurn, after, happened, if_its_turn, is_turn_of, local, next_clock, part_after, run, step, tick_of, turn_of}
use Rattle.machine_model.specs.Partition.{PartitionState, rested}
use Rattle.machine_model.specs.Emission as emission
use Rattle.machine_model.specs.Whole.{NoEvent, event_lines}
use Rattle.span_model.specs.lemmas.RunLemmas.{lines_more, run_more, said_more}
use Rattle.span_model.specs.Spans.{IsUnderway, IsQuietSpan, IsSpan, after_span, inside}
use Rattle.span_model.proofs.CalmLemmas.{calm, calm_is, channels_same, clock_is, its, lines_as, no_order_lines, none_either, not_its, part_is, step_as}
use Rattle.span_model.proofs.ListLemmas.{none_of}
use Rattle.span_model.proofs.PassLemmas.{each_but, each_map}
use Rattle.span_model.proofs.TurnLemmas.{clock_stays}

-- the machine after one tick, with these partitions
abbrev pub ticked : List PartitionState → Machine → Machine
ticked parts g = record g { parts = parts; clock = ended g.system.conf g.clock g.time; time = g.time + 1; ticks = g.ticks + 1 }

-- the line of a plan that starts after this tick
abbrev pub tick_plan_line : Machine → List ReportLine
tick_plan_line g = plan_lines g.ticks g.clock.plan (ended g.system.conf g.clock g.time).plan

-- a tick that reaches beyond no partition: it leaves these partitions, and emits what its local tick emits
pub record IsTicked (g : Machine) (parts : List PartitionState) (turn : Option SlotTurn) (tick : Option LocalTick) : Type 0 where
  pub state : step g ≡ ticked parts g
  pub lines : step_lines g ≡ local_lines tick ++ tick_plan_line g
  pub said : (p : ℕ) → step_said g p ≡ local_said (if_its_turn (is_turn_of turn p) tick)

-- a machine after such a tick
after_calm : (g : Machine) (turn : Option SlotTurn) (tick : Option LocalTick) (parts : List PartitionState) → g.halted ≡ false
    → each (part_after g (calm turn tick)) g.parts ≡ parts → after g (calm turn tick) ≡ ticked parts g
unfolding after
after_calm g turn tick parts runs leaves = rw (leaves, channels_same g.time turn tick g.channels, clock_is g turn tick, runs) refl

-- lines of which all but the first and the last are none
first_and_last : {X : Type 0} (a b c d e : List X) → b ≡ [] → c ≡ [] → d ≡ [] → a ++ b ++ c ++ d ++ e ≡ a ++ e
first_and_last a b c d e no_b no_c no_d =
    rw (no_b, no_c, no_d) (ap (λ lines. lines ++ e) (append-nil (a ++ [] ++ []) ∙ append-nil (a ++ []) ∙ append-nil a))

-- the lines of such a tick
lines_calm : (g : Machine) (turn : Option SlotTurn) (tick : Option LocalTick) → lines_of g (calm turn tick) ≡ local_lines tick ++ tick_plan_line g
unfolding lines_of
lines_calm g turn tick =
    first_and_last (local_lines tick) (all_of (order_lines g (calm turn tick)) g.parts) [] (all_of (λ p ps. event_lines g.ticks NoEvent p) g.parts)
    (plan_lines g.ticks g.clock.plan (next_clock g (calm turn tick)).plan)
    (no_order_lines g turn tick) refl (none_of (λ p ps. event_lines g.ticks NoEvent p) g.parts (λ k ps. refl))
    ∙ ap (λ clock. local_lines tick ++ plan_lines g.ticks g.clock.plan clock.plan) (clock_is g turn tick)

-- the console bytes of what happened
pub said_as : (g : Machine) (h : Happened) (p : ℕ) → g.halted ≡ false → happened g ≡ h → step_said g p ≡ local_said (tick_of h p)
unfolding step_said
said_as g h p runs is = ap (λ b. said_unless b g p) runs ∙ ap (λ x. local_said (tick_of x p)) is

-- the local tick of a partition in such a tick
tick_is : (turn : Option SlotTurn) (tick : Option LocalTick) (p : ℕ) → tick_of (calm turn tick) p ≡ if_its_turn (is_turn_of turn p) tick
unfolding tick_of
tick_is turn tick p = refl

-- a tick with this local tick, which reaches beyond no partition
ticked_by : (g : Machine) (turn : Option SlotTurn) (tick : Option LocalTick) (parts : List PartitionState) → g.halted ≡ false → happened g ≡ calm turn tick
    → each (part_after g (calm turn tick)) g.parts ≡ parts → IsTicked g parts turn tick
ticked_by g turn tick parts runs happens leaves = record {
  state = step_as g (calm turn tick) runs happens ∙ after_calm g turn tick parts runs leaves;
  lines = lines_as g (calm turn tick) runs happens ∙ lines_calm g turn tick;
  said = λ p. said_as g (calm turn tick) p runs happens ∙ ap local_said (tick_is turn tick p);
}

-- a tick without a local tick: all rest
pub rest_tick : (g : Machine) (turn : Option SlotTurn) → g.halted ≡ false → turn_of g ≡ turn → local g ≡ None → IsTicked g (map (rested g.time) g.parts) turn None
rest_tick g turn runs its_turn none =
    ticked_by g turn None (map (rested g.time) g.parts) runs (calm_is g turn None its_turn none refl)
    (each_map (part_after g (calm turn None)) (rested g.time) g.parts (λ k ps. part_is g turn None k ps None (none_either (is_turn_of turn k))))

-- a tick with a local tick: all others rest
pub work_tick : (g : Machine) (turn : SlotTurn) (tick : LocalTick) → g.halted ≡ false → turn_of g ≡ Some turn → local g ≡ Some tick → tick.act ≡ emission.Nothing
    → IsTicked g (slice_set (map (rested g.time) g.parts) turn.part tick.after) (Some turn) (Some tick)
work_tick g turn tick runs its_turn works nothing =
    ticked_by g (Some turn) (Some tick) (slice_set (map (rested g.time) g.parts) turn.part tick.after) runs (calm_is g (Some turn) (Some tick) its_turn works nothing)
    (each_but (part_after g (calm (Some turn) (Some tick))) (rested g.time) g.parts turn.part tick.after
    (λ k ps other. part_is g (Some turn) (Some tick) k ps None (not_its turn tick k other))
    (λ ps. part_is g (Some turn) (Some tick) turn.part ps (Some tick) (its turn tick)))

-- a tick that leaves these partitions, and emits at most that a plan starts
pub record IsQuietTick (g : Machine) (parts : List PartitionState) : Type 0 where
  pub state : step g ≡ ticked parts g
  pub lines : step_lines g ≡ tick_plan_line g
  pub said : (p : ℕ) → step_said g p ≡ []

-- such a tick without a local tick
pub quiet_rest : (g : Machine) (parts : List PartitionState) (turn : Option SlotTurn) → IsTicked g parts turn None → IsQuietTick g parts
quiet_rest g parts turn is = record {
  state = is.state;
  lines = is.lines;
  said = λ p. is.said p ∙ ap local_said (none_either (is_turn_of turn p));
}

-- the console bytes of a local tick that has none
none_said : (tick : LocalTick) (b : Bool) → tick.said ≡ [] → local_said (if_its_turn b (Some tick)) ≡ []
none_said tick true none = none
none_said tick false none = refl

-- such a tick with a local tick that reports nothing
pub quiet_work : (g : Machine) (parts : List PartitionState) (turn : SlotTurn) (tick : LocalTick) → tick.lines ≡ [] → tick.said ≡ [] → IsTicked g parts (Some turn) (Some tick)
    → IsQuietTick g parts
quiet_work g parts turn tick no_lines no_bytes is = record {
  state = is.state;
  lines = is.lines ∙ ap (λ l. l ++ tick_plan_line g) no_lines;
  said = λ p. is.said p ∙ none_said tick (is_turn_of (Some turn) p) no_bytes;
}

-- inside the ticks, before the first of them
pub inside_none : (g : Machine) → IsUnderway g 0 g.parts
inside_none g = record { state = let no_time = add-zero g.time in let no_ticks = add-zero g.ticks in rw (no_time, no_ticks) refl; lines = refl; said = λ p. refl }

-- before the last of them the clock goes on
clock_inside : (g : Machine) (k last : ℕ) → IsSpan g last → k < last → ended g.system.conf g.clock (g.time + k) ≡ g.clock
clock_inside g k last span below =
    let begun = span.begun in
    let within = span.within in
    clock_stays g.system.conf g.clock (g.time + k) (omega (arith, begun)) (omega (arith, below, within))

-- the machine after one of them but the last is inside them
pub span_inside : (g : Machine) (k last : ℕ) (new : List PartitionState) → IsSpan g last → k < last → after_span k new g ≡ inside (suc k) new g
span_inside g k last new span below =
    let same_time : g.time + k + 1 ≡ g.time + suc k = omega arith in
    let same_ticks : g.ticks + k + 1 ≡ g.ticks + suc k = omega arith in
    rw (clock_inside g k last span below, same_time, same_ticks) refl

-- no line is about a plan that goes on
pub same_plan : (n a b : ℕ) → b ≡ a → plan_lines n a b ≡ []
same_plan n a b same = rw (eq-eqb a b (sym same)) refl

-- the machine after one tick more
pub state_more : (g : Machine) (k : ℕ) (parts new : List PartitionState) → IsUnderway g k parts → step (inside k parts g) ≡ ticked new (inside k parts g)
    → run g (suc k) ≡ after_span k new g
state_more g k parts new is leaves = run_more g k ∙ ap step is.state ∙ leaves

-- the lines so far, and of one tick more
pub lines_one_more : (g : Machine) (k : ℕ) (parts : List PartitionState) → IsUnderway g k parts → lines g (suc k) ≡ step_lines (inside k parts g)
lines_one_more g k parts is = lines_more g k ∙ ap (λ l. l ++ step_lines (run g k)) is.lines ∙ ap step_lines is.state

-- the console bytes so far, and of one tick more
pub said_one_more : (g : Machine) (k p : ℕ) (parts : List PartitionState) → IsUnderway g k parts → said g (suc k) p ≡ step_said (inside k parts g) p
said_one_more g k p parts is = said_more g k p ∙ ap (λ l. l ++ step_said (run g k) p) (is.said p) ∙ ap (λ m. step_said m p) is.state

-- one quiet tick more, but the last
inside_more : (g : Machine) (k last : ℕ) (parts new : List PartitionState) → IsSpan g last → k < last → IsUnderway g k parts → IsQuietTick (inside k parts g) new
    → IsUnderway g (suc k) new
inside_more g k last parts new span below is tick = record {
  state = state_more g k parts new is tick.state ∙ span_inside g k last new span below;
  lines = lines_one_more g k parts is ∙ tick.lines
      ∙ same_plan (g.ticks + k) g.clock.plan (ended g.system.conf g.clock (g.time + k)).plan (ap (λ c. c.plan) (clock_inside g k last span below));
  said = λ p. said_one_more g k p parts is ∙ tick.said p;
}

-- quiet ticks, one after the other
pub inside_to : (g : Machine) (parts : ℕ → List PartitionState) (last k : ℕ) → IsSpan g last → k ≤ last → parts 0 ≡ g.parts
    → ((j : ℕ) → j < k → IsQuietTick (inside j (parts j) g) (parts (suc j))) → IsUnderway g k (parts k)
inside_to g parts last zero span within first ticks = rw first (inside_none g)
inside_to g parts last (suc k) span within first ticks =
    inside_more g k last (parts k) (parts (suc k)) span (omega (arith, within))
    (inside_to g parts last k span (omega (arith, within)) first (λ j below. ticks j (omega (arith, below)))) (ticks k (omega arith))

-- the last of them
pub quiet_to : (g : Machine) (last : ℕ) (parts new : List PartitionState) → IsUnderway g last parts → IsQuietTick (inside last parts g) new → IsQuietSpan g last new
quiet_to g last parts new is tick = record {
  state = state_more g last parts new is tick.state;
  silent = is.lines;
  lines = lines_one_more g last parts is ∙ tick.lines;
  said = λ p. said_one_more g last p parts is ∙ tick.said p;
}

-- quiet ticks, all of them
pub quiet_span : (g : Machine) (parts : ℕ → List PartitionState) (last : ℕ) → IsSpan g last → parts 0 ≡ g.parts
    → ((j : ℕ) → j ≤ last → IsQuietTick (inside j (parts j) g) (parts (suc j))) → IsQuietSpan g last (parts (suc last))
quiet_span g parts last span first ticks =
    quiet_to g last (parts last) (parts (suc last))
    (inside_to g parts last last span (omega arith) first (λ j below. ticks j (omega (arith, below)))) (ticks last (omega arith))
