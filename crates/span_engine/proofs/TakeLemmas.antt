-- The slot of a partition that takes its turn: the interrupts of its first tick, and what then holds.
use Rattle.std.proofs.Common.{◌≡◌, ℕ, ◌+◌, ◌<◌, ◌≤◌, Bool, true, false, List, length, Option, None, Some, refl, sym, ap, subst, ◌∙◌, arith}
use Rattle.std.specs.Prelude.{◌^◌, ◌==◌, if◌then◌else◌, nat_le, nat_lt}
use Rattle.std.proofs.lemmas.Bool.Decides.{nat_tests}
use Rattle.std.proofs.lemmas.List.{length-set, set-set}
use Rattle.system_state.specs.State.{SysState, with_machine}
use Rattle.cyclic_plans.specs.PlanClock.{AsksPlan, IsInFrame}
use Rattle.cyclic_plans.specs.Slots.{frame_of}
use Rattle.xm_ports.specs.Channels.{shapes_of}
use Rattle.virt_clocks.specs.Clocks.{PartitionClocks, is_due, looked_at, moved_to, next_deadline, rearmed}
use Rattle.virt_clocks.specs.Laws.{NextDeadlineIsLeast}
use Rattle.virt_clocks.specs.declared.timer.Timer.{Timer}
use Rattle.virt_traps.specs.Virtual.{due}
use Rattle.xm_base.specs.declared.partition.State.{State}
use Rattle.xm_base.specs.declared.partition.State.TheVariants.{Ready, Idle, Suspended, Halted}
use Rattle.xm_report.specs.Report.{ReportLine}
use Rattle.machine_model.specs.Facts.{AreEnds}
use Rattle.machine_model.specs.LocalTick.{goes_on, with_interrupts}
use Rattle.machine_model.specs.Machine.{Machine, run}
use Rattle.machine_model.specs.Partition.{PartitionState, execution_looked_at, hardware_looked_at, takes_turns}
use Rattle.machine_model.specs.View.{view_of}
use Rattle.span_model.specs.Meeting.{awake}
use Rattle.span_model.specs.Passes.{part_at, with_part}
use Rattle.span_model.specs.SpanLaws.{met}
use Rattle.span_model.specs.Spans.{IsSlotOf, IsStretch}
use Rattle.tick_steps.specs.lemmas.SpanTerms.{AreDoneFrom, CanTake, IsIdle, HasMetInterrupts, NoneDue}
use Rattle.tick_steps.specs.declared.span.Span.{Span}
use Rattle.tick_steps.specs.lemmas.SightLemmas.{met_state}
use Rattle.tick_steps.specs.lemmas.WorkLemmas.{put_there}

-- a timer that was looked at is not due
looked_not_due : NextDeadlineIsLeast → (t : ℕ) (x : Option Timer) → is_due t (looked_at t x) ≡ false
unfolding looked_at
looked_not_due law t None = refl
looked_not_due law t (Some timer) = at (nat_le timer.deadline t) refl
  where
    past_not_reached : (d : ℕ) → t < d → nat_le d t ≡ false
    past_not_reached d past = over (nat_le d t) refl
      where
        over : (b : Bool) → nat_le d t ≡ b → b ≡ false
        over b is = grind (arith, nat_tests)

    later : (deadline : ℕ) → t < deadline → (b : Bool) → is_due t (if b then Some (record timer { deadline = deadline }) else None) ≡ false
    later deadline past true = past_not_reached deadline past
    later deadline past false = refl

    once : (b : Bool) → (timer.interval == 0) ≡ b → timer.deadline ≤ t → is_due t (if b then None else moved_to (next_deadline t timer) timer) ≡ false
    once true none begun = refl
    once false some begun = later (next_deadline t timer) (law t timer begun (grind (arith, nat_tests))).past (nat_lt (next_deadline t timer) (2 ^ 63))

    at : (b : Bool) → nat_le timer.deadline t ≡ b → is_due t (if b then rearmed t timer else Some timer) ≡ false
    at true reached = once (timer.interval == 0) refl (grind (arith, nat_tests))
    at false waits = waits

none_met : NextDeadlineIsLeast → (time : ℕ) (first : Bool) (ps : PartitionState) → NoneDue time (with_interrupts time first ps).clocks
unfolding with_interrupts hardware_looked_at execution_looked_at
none_met law time first ps = record {
  hardware = looked_not_due law time ps.clocks.hardware_timer;
  execution = looked_not_due law ps.clocks.execution ps.clocks.execution_timer;
}

-- what the ticks of a slot need of a partition is the same
pub record Keeps (x y : PartitionState) : Type 0 where
  pub traces : x.traces ≡ y.traces
  pub health : x.health ≡ y.health
  pub execution : x.clocks.execution ≡ y.clocks.execution
  pub made : x.made ≡ y.made

pub met_keeps : (time : ℕ) (first : Bool) (ps : PartitionState) → Keeps (with_interrupts time first ps) ps
unfolding with_interrupts hardware_looked_at execution_looked_at
met_keeps time first ps = record { traces = refl; health = refl; execution = refl; made = refl }

pub awake_keeps : (time : ℕ) (first : Bool) (ps : PartitionState) → Keeps (awake (with_interrupts time first ps)) ps
awake_keeps time first ps =
    let keeps : Keeps (with_interrupts time first ps) ps = met_keeps time first ps in
    record { traces = keeps.traces; health = keeps.health; execution = keeps.execution; made = keeps.made }

-- the system with the partition's interrupts is one whose ticks can be taken, too
pub take_put : (p most : ℕ) (x : PartitionState) (old sys : SysState) → CanTake p most old → sys ≡ with_machine (with_part p x old.machine) old
    → Keeps x (part_at p old.machine) → CanTake p most sys
take_put p most x old sys can is keeps =
    let part : part_at p sys.machine ≡ x = put_there p x old.machine sys old can.partition is in
    let traces = can.traces in
    let health = can.health in
    let execution = can.execution in
    let few = can.few in
    let timed = can.timed in
    let within = can.within in
    let ticks : sys.machine.ticks ≡ old.machine.ticks = ap (λ (s : SysState). s.machine.ticks) is in
    let counted : length sys.machine.parts ≡ length old.machine.parts = ap (λ (s : SysState). length s.machine.parts) is ∙ length-set old.machine.parts p x in
    record {
      partition = omega (arith, counted, can.partition);
      running = ap (λ (s : SysState). s.machine.halted) is ∙ can.running;
      shapes = subst (λ (s : SysState). s.shapes ≡ shapes_of s.machine.system.conf) (sym is) can.shapes;
      frame = subst (λ (s : SysState). IsInFrame s.machine.system.conf s.machine.clock s.machine.time) (sym is) can.frame;
      within = subst (λ (s : SysState). s.machine.time + most ≤ s.machine.clock.frame_start + frame_of s.machine.system.conf s.machine.clock.plan) (sym is) within;
      asked = subst (λ (s : SysState). AsksPlan s.machine.system.conf s.machine.clock) (sym is) can.asked;
      some = can.some;
      few = omega (arith, ticks, few);
      timed = subst (λ (s : SysState). s.machine.time ≤ s.machine.ticks) (sym is) timed;
      traces = omega (arith, ticks, traces, ap (λ (y : PartitionState). y.traces.next) part, ap (λ t. t.next) keeps.traces);
      health = omega (arith, ticks, health, ap (λ (y : PartitionState). y.health.next) part, ap (λ t. t.next) keeps.health);
      execution = omega (arith, ticks, execution, ap (λ (y : PartitionState). y.clocks.execution) part, keeps.execution);
      made = subst (λ (s : SysState). AreEnds (view_of s.machine.system p) (part_at p sys.machine).made) (sym is)
          (subst (λ (made : List Bool). AreEnds (view_of old.machine.system p) made) (sym (ap (λ (y : PartitionState). y.made) part ∙ keeps.made)) can.made);
    }

-- no timer is due once the interrupts have come
pub none_left : NextDeadlineIsLeast → (p : ℕ) (first : Bool) (x : PartitionState) (old sys : SysState) → p < length old.machine.parts
    → sys ≡ with_machine (with_part p x old.machine) old → x.clocks ≡ (with_interrupts old.machine.time first (part_at p old.machine)).clocks
    → NoneDue sys.machine.time (part_at p sys.machine).clocks
none_left law p first x old sys below is clocks =
    subst (λ (t : ℕ). NoneDue t (part_at p sys.machine).clocks) (sym (ap (λ (s : SysState). s.machine.time) is))
    (subst (λ (c : PartitionClocks). NoneDue old.machine.time c) (sym (ap (λ (y : PartitionState). y.clocks) (put_there p x old.machine sys old below is) ∙ clocks))
    (none_met law old.machine.time first (part_at p old.machine)))

-- the system when the partition is awake, too
pub woken : (p : ℕ) (first : Bool) (old mid sys : SysState) → p < length old.machine.parts
    → mid ≡ with_machine (with_part p (with_interrupts old.machine.time first (part_at p old.machine)) old.machine) old
    → sys ≡ with_machine (with_part p (awake (part_at p mid.machine)) mid.machine) mid
    → sys ≡ with_machine (with_part p (met old.machine first (part_at p old.machine)) old.machine) old
woken p first old mid sys below mid_is is =
    is
    ∙ ap (λ (x : PartitionState). with_machine (with_part p (awake x) mid.machine) mid) (put_there p (with_interrupts old.machine.time first (part_at p old.machine)) old.machine mid old below mid_is)
    ∙ ap (λ (s : SysState). with_machine (with_part p (met old.machine first (part_at p old.machine)) s.machine) s) mid_is
    ∙ ap (λ (parts : List PartitionState). with_machine (record old.machine { parts = parts }) old)
    (set-set old.machine.parts p (with_interrupts old.machine.time first (part_at p old.machine)) (met old.machine first (part_at p old.machine)))

-- a partition that takes its turn still does
pub turns_met : (p : ℕ) (first : Bool) (old mid : SysState) → p < length old.machine.parts
    → mid ≡ with_machine (with_part p (with_interrupts old.machine.time first (part_at p old.machine)) old.machine) old
    → takes_turns (part_at p old.machine).state ≡ true → takes_turns (part_at p mid.machine).state ≡ true
turns_met p first old mid below is turns =
    ap takes_turns (ap (λ (x : PartitionState). x.state) (put_there p (with_interrupts old.machine.time first (part_at p old.machine)) old.machine mid old below is)
    ∙ met_state old.machine.time first (part_at p old.machine))
    ∙ turns

-- a system that was put in is itself
self_put : (g : Machine) (old sys : SysState) → sys ≡ with_machine g old → sys ≡ with_machine g sys
self_put g old sys is = is ∙ ap (λ shapes. record { machine = g; shapes = shapes }) (sym (ap (λ (s : SysState). s.shapes) is))

-- what is done from a system is done from the one before it
pub done_from : (span : Span) (most : ℕ) (g h : Machine) (old sys new : SysState) (all : List ReportLine) → sys ≡ with_machine h old
    → AreDoneFrom span most g sys new all → AreDoneFrom span most g old new all
done_from span most g h old sys new all is done = record {
  some = done.some;
  within = done.within;
  state = done.state ∙ ap (λ shapes. record { machine = run g span.ticks; shapes = shapes }) (ap (λ (s : SysState). s.shapes) is);
  lines = done.lines;
  silent = done.silent;
  few = done.few;
  part = done.part;
  readable = done.readable;
  kept = done.kept;
  running = done.running;
  quiet = done.quiet;
  ends = done.ends;
  bare = done.bare;
}

-- a partition that goes on is met so
pub is_met : (p most : ℕ) (first : Bool) (old mid sys : SysState) → CanTake p most old → IsSlotOf old.machine p first (part_at p old.machine) → IsStretch old.machine most
    → mid ≡ with_machine (with_part p (with_interrupts old.machine.time first (part_at p old.machine)) old.machine) old
    → goes_on (part_at p mid.machine).state first (due (part_at p mid.machine).traps) ≡ true
    → sys ≡ with_machine (with_part p (met old.machine first (part_at p old.machine)) old.machine) old
    → HasMetInterrupts old.machine p first (part_at p old.machine) most sys
is_met p most first old mid sys can slot stretch mid_is goes is = record {
  goes = record {
    slot = slot;
    wakes = subst (λ (x : PartitionState). goes_on x.state first (due x.traps) ≡ true)
        (put_there p (with_interrupts old.machine.time first (part_at p old.machine)) old.machine mid old can.partition mid_is) goes;
  };
  running = can.running;
  frame = can.frame;
  stretch = stretch;
  there = can.partition;
  met = self_put (with_part p (met old.machine first (part_at p old.machine)) old.machine) old sys is;
}

-- a partition that does not go on is idle, its slot does not begin, and no interrupt is due
stays_idle : (state : State) (first : Bool) (interrupt : Option ℕ) → takes_turns state ≡ true → goes_on state first interrupt ≡ false
    → (state ≡ Idle) × (first ≡ false) × (interrupt ≡ None)
stays_idle Ready first interrupt turns stays = absurd cc
stays_idle Idle true interrupt turns stays = absurd cc
stays_idle Idle false (Some n) turns stays = absurd cc
stays_idle Idle false None turns stays = (refl, refl, refl)
stays_idle Suspended first interrupt turns stays = absurd cc
stays_idle Halted first interrupt turns stays = absurd cc

pub is_idle : (p most : ℕ) (first : Bool) (old mid : SysState) → CanTake p most old → IsSlotOf old.machine p first (part_at p old.machine) → IsStretch old.machine most
    → mid ≡ with_machine (with_part p (with_interrupts old.machine.time first (part_at p old.machine)) old.machine) old
    → takes_turns (part_at p old.machine).state ≡ true
    → goes_on (part_at p mid.machine).state first (due (part_at p mid.machine).traps) ≡ false
    → IsIdle old.machine p (part_at p old.machine) most mid
is_idle p most first old mid can slot stretch mid_is turns stays =
    let part : part_at p mid.machine ≡ with_interrupts old.machine.time first (part_at p old.machine) =
    put_there p (with_interrupts old.machine.time first (part_at p old.machine)) old.machine mid old can.partition mid_is in
    let idle = stays_idle (part_at p mid.machine).state first (due (part_at p mid.machine).traps) (turns_met p first old mid can.partition mid_is turns) stays in
    record {
      slot = subst (λ (b : Bool). IsSlotOf old.machine p b (part_at p old.machine)) idle.1 slot;
      idle = sym (ap (λ (x : PartitionState). x.state) part ∙ met_state old.machine.time first (part_at p old.machine)) ∙ idle.0;
      none = ap (λ (b : Bool). due (with_interrupts old.machine.time b (part_at p old.machine)).traps) (sym idle.1) ∙ sym (ap (λ (x : PartitionState). due x.traps) part) ∙ idle.2;
      running = can.running;
      frame = can.frame;
      stretch = stretch;
      there = can.partition;
      met = self_put (with_part p (with_interrupts old.machine.time false (part_at p old.machine)) old.machine) old mid
          (mid_is ∙ ap (λ (b : Bool). with_machine (with_part p (with_interrupts old.machine.time b (part_at p old.machine)) old.machine) old) idle.1);
    }
