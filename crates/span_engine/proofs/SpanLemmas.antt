-- The ticks of a slot or gap, out of what the passes over the system left.
use Rattle.std.proofs.Common.{◌≡◌, ℕ, zero, suc, ◌+◌, ◌<◌, ◌≤◌, Bool, true, false, List, [], ◌++◌, length, None, Some, refl, sym, ap, subst, ◌∙◌, arith}
use Rattle.std.proofs.lemmas.List.{length-set, set-set}
use Rattle.std.specs.Prelude.{◌-◌, ◌^◌, if◌then◌else◌}
use Rattle.std.proofs.lemmas.Bool.{eq-eqb}
use Rattle.cyclic_plans.specs.PlanClock.{CyclicClock, IsInFrame}
use Rattle.system_state.specs.State.{SysState, memory_of, with_machine}
use Rattle.system_state.specs.declared.served.Note.{Note}
use Rattle.system_state.specs.declared.served.Note.TheVariants as note
use Rattle.xm_report.specs.Report.{ReportLine}
use Rattle.machine_model.specs.lemmas.ListLemmas.{each_counted as each_length}
use Rattle.machine_model.specs.Facts.{AreEnds, IsAsMany, RunsKeepNumbers}
use Rattle.machine_model.specs.Health.{Worked}
use Rattle.machine_model.specs.Lines.{lines}
use Rattle.machine_model.specs.Lists.{each, is_number}
use Rattle.machine_model.specs.LocalTick.{with_interrupts}
use Rattle.machine_model.specs.Machine.{Machine, booted_part, run}
use Rattle.machine_model.specs.Partition.{PartitionState, rested}
use Rattle.machine_model.specs.Traffic.{Puts, Signals, Still, Takes, Traffic, heard_as, hearing}
use Rattle.machine_model.specs.View.{System, view_of}
use Rattle.span_model.specs.Calm.{IdleCalm, IsCalm, RestingCalm}
use Rattle.span_model.specs.GoingOn.{LeftAreSpan}
use Rattle.span_model.specs.Meeting.{HasGone, first_after, gone_on}
use Rattle.span_model.specs.NextLaws.{IsNextTick}
use Rattle.span_model.specs.PassLaws.{AllRest, OthersRest}
use Rattle.span_model.specs.Passes.{part_at, rest_but, traded, traffic_in, with_part}
use Rattle.span_model.specs.SpanLaws.{IsNobodys, RestingTicks, all_rested, its_areas, met, others_rested}
use Rattle.span_model.specs.Spans.{IsQuietSpan, IsSpan, IsStretch, after_span, plan_line}
use Rattle.span_model.specs.Undisturbed.{IsUndisturbed, NoneFallsDue, UndisturbedIdle, UndisturbedNext, gone_parts, next_instruction}
use Rattle.tick_steps.specs.lemmas.SpanTerms.{AreDoneFrom, CanTakeAfter, IsIdle, machine_underway}
use Rattle.tick_steps.specs.Work.{IsTickWorked}
use Rattle.tick_steps.specs.declared.beyond.Beyond.{Beyond}
use Rattle.tick_steps.specs.declared.beyond.Beyond.TheVariants as beyond
use Rattle.tick_steps.specs.declared.span.Span.{Span}
use Rattle.tick_steps.specs.lemmas.ReachLemmas.{one_before}
use Rattle.span_engine.specs.lemmas.Ending.{CanEndTick}
use Rattle.span_engine.proofs.KeepingLemmas.{calm_bare, calm_kept}
use Rattle.tick_steps.specs.lemmas.ListLemmas.{each_at}
use Rattle.span_engine.proofs.QuietLemmas.{calm_goes, earlier_bound}
use Rattle.tick_steps.specs.lemmas.WorkLemmas.{put_there}

-- this many ticks of partition p in which no call reported anything
abbrev pub quiet_span : ℕ → ℕ → Bool → Beyond → Span
quiet_span ticks p worked reach = record { ticks = ticks; part = p; worked = worked; note = note.Nothing; reach = reach }

-- lines of which there is at most one are few
few_lines : (had all : List ReportLine) → had ≡ [] → length all ≤ length had + 1 → length all ≤ 40
few_lines had all none most = omega (arith, ap length none, most)

-- each of this many ticks reaches beyond no partition, and nobody is shown anything
abbrev pub AreCalm : ℕ → Machine → Bool → Type 0
AreCalm ticks g works = (k : ℕ) → k < ticks → IsCalm g k works

-- ticks that leave these partitions, and emit at most that a plan starts
quiet_done : RunsKeepNumbers → (g : Machine) (ticks most p : ℕ) (works : Bool) (parts : List PartitionState) (old new : SysState) (all : List ReportLine)
    → 0 < ticks → ticks ≤ most → p < length g.parts → IsQuietSpan g (ticks - 1) parts → AreCalm ticks g works
    → new ≡ with_machine (after_span (ticks - 1) parts g) old → all ≡ plan_line (ticks - 1) g → length all ≤ 40 → AreDoneFrom (quiet_span ticks p works beyond.Nothing) most g old new all
quiet_done keeps g ticks most p works parts old new all some within below quiet calms new_is all_is few =
    let calm : IsCalm g (ticks - 1) works = calms (ticks - 1) (omega (arith, some)) in
    let one : suc (ticks - 1) ≡ ticks = omega (arith, some) in
    let its_state : new ≡ with_machine (run g ticks) old = new_is ∙ ap (λ (x : Machine). with_machine x old) (sym quiet.state ∙ ap (run g) one) in
    let many : IsAsMany g (run g ticks) = keeps g ticks in
    record {
      some = some;
      within = within;
      running = calm.running;
      state = its_state;
      lines = ap (lines g) (sym one) ∙ quiet.lines ∙ sym all_is;
      silent = quiet.silent;
      few = few;
      part = omega (arith, ap (λ (x : SysState). length x.machine.parts) its_state, many.parts, below);
      readable = tt;
      kept = calm_kept g (ticks - 1) works (memory_of p new.machine) calm;
      quiet = λ k below_last. calm_goes g k works (calms k (omega (arith, below_last)));
      ends = calm_goes g (ticks - 1) works calm;
      bare = λ k below_last. calm_bare g k works (calms k (omega (arith, below_last)));
    }

-- ticks of a slot or gap in which all rest
pub wait_done : RestingTicks → RestingCalm → LeftAreSpan → AllRest → RunsKeepNumbers → (most last : ℕ) (old mid new : SysState) (had all : List ReportLine) (span : Span)
    → IsNobodys old.machine → IsStretch old.machine most → old.machine.halted ≡ false → 0 < length old.machine.parts → 0 < most
    → IsInFrame old.machine.system.conf old.machine.clock old.machine.time → had ≡ []
    → last ≡ old.machine.time + (most - 1) → mid ≡ with_machine (rest_but None last old.machine) old
    → new ≡ with_machine (after_span (most - 1) mid.machine.parts mid.machine) mid → all ≡ had ++ plan_line (most - 1) mid.machine → length all ≤ length had + 1
    → span ≡ quiet_span most 0 false beyond.Nothing → AreDoneFrom span most old.machine old new all
wait_done resting calms left all_rest keeps most last old mid new had all span nobodys stretch runs there some frame none last_is mid_is new_is all_is few span_is =
    let within : IsSpan old.machine (most - 1) = left old.machine most (most - 1) runs frame stretch (omega (arith, some)) in
    subst (λ (s : Span). AreDoneFrom s most old.machine old new all) (sym span_is)
    (quiet_done keeps old.machine most most 0 false (all_rested (most - 1) old.machine) old new all some (omega arith) there (resting old.machine (most - 1) within nobodys)
    (λ k below. calms old.machine k (left old.machine most k runs frame stretch below) nobodys)
    (new_is
    ∙ ap (λ (x : SysState). with_machine (after_span (most - 1) x.machine.parts x.machine) x) mid_is
    ∙ ap (λ (t : ℕ). with_machine (after_span (most - 1) (rest_but None t old.machine).parts old.machine) old) last_is
    ∙ ap (λ (parts : List PartitionState). with_machine (after_span (most - 1) parts old.machine) old) (sym (all_rest old.machine (most - 1))))
    (all_is ∙ ap (λ (x : List ReportLine). x ++ plan_line (most - 1) mid.machine) none ∙ ap (λ (x : SysState). plan_line (most - 1) x.machine) mid_is)
    (few_lines had all none few))

-- ticks of a slot in which its partition gets to this state, and all others rest
pub slot_done : OthersRest → RunsKeepNumbers → (g : Machine) (p ticks most : ℕ) (x : PartitionState) (old mid new : SysState) (had all : List ReportLine) (span : Span)
    → 0 < ticks → ticks ≤ most → p < length g.parts → IsQuietSpan g (ticks - 1) (others_rested (ticks - 1) p x g) → AreCalm ticks g true → had ≡ [] → mid ≡ with_machine (with_part p x g) old
    → new ≡ with_machine (after_span (ticks - 1) (rest_but (Some p) (mid.machine.time + ticks - 1) mid.machine).parts mid.machine) mid
    → all ≡ had ++ plan_line (ticks - 1) mid.machine → length all ≤ length had + 1 → span ≡ quiet_span ticks p true beyond.Nothing → AreDoneFrom span most g old new all
slot_done others keeps g p ticks most x old mid new had all span some within below quiet calm none mid_is new_is all_is few span_is =
    let last : g.time + ticks - 1 ≡ g.time + (ticks - 1) = omega (arith, some) in
    subst (λ (s : Span). AreDoneFrom s most g old new all) (sym span_is)
    (quiet_done keeps g ticks most p true (others_rested (ticks - 1) p x g) old new all some within below quiet calm
    (new_is
    ∙ ap (λ (y : SysState). with_machine (after_span (ticks - 1) (rest_but (Some p) (y.machine.time + ticks - 1) y.machine).parts y.machine) y) mid_is
    ∙ ap (λ (t : ℕ). with_machine (after_span (ticks - 1) (rest_but (Some p) t (with_part p x g)).parts g) old) last
    ∙ ap (λ (parts : List PartitionState). with_machine (after_span (ticks - 1) parts g) old) (sym (others g (ticks - 1) p x)))
    (all_is ∙ ap (λ (y : List ReportLine). y ++ plan_line (ticks - 1) mid.machine) none ∙ ap (λ (y : SysState). plan_line (ticks - 1) y.machine) mid_is)
    (few_lines had all none few))

-- ticks of an idle partition that nothing wakes
pub idle_done : UndisturbedIdle → IdleCalm → LeftAreSpan → OthersRest → RunsKeepNumbers → (g : Machine) (p ticks most : ℕ) (ps : PartitionState) (old new : SysState) (had all : List ReportLine) (span : Span)
    → IsIdle g p ps most old → 0 < ticks → ticks ≤ most → NoneFallsDue old.machine.time (ticks - 1) false (part_at p old.machine).clocks → had ≡ []
    → new ≡ with_machine (after_span (ticks - 1) (rest_but (Some p) (old.machine.time + ticks - 1) old.machine).parts old.machine) old
    → all ≡ had ++ plan_line (ticks - 1) old.machine → length all ≤ length had + 1 → span ≡ quiet_span ticks p true beyond.Nothing → AreDoneFrom span most g old new all
idle_done idles calms left others keeps g p ticks most ps old new had all span is some within calm none new_is all_is few span_is =
    let its_span : IsSpan g (ticks - 1) = left g most (ticks - 1) is.running is.frame is.stretch (omega (arith, some, within)) in
    slot_done others keeps g p ticks most (with_interrupts g.time false ps) old old new had all span some within is.there
    (idles g p ps (ticks - 1) its_span is.slot is.idle is.none far)
    (λ k below. calms g p ps k (left g most k is.running is.frame is.stretch (omega (arith, below, within))) is.slot is.idle is.none (earlier_bound k (ticks - 1) _ (omega (arith, below)) far)) none is.met new_is all_is few span_is
  where
    far : NoneFallsDue g.time (ticks - 1) false (with_interrupts g.time false ps).clocks
    far = subst (λ (x : PartitionState). NoneFallsDue g.time (ticks - 1) false x.clocks) (put_there p (with_interrupts g.time false ps) g old old is.there is.met)
        (subst (λ (t : ℕ). NoneFallsDue t (ticks - 1) false (part_at p old.machine).clocks) (ap (λ (x : SysState). x.machine.time) is.met) calm)

-- partition p is not reached by the rest of the others
after_part : (p k : ℕ) (g : Machine) → part_at p (machine_underway p k g) ≡ part_at p g
after_part p zero g = refl
after_part p (suc k) g =
    each_at (λ (ps : PartitionState). ps) (λ q ps. if is_number (Some p) q then ps else rested (g.time + k) ps) g.parts p (booted_part g.system p)
    (λ ps. ap (λ (own : Bool). if own then ps else rested (g.time + k) ps) (eq-eqb p p refl))

after_count : (p k : ℕ) (g : Machine) → length (machine_underway p k g).parts ≡ length g.parts
after_count p zero g = refl
after_count p (suc k) g = each_length (λ q ps. if is_number (Some p) q then ps else rested (g.time + k) ps) g.parts

-- what stays of a system after ticks in which a partition only went
pub record Stands (p k : ℕ) (old mid : SysState) : Type 0 where
  pub part : part_at p mid.machine ≡ part_at p old.machine
  pub counted : length mid.machine.parts ≡ length old.machine.parts
  pub system : mid.machine.system ≡ old.machine.system
  pub clock : mid.machine.clock ≡ old.machine.clock
  pub time : mid.machine.time ≡ old.machine.time + k
  pub ticks : mid.machine.ticks ≡ old.machine.ticks + k
  pub halted : mid.machine.halted ≡ old.machine.halted
  pub shapes : mid.shapes ≡ old.shapes

stands_after : (p k : ℕ) (old : SysState) → Stands p k old (with_machine (machine_underway p k old.machine) old)
stands_after p zero old = record { part = refl; counted = refl; system = refl; clock = refl; time = omega arith; ticks = omega arith; halted = refl; shapes = refl }
stands_after p (suc k) old = record {
  part = after_part p (suc k) old.machine;
  counted = after_count p (suc k) old.machine;
  system = refl;
  clock = refl;
  time = refl;
  ticks = refl;
  halted = refl;
  shapes = refl;
}

pub stands : (p k : ℕ) (old mid : SysState) → mid ≡ with_machine (machine_underway p k old.machine) old → Stands p k old mid
stands p k old mid is = subst (λ (x : SysState). Stands p k old x) (sym is) (stands_after p k old)

-- what the next tick needs
pub record CanWork (p : ℕ) (sys : SysState) : Type 0 where
  pub partition : p < length sys.machine.parts
  pub frame : IsInFrame sys.machine.system.conf sys.machine.clock sys.machine.time
  pub traces : (part_at p sys.machine).traces.next < 4294967295
  pub health : (part_at p sys.machine).health.next < 4294967294
  pub clock : (part_at p sys.machine).clocks.execution < 2 ^ 63
  pub made : AreEnds (view_of sys.machine.system p) (part_at p sys.machine).made

same_frame : (s1 s2 : System) (c1 c2 : CyclicClock) (t1 t2 : ℕ) → s1 ≡ s2 → c1 ≡ c2 → t1 ≡ t2 → IsInFrame s2.conf c2 t2 → IsInFrame s1.conf c1 t1
same_frame s1 s2 c1 c2 t1 t2 same_system same_clock same_time frame = rw (same_system, same_clock, same_time) frame

same_ends : (p : ℕ) (s1 s2 : System) (x y : PartitionState) → s1 ≡ s2 → x ≡ y → AreEnds (view_of s2 p) y.made → AreEnds (view_of s1 p) x.made
same_ends p s1 s2 x y same_system same_part ends =
    subst (λ (s : System). AreEnds (view_of s p) x.made) (sym same_system) (subst (λ (ps : PartitionState). AreEnds (view_of s2 p) ps.made) (sym same_part) ends)

pub can_work : (p went : ℕ) (old mid : SysState) → CanTakeAfter p went old → mid ≡ with_machine (machine_underway p went old.machine) old → CanWork p mid
can_work p went old mid can is =
    let same : Stands p went old mid = stands p went old mid is in
    let few = can.few in
    let ticks = can.traces in
    let logs = can.health in
    let counts = can.execution in
    record {
      partition = omega (arith, same.counted, can.partition);
      frame = same_frame mid.machine.system old.machine.system mid.machine.clock old.machine.clock mid.machine.time (old.machine.time + went) same.system same.clock same.time can.frame;
      traces = omega (arith, ap (λ (x : PartitionState). x.traces.next) same.part, few, ticks);
      health = omega (arith, ap (λ (x : PartitionState). x.health.next) same.part, few, logs);
      clock = omega (arith, ap (λ (x : PartitionState). x.clocks.execution) same.part, few, counts);
      made = same_ends p mid.machine.system old.machine.system (part_at p mid.machine) (part_at p old.machine) same.system same.part can.made;
    }

-- the tick's time is that of its end
traded_frame : (traffic : Traffic) (g : Machine) → IsInFrame g.system.conf g.clock g.time
    → IsInFrame (traded traffic g).system.conf (traded traffic g).clock (traded traffic g).time
traded_frame Still g frame = frame
traded_frame (Puts channel bytes) g frame = frame
traded_frame (Takes channel) g frame = frame
traded_frame (Signals source number) g frame = frame

pub worked_frame : (p : ℕ) (work : Worked) (a_note : Note) (reach : Beyond) (mid after : SysState) (got : List ReportLine) → IsTickWorked p work a_note reach mid after got
    → IsInFrame mid.machine.system.conf mid.machine.clock mid.machine.time → IsInFrame after.machine.system.conf after.machine.clock after.machine.time
worked_frame p work a_note reach mid after got worked frame =
    subst (λ (x : SysState). IsInFrame x.machine.system.conf x.machine.clock x.machine.time) (sym worked.state)
    (traded_frame (traffic_in mid.machine p work.act) (with_part p work.after mid.machine) frame)

-- traffic leaves the clocks, and how many partitions there are
record KeepsClocks (old new : Machine) : Type 0 where
  time : new.time ≡ old.time
  ticks : new.ticks ≡ old.ticks
  parts : length new.parts ≡ length old.parts

heard_counted : (traffic : Traffic) (g : Machine) → length (each (λ q ps. hearing (view_of g.system q) (heard_as g.system.conf q traffic) ps) g.parts) ≡ length g.parts
heard_counted traffic g = each_length (λ q ps. hearing (view_of g.system q) (heard_as g.system.conf q traffic) ps) g.parts

traded_clocks : (traffic : Traffic) (g : Machine) → KeepsClocks g (traded traffic g)
traded_clocks Still g = record { time = refl; ticks = refl; parts = refl }
traded_clocks (Puts channel bytes) g = record { time = refl; ticks = refl; parts = heard_counted (Puts channel bytes) g }
traded_clocks (Takes channel) g = record { time = refl; ticks = refl; parts = heard_counted (Takes channel) g }
traded_clocks (Signals source number) g = record { time = refl; ticks = refl; parts = heard_counted (Signals source number) g }

-- so a tick whose work was done can end
pub worked_can_end : (p went : ℕ) (work : Worked) (a_note : Note) (reach : Beyond) (old mid after : SysState) (got : List ReportLine) → CanTakeAfter p went old
    → mid ≡ with_machine (machine_underway p went old.machine) old → IsTickWorked p work a_note reach mid after got → length got ≤ 4 → CanEndTick reach after got
worked_can_end p went work a_note reach old mid after got can following worked room =
    let same : Stands p went old mid = stands p went old mid following in
    let h : Machine = with_part p work.after mid.machine in
    let keeps : KeepsClocks h (traded (traffic_in mid.machine p work.act) h) = traded_clocks (traffic_in mid.machine p work.act) h in
    let time : after.machine.time ≡ mid.machine.time = ap (λ (s : SysState). s.machine.time) worked.state ∙ keeps.time in
    let ticks : after.machine.ticks ≡ mid.machine.ticks = ap (λ (s : SysState). s.machine.ticks) worked.state ∙ keeps.ticks in
    let counted : length after.machine.parts ≡ length mid.machine.parts =
    ap (λ (s : SysState). length s.machine.parts) worked.state ∙ keeps.parts ∙ length-set mid.machine.parts p work.after in
    let few = can.few in
    let timed = can.timed in
    record {
      time = omega (arith, time, same.time, timed, few);
      ticks = omega (arith, ticks, same.ticks, few);
      one = one_before reach mid.machine after.machine (sym counted) worked.one;
      room = room;
    }

-- the system after ticks in which its partition went, and an instruction of it
pub turned_after : OthersRest → UndisturbedNext → (g : Machine) (p : ℕ) (first : Bool) (ps new : PartitionState) (went : ℕ) (old mid : SysState)
    → IsUndisturbed g p first ps went → HasGone went (view_of g.system p) (met g first ps) → old ≡ with_machine (with_part p new g) old
    → mid ≡ with_machine (machine_underway p went old.machine) old → mid ≡ with_machine (with_part p new (run g went)) old
turned_after others nexts g p first ps new went old mid is gone old_is mid_is =
    mid_is ∙ ap (λ (x : SysState). with_machine (machine_underway p went x.machine) old) old_is ∙ ap (λ (x : Machine). with_machine x old) (same went (nexts g p first ps went is gone))
  where
    same : (k : ℕ) → IsNextTick g k (gone_parts k g p first ps) p (first_after k first) (next_instruction (run g k) p (gone_on k (its_areas g p) (met g first ps))) → machine_underway p k (with_part p new g) ≡ with_part p new (run g k)
    same zero next = refl
    same (suc k) next =
        ap (λ (parts : List PartitionState). record g { parts = parts; time = g.time + suc k; ticks = g.ticks + suc k })
        (sym (others g k p new) ∙ sym (set-set (all_rested k g) p (gone_on (suc k) (its_areas g p) (met g first ps)) new))
        ∙ ap (with_part p new) (sym next.before.state)
