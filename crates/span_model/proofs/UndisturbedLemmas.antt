-- Ticks of one slot in which no timer of its partition falls due.
use Rattle.std.proofs.Common.{◌≡◌, ℕ, zero, suc, ◌+◌, ◌<◌, ◌≤◌, Bool, true, false, List, Option, None, Some, refl, sym, ap, subst, ◌∙◌, arith}
use Rattle.std.specs.Prelude.{IfSome}
use Rattle.virt_clocks.specs.Clocks.{PartitionClocks, is_due, looked_at, next_due}
use Rattle.virt_traps.specs.Virtual.{due}
use Rattle.machine_model.specs.Health.{Worked}
use Rattle.machine_model.specs.LocalTick.{with_interrupts}
use Rattle.machine_model.specs.Machine.{Machine, copies, run, sight}
use Rattle.machine_model.specs.Partition.{PartitionState, execution_looked_at, execution_timer, hardware_looked_at, hardware_timer, raised_if}
use Rattle.machine_model.specs.View.{view_of}
use Rattle.span_model.specs.Meeting.{HasGone, NoDelivery, awake, began, first_after, gone_on, timers_looked_at, with_interrupts_to}
use Rattle.span_model.specs.NextLaws.{HasGoneOn, IsNextTick, next_work}
use Rattle.span_model.specs.SpanLaws.{going_parts, its_areas, its_met, met, others_rested}
use Rattle.span_model.specs.Spans.{IsQuietSpan}
use Rattle.span_model.specs.Undisturbed.{IsUndisturbed, NoneFallsDue, UndisturbedIdle, UndisturbedNext, UndisturbedTicks, UndisturbedEmitting, gone_parts, next_instruction}
use Rattle.span_model.proofs.AwakeLemmas.{undelivered_executes}
use Rattle.span_model.proofs.DueLemmas.{idles_later}
use Rattle.span_model.proofs.GoingLemmas.{going_ticks}
use Rattle.span_model.proofs.IdleLemmas.{idle_ticks}
use Rattle.span_model.proofs.MeetingLemmas.{interrupts_are_looks, looked_clock, looks_inside, same_timers, timers_twice}
use Rattle.span_model.proofs.NextLemmas.{next_tick, emitting_tick}
use Rattle.span_model.proofs.TimerLemmas.{looked_not_due, looked_same, none_due}

-- a look at timers that are not due leaves the partition
pub none_looked : (h e : ℕ) (ps : PartitionState) → is_due h ps.clocks.hardware_timer ≡ false → is_due e ps.clocks.execution_timer ≡ false → timers_looked_at h e ps ≡ ps
unfolding timers_looked_at
none_looked h e ps no_hardware no_execution =
    same_timers (raised_if (is_due e ps.clocks.execution_timer) execution_timer (raised_if (is_due h ps.clocks.hardware_timer) hardware_timer ps.traps)) ps.traps
    (looked_at h ps.clocks.hardware_timer) ps.clocks.hardware_timer (looked_at e ps.clocks.execution_timer) ps.clocks.execution_timer ps
    (ap (λ b. raised_if b execution_timer (raised_if (is_due h ps.clocks.hardware_timer) hardware_timer ps.traps)) no_execution
    ∙ ap (λ b. raised_if b hardware_timer ps.traps) no_hardware)
    (looked_same h ps.clocks.hardware_timer no_hardware) (looked_same e ps.clocks.execution_timer no_execution)

-- timers that do not fall due up to a tick do not up to an earlier one
earlier_bound : (j k : ℕ) (o : Option ℕ) → j ≤ k → IfSome o (λ ticks. k < ticks) → IfSome o (λ ticks. j < ticks)
earlier_bound j k None within bound = bound
earlier_bound j k (Some ticks) within bound = omega (arith, within, bound)

-- timers that do not fall due are not due
not_due : (time k : ℕ) (clocks : PartitionClocks) → NoneFallsDue time k true clocks
    → (is_due (time + k) clocks.hardware_timer ≡ false) × (is_due (clocks.execution + k) clocks.execution_timer ≡ false)
unfolding next_due
not_due time k clocks far = none_due time clocks.execution k clocks.hardware_timer clocks.execution_timer far

-- nor is the hardware timer, where the partition does not run
hardware_not_due : (time k : ℕ) (clocks : PartitionClocks) → NoneFallsDue time k false clocks → is_due (time + k) clocks.hardware_timer ≡ false
unfolding next_due
hardware_not_due time k clocks far = (none_due time clocks.execution k clocks.hardware_timer None far).0

-- the interrupts of a tick leave the execution clock
met_clock : (time : ℕ) (first : Bool) (ps : PartitionState) → (with_interrupts time first ps).clocks.execution ≡ ps.clocks.execution
met_clock time first ps = ap (λ (s : PartitionState). s.clocks.execution) (interrupts_are_looks time first ps) ∙ looked_clock time ps.clocks.execution (began first ps)

-- where no timer falls due, later ticks bring no interrupts
pub undisturbed_met : (time k : ℕ) (first : Bool) (ps : PartitionState) → NoneFallsDue time k true (with_interrupts time first ps).clocks
    → with_interrupts_to time k first ps ≡ with_interrupts time first ps
undisturbed_met time k first ps far =
    let none = not_due time k (with_interrupts time first ps).clocks far in
    sym (timers_twice time (time + k) ps.clocks.execution (ps.clocks.execution + k) (began first ps) (omega arith) (omega arith))
    ∙ ap (timers_looked_at (time + k) (ps.clocks.execution + k)) (sym (interrupts_are_looks time first ps))
    ∙ ap (λ e. timers_looked_at (time + k) (e + k) (with_interrupts time first ps)) (sym (met_clock time first ps))
    ∙ none_looked (time + k) ((with_interrupts time first ps).clocks.execution + k) (with_interrupts time first ps) none.0 none.1

-- .. up to each of them
met_at : (time k last : ℕ) (first : Bool) (ps : PartitionState) → k ≤ last → NoneFallsDue time last true (with_interrupts time first ps).clocks
    → with_interrupts_to time k first ps ≡ with_interrupts time first ps
met_at time k last first ps within far =
    undisturbed_met time k first ps (earlier_bound k last (next_due time true (with_interrupts time first ps).clocks) within far)

-- so no interrupt can be delivered in any of them
pub still_undelivered : (g : Machine) (p : ℕ) (first : Bool) (ps : PartitionState) (k last : ℕ) → k ≤ last → IsUndisturbed g p first ps last
    → NoDelivery (with_interrupts_to g.time k first ps).traps
still_undelivered g p first ps k last within is =
    subst (λ (s : PartitionState). NoDelivery s.traps) (sym (met_at g.time k last first ps within is.timers)) is.undelivered

-- the law on ticks in which instructions only go
pub undisturbed_ticks : UndisturbedTicks
undisturbed_ticks g p first ps last is gone =
    subst (λ (s : PartitionState). IsQuietSpan g last (others_rested last p (gone_on (suc last) (its_areas g p) (awake s)) g))
    (met_at g.time last last first ps (omega arith) is.timers)
    (going_ticks g p first ps last is.span is.goes (still_undelivered g p first ps last last (omega arith) is) gone)

-- the ticks before the next one
pub gone_undisturbed : (g : Machine) (p : ℕ) (first : Bool) (ps : PartitionState) (done : ℕ) → IsUndisturbed g p first ps done
    → HasGone done (view_of g.system p) (met g first ps) → HasGoneOn g p first ps done
gone_undisturbed g p first ps done is gone = record {
  span = is.span;
  goes = is.goes;
  undelivered = λ k below. still_undelivered g p first ps k done (omega (arith, below)) is;
  gone = gone;
}

-- the partition meets the next one so
met_undisturbed : (g : Machine) (p : ℕ) (first : Bool) (ps : PartitionState) (done : ℕ) → IsUndisturbed g p first ps done
    → its_met done g p first ps ≡ gone_on done (its_areas g p) (met g first ps)
met_undisturbed g p first ps done is = ap (λ s. gone_on done (its_areas g p) (awake s)) (met_at g.time done done first ps (omega arith) is.timers)

-- all partitions before it
parts_undisturbed : (k last : ℕ) (g : Machine) (p : ℕ) (first : Bool) (ps : PartitionState) → k ≤ last → IsUndisturbed g p first ps last
    → going_parts k g p first ps ≡ gone_parts k g p first ps
parts_undisturbed zero last g p first ps within is = refl
parts_undisturbed (suc k) last g p first ps within is =
    ap (λ s. others_rested k p (gone_on (suc k) (its_areas g p) (awake s)) g) (met_at g.time k last first ps (omega (arith, within)) is.timers)

-- its work is an instruction
work_undisturbed : (m g : Machine) (p : ℕ) (first : Bool) (ps : PartitionState) (done : ℕ) → IsUndisturbed g p first ps done
    → next_work m p (its_met done g p first ps) ≡ next_instruction m p (gone_on done (its_areas g p) (met g first ps))
work_undisturbed m g p first ps done is =
    ap (next_work m p) (met_undisturbed g p first ps done is)
    ∙ undelivered_executes (view_of m.system p) (copies m p) m.time (sight m p) (gone_on done (its_areas g p) (met g first ps)) is.undelivered

-- the law on the tick after them
pub undisturbed_next : UndisturbedNext
undisturbed_next g p first ps done is gone =
    subst (λ (work : Worked). IsNextTick g done (gone_parts done g p first ps) p (first_after done first) work) (work_undisturbed (run g done) g p first ps done is)
    (subst (λ (parts : List PartitionState). IsNextTick g done parts p (first_after done first) (next_work (run g done) p (its_met done g p first ps)))
    (parts_undisturbed done done g p first ps (omega arith) is)
    (next_tick g p first ps done (gone_undisturbed g p first ps done is gone)))

-- and where its work does not reach beyond the partition
pub undisturbed_emitting : UndisturbedEmitting
undisturbed_emitting g p first ps done work is gone works nothing =
    emitting_tick g p first ps done work (gone_undisturbed g p first ps done is gone) (work_undisturbed (run g done) g p first ps done is ∙ works) nothing

-- the execution timer that was looked at is not due, as long as its clock stands
execution_not_due : (time : ℕ) (ps : PartitionState)
    → is_due (with_interrupts time false ps).clocks.execution (with_interrupts time false ps).clocks.execution_timer ≡ false
unfolding with_interrupts hardware_looked_at execution_looked_at
execution_not_due time ps = looked_not_due ps.clocks.execution ps.clocks.execution_timer

-- an idle partition looks at its timers to no effect
pub idle_met : (time last : ℕ) (ps : PartitionState) → NoneFallsDue time last false (with_interrupts time false ps).clocks
    → with_interrupts (time + last) false ps ≡ with_interrupts time false ps
idle_met time last ps far =
    sym (idles_later time (time + last) ps (omega arith))
    ∙ looks_inside (time + last) (with_interrupts time false ps)
    ∙ none_looked (time + last) (with_interrupts time false ps).clocks.execution (with_interrupts time false ps)
    (hardware_not_due time last (with_interrupts time false ps).clocks far) (execution_not_due time ps)

-- the law on ticks of an idle partition that nothing wakes
pub undisturbed_idle : UndisturbedIdle
undisturbed_idle g p ps last span slot idle none far =
    subst (λ (s : PartitionState). IsQuietSpan g last (others_rested last p s g)) (idle_met g.time last ps far)
    (idle_ticks g p ps last span slot idle (ap (λ (s : PartitionState). due s.traps) (idle_met g.time last ps far) ∙ none))
