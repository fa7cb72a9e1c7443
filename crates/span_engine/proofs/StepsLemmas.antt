-- Instructions of the partition of a slot, out of the outcome of its steps.
use Rattle.std.proofs.Common.{◌≡◌, ℕ, suc, ◌+◌, ◌<◌, ◌≤◌, Bool, true, List, [], ◌++◌, length, Some, refl, sym, ap, subst, ◌∙◌, arith}
use Rattle.std.specs.Prelude.{◌-◌, ◌%◌, ◌^◌}
use Rattle.std.proofs.lemmas.List.{get_or-set_same, length-set, set-set}
use Rattle.guest_bus.specs.Memory.{Area, Memory}
use Rattle.system_state.specs.State.{SysState, areas_in, with_machine}
use Rattle.system_state.specs.Stepping.{IsGone, with_turned}
use Rattle.sparc_step.specs.Execution.{Turned}
use Rattle.sparc_step.specs.Registers.{Registers}
use Rattle.sparc_step.specs.declared.outcome.Turn.{Turn}
use Rattle.sparc_step.specs.declared.outcome.Turn.TheVariants.{Went, Call}
use Rattle.virt_traps.specs.Settled.{GoesOn, settled}
use Rattle.xm_report.specs.Report.{ReportLine}
use Rattle.machine_model.specs.Facts.{RunsKeepNumbers}
use Rattle.machine_model.specs.LocalTick.{turned_state}
use Rattle.machine_model.specs.Machine.{Machine, booted_part, run}
use Rattle.machine_model.specs.Partition.{PartitionState, areas_of}
use Rattle.machine_model.specs.View.{view_of}
use Rattle.span_model.specs.Calm.{GoneCalm}
use Rattle.span_model.specs.GoingOn.{LeftAreSpan}
use Rattle.span_model.specs.Meeting.{HasGone, NoDelivery, gone_on}
use Rattle.span_model.specs.PassLaws.{OthersRest}
use Rattle.span_model.specs.Passes.{part_at, rest_but, with_part}
use Rattle.span_model.specs.SpanLaws.{its_areas, met, others_rested}
use Rattle.span_model.specs.Spans.{IsQuietSpan, after_span, plan_line}
use Rattle.virt_traps.specs.Stepping.{stepped}
use Rattle.span_model.specs.Undisturbed.{IsUndisturbed, NoneFallsDue, UndisturbedTicks}
use Rattle.tick_steps.specs.lemmas.SpanTerms.{AreDoneFrom, HasTurned, HasMetInterrupts}
use Rattle.tick_steps.specs.Span.{counted_on}
use Rattle.tick_steps.specs.declared.beyond.Beyond.TheVariants as beyond
use Rattle.tick_steps.specs.declared.span.Span.{Span}
use Rattle.tick_steps.specs.lemmas.GoesOnLemmas.{call_goes_on}
use Rattle.span_engine.proofs.QuietLemmas.{earlier_bound, earlier_gone}
use Rattle.span_engine.proofs.SpanLemmas.{AreCalm, quiet_span, slot_done}
use Rattle.tick_steps.specs.lemmas.WorkLemmas.{put_there}

-- the areas of a partition's memory
areas_same : (p : ℕ) (g : Machine) → areas_in p g ≡ its_areas g p
unfolding areas_of view_of
areas_same p g = refl

-- the steps of a partition were done and counted
pub record AreSteps (p went : ℕ) (core : Registers) (memory : Memory) (old mid new : SysState) : Type 0 where
  pub gone : (stepped went (areas_in p old.machine) (part_at p old.machine).core (part_at p old.machine).memory).turn ≡ Went
  pub its_core : (part_at p mid.machine).core ≡ core
  pub its_memory : (part_at p mid.machine).memory ≡ memory
  pub others : mid ≡ with_machine (with_part p (with_turned (part_at p mid.machine).core (part_at p mid.machine).memory (part_at p old.machine)) old.machine) old
  pub counted : new ≡ with_machine (with_part p (counted_on went (part_at p mid.machine)) mid.machine) mid

module _ (g : Machine) (p : ℕ) (first : Bool) (ps : PartitionState) (most : ℕ) (old : SysState) (is : HasMetInterrupts g p first ps most old) where
  -- the partition that takes the steps
  part_is : part_at p old.machine ≡ met g first ps
  part_is = put_there p (met g first ps) g old old is.there is.met

  -- what holds of it and of its areas
  carried : (P : List Area → PartitionState → Type 0) → P (areas_in p old.machine) (part_at p old.machine) → P (its_areas g p) (met g first ps)
  carried P holds =
      subst (P (its_areas g p)) part_is
      (subst (λ (areas : List Area). P areas (part_at p old.machine)) (ap (λ (x : SysState). areas_in p x.machine) is.met ∙ areas_same p g) holds)

  -- it goes undisturbed up to this tick
  undisturbed_to : LeftAreSpan → (within k : ℕ) → NoDelivery (part_at p old.machine).traps → NoneFallsDue old.machine.time (within - 1) true (part_at p old.machine).clocks
      → k ≤ within - 1 → k < most → IsUndisturbed g p first ps k
  undisturbed_to left within k undelivered calm below fewer = record {
    span = left g most k is.running is.frame is.stretch fewer;
    goes = is.goes;
    undelivered = subst (λ (x : PartitionState). NoDelivery x.traps) part_is undelivered;
    timers = earlier_bound k (within - 1) _ below
        (subst (λ (t : ℕ). NoneFallsDue t (within - 1) true (met g first ps).clocks) (ap (λ (x : SysState). x.machine.time) is.met)
        (subst (λ (x : PartitionState). NoneFallsDue old.machine.time (within - 1) true x.clocks) part_is calm));
  }

  -- the system after the steps
  after_steps : (went : ℕ) (core : Registers) (memory : Memory) (mid new : SysState) → AreSteps p went core memory old mid new
      → new ≡ with_machine (with_part p (counted_on went (with_turned core memory (met g first ps))) g) old
  after_steps went core memory mid new steps =
      steps.counted
      ∙ ap (λ (x : SysState). with_machine (with_part p (counted_on went (part_at p x.machine)) x.machine) x) mid_is
      ∙ ap (λ (x : PartitionState). with_machine (with_part p (counted_on went x) (with_part p turned g)) old) (get_or-set_same g.parts p turned (booted_part g.system p) is.there)
      ∙ ap (λ (parts : List PartitionState). with_machine (record g { parts = parts }) old) (set-set g.parts p turned (counted_on went turned))
    where
      turned : PartitionState
      turned = with_turned core memory (met g first ps)

      mid_is : mid ≡ with_machine (with_part p turned g) old
      mid_is =
          steps.others
          ∙ ap (λ (c : Registers). with_machine (with_part p (with_turned c (part_at p mid.machine).memory (part_at p old.machine)) old.machine) old) steps.its_core
          ∙ ap (λ (m : Memory). with_machine (with_part p (with_turned core m (part_at p old.machine)) old.machine) old) steps.its_memory
          ∙ ap (λ (x : PartitionState). with_machine (with_part p (with_turned core memory x) old.machine) old) part_is
          ∙ ap (λ (x : SysState). with_machine (with_part p turned x.machine) old) is.met
          ∙ ap (λ (parts : List PartitionState). with_machine (record g { parts = parts }) old) (set-set g.parts p (met g first ps) turned)

  -- all steps went
  pub went_done : UndisturbedTicks → GoneCalm → LeftAreSpan → OthersRest → RunsKeepNumbers → (within went : ℕ) (core : Registers) (memory : Memory) (mid counted new : SysState) (had all : List ReportLine) (span : Span)
      → NoDelivery (part_at p old.machine).traps → 0 < within → within ≤ most → NoneFallsDue old.machine.time (within - 1) true (part_at p old.machine).clocks
      → AreSteps p went core memory old mid counted
      → IsGone Went went within (areas_in p old.machine) (stepped went (areas_in p old.machine) (part_at p old.machine).core (part_at p old.machine).memory) core memory
      → had ≡ []
      → new ≡ with_machine (after_span (went - 1) (rest_but (Some p) (counted.machine.time + went - 1) counted.machine).parts counted.machine) counted
      → all ≡ had ++ plan_line (went - 1) counted.machine → length all ≤ length had + 1 → span ≡ quiet_span went p true beyond.Nothing → AreDoneFrom span most g old new all
  went_done ticks calms left others keeps within went core memory mid counted new had all span undelivered some bound calm steps gone none new_is all_is few span_is =
      let same : went ≡ within = gone.0 in
      let one : suc (went - 1) ≡ went = omega (arith, same, some) in
      let undisturbed : IsUndisturbed g p first ps (went - 1) = undisturbed_to left within (went - 1) undelivered calm (omega (arith, same)) (omega (arith, same, some, bound)) in
      let has_gone : HasGone went (view_of g.system p) (met g first ps) = carried (λ areas x. (stepped went areas x.core x.memory).turn ≡ Went) steps.gone in
      let quiet : IsQuietSpan g (went - 1) (others_rested (went - 1) p (gone_on went (its_areas g p) (met g first ps)) g) =
      subst (λ (n : ℕ). IsQuietSpan g (went - 1) (others_rested (went - 1) p (gone_on n (its_areas g p) (met g first ps)) g)) one
      (ticks g p first ps (went - 1) undisturbed (subst (λ (n : ℕ). HasGone n (view_of g.system p) (met g first ps)) (sym one) has_gone)) in
      let all_calm : AreCalm went g true =
      λ k below. calms g p first ps k (undisturbed_to left within k undelivered calm (omega (arith, same, below)) (omega (arith, same, below, bound)))
      (earlier_gone (suc k) went (view_of g.system p) (met g first ps) (omega (arith, below)) has_gone) in
      let its_core : core ≡ (stepped went (its_areas g p) (met g first ps).core (met g first ps).memory).core =
      carried (λ areas x. core ≡ (stepped went areas x.core x.memory).core) gone.1 in
      let its_memory : memory ≡ (stepped went (its_areas g p) (met g first ps).core (met g first ps).memory).memory =
      carried (λ areas x. memory ≡ (stepped went areas x.core x.memory).memory) gone.2 in
      slot_done others keeps g p went most (gone_on went (its_areas g p) (met g first ps)) old counted new had all span (omega (arith, same, some)) (omega (arith, same, bound)) is.there quiet all_calm none
      (after_steps went core memory mid counted steps
      ∙ ap (λ (c : Registers). with_machine (with_part p (counted_on went (with_turned c memory (met g first ps))) g) old) its_core
      ∙ ap (λ (m : Memory). with_machine (with_part p (counted_on went (with_turned (stepped went (its_areas g p) (met g first ps).core (met g first ps).memory).core m (met g first ps))) g) old) its_memory)
      new_is all_is few span_is

  -- the steps before one that trapped or called
  pub has_turned : LeftAreSpan → (turn : Turn) (within went pc : ℕ) (core : Registers) (memory : Memory) (mid counted : SysState)
      → NoDelivery (part_at p old.machine).traps → within ≤ most → NoneFallsDue old.machine.time (within - 1) true (part_at p old.machine).clocks
      → AreSteps p went core memory old mid counted → went < within
      → (settled (areas_in p old.machine) (stepped went (areas_in p old.machine) (part_at p old.machine).core (part_at p old.machine).memory).core
      (stepped went (areas_in p old.machine) (part_at p old.machine).core (part_at p old.machine).memory).memory).turn ≡ turn
      → core ≡ (settled (areas_in p old.machine) (stepped went (areas_in p old.machine) (part_at p old.machine).core (part_at p old.machine).memory).core
      (stepped went (areas_in p old.machine) (part_at p old.machine).core (part_at p old.machine).memory).memory).core
      → memory ≡ (settled (areas_in p old.machine) (stepped went (areas_in p old.machine) (part_at p old.machine).core (part_at p old.machine).memory).core
      (stepped went (areas_in p old.machine) (part_at p old.machine).core (part_at p old.machine).memory).memory).memory
      → pc ≡ (stepped went (areas_in p old.machine) (part_at p old.machine).core (part_at p old.machine).memory).core.pc → HasTurned turn g p first ps went most pc counted
  has_turned left turn within went pc core memory mid counted undelivered bound calm steps fewer came core_is memory_is pc_is = record {
    is = undisturbed_to left within went undelivered calm (omega (arith, fewer)) (omega (arith, fewer, bound));
    gone = carried (λ areas x. (stepped went areas x.core x.memory).turn ≡ Went) steps.gone;
    there = is.there;
    fewer = omega (arith, fewer, bound);
    came = carried (λ areas x. (settled areas (stepped went areas x.core x.memory).core (stepped went areas x.core x.memory).memory).turn ≡ turn) came;
    state = state ∙ ap (λ shapes. record { machine = with_part p (turned_state last s) g; shapes = shapes }) (sym (ap (λ (x : SysState). x.shapes) state));
    at = carried (λ areas x. pc ≡ (stepped went areas x.core x.memory).core.pc) pc_is;
  }
    where
      s : PartitionState
      s = gone_on went (its_areas g p) (met g first ps)

      last : Turned
      last = settled (its_areas g p) s.core s.memory

      state : counted ≡ with_machine (with_part p (turned_state last s) g) old
      state =
          after_steps went core memory mid counted steps
          ∙ ap (λ (c : Registers). with_machine (with_part p (counted_on went (with_turned c memory (met g first ps))) g) old)
          (carried (λ areas x. core ≡ (settled areas (stepped went areas x.core x.memory).core (stepped went areas x.core x.memory).memory).core) core_is)
          ∙ ap (λ (m : Memory). with_machine (with_part p (counted_on went (with_turned last.core m (met g first ps))) g) old)
          (carried (λ areas x. memory ≡ (settled areas (stepped went areas x.core x.memory).core (stepped went areas x.core x.memory).memory).memory) memory_is)

-- what was done from a system that was changed is done from it
pub done_before : (span : Span) (most p went : ℕ) (g : Machine) (old mid counted new : SysState) (all : List ReportLine) → counted ≡ with_machine (with_part p (counted_on went (part_at p mid.machine)) mid.machine) mid
    → mid ≡ with_machine (with_part p (with_turned (part_at p mid.machine).core (part_at p mid.machine).memory (part_at p old.machine)) old.machine) old
    → AreDoneFrom span most g counted new all → AreDoneFrom span most g old new all
done_before span most p went g old mid counted new all counted_is mid_is done = record {
  some = done.some;
  within = done.within;
  state = done.state ∙ ap (λ shapes. record { machine = run g span.ticks; shapes = shapes }) (ap (λ (x : SysState). x.shapes) counted_is ∙ ap (λ (x : SysState). x.shapes) mid_is);
  lines = done.lines;
  silent = done.silent;
  few = done.few;
  part = done.part;
  readable = done.readable;
  kept = done.kept;
  running = done.running;
  quiet = done.quiet;
  ends = done.ends;
  bare = done.bare;
}

-- after an instruction that called the program goes on
pub next_after : (p went : ℕ) (areas : List Area) (before : Registers) (bytes : Memory) (mid counted : SysState) → p < length mid.machine.parts
    → counted ≡ with_machine (with_part p (counted_on went (part_at p mid.machine)) mid.machine) mid → (settled areas before bytes).turn ≡ Call
    → (part_at p mid.machine).core ≡ (settled areas before bytes).core → (part_at p counted.machine).core.npc ≡ ((part_at p counted.machine).core.pc + 4) % 2 ^ 32
next_after p went areas before bytes mid counted below is calls core =
    subst (λ (c : Registers). c.npc ≡ (c.pc + 4) % 2 ^ 32) (sym (ap (λ (x : PartitionState). x.core) (put_there p (counted_on went (part_at p mid.machine)) mid.machine counted mid below is) ∙ core))
    (goes.1 ∙ ap (λ (n : ℕ). (n + 4) % 2 ^ 32) (sym goes.0))
  where
    goes : GoesOn before (settled areas before bytes).core
    goes = call_goes_on areas before bytes calls

-- the partition is still there after its steps
pub below_steps : (p : ℕ) (x : PartitionState) (old mid : SysState) → p < length old.machine.parts → mid ≡ with_machine (with_part p x old.machine) old → p < length mid.machine.parts
below_steps p x old mid below is = omega (arith, ap (λ (y : SysState). length y.machine.parts) is, length-set old.machine.parts p x, below)
