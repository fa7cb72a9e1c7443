-- Many ticks of one partition in isolation, as they are done on the whole system.
use Rattle.std.proofs.Common.{◌≡◌, ℕ, zero, suc, ◌+◌, ◌-◌, ◌<◌, ◌≤◌, Bool, true, false, List, [], length, Option, Some, refl, sym, ap, ◌∙◌, subst, arith}
use Rattle.std.specs.Prelude.{◌^◌, if◌then◌else◌, replicate}
use Rattle.std.proofs.lemmas.List.{get_or-set_same, length-set, set-set}
use Rattle.guest_bus.specs.Memory.{Area, Memory}
use Rattle.sparc_step.specs.Execution.{Turned}
use Rattle.sparc_step.specs.Registers.{Registers}
use Rattle.cyclic_plans.specs.PlanClock.{AsksPlan, CyclicClock, IsInFrame, ended, ends_frame, frame_from, next_plan}
use Rattle.sparc_step.specs.declared.outcome.Turn.{Turn}
use Rattle.sparc_step.specs.declared.outcome.Turn.TheVariants.{Went, Trap, Call}
use Rattle.virt_clocks.specs.Clocks.{PartitionClocks, is_due}
use Rattle.virt_traps.specs.Settled.{settled}
use Rattle.virt_traps.specs.Stepping.{stepped}
use Rattle.virt_traps.specs.Virtual.{due}
use Rattle.xm_base.specs.declared.partition.State.TheVariants.{Ready}
use Rattle.xm_conf.specs.Configuration.{Conf}
use Rattle.xm_report.specs.Report.{ReportLine}
use Rattle.cue_scripts.specs.Entries.{bare_cue}
use Rattle.machine_model.specs.Alone.{Alone, alone_from, alone_lines, alone_said, alone_step, alone_step_lines}
use Rattle.machine_model.specs.Facts.{AreFacts, HasFacts, KeepsFactsAlone}
use Rattle.machine_model.specs.Laws.{part}
use Rattle.machine_model.specs.Machine.{Machine, booted_part, copies, is_halt}
use Rattle.machine_model.specs.LocalTick.{goes_on, turned_state, with_interrupts}
use Rattle.machine_model.specs.Partition.{PartitionState, areas_of, rested, takes_turns}
use Rattle.machine_model.specs.Structures.{flag}
use Rattle.machine_model.specs.View.{PartitionView, view_of}
use Rattle.span_model.specs.Meeting.{HasGone, NoDelivery, gone_on}
use Rattle.span_model.specs.Passes.{part_at, with_part}
use Rattle.span_model.specs.Rest.{RestsTwice}
use Rattle.system_state.specs.State.{SysState, areas_in, memory_of, with_machine}
use Rattle.system_state.specs.lemmas.StateLemmas.{part_set}
use Rattle.system_state.specs.Stepping.{IsGone, with_turned}
use Rattle.system_state.specs.declared.served.Note.{Note}
use Rattle.system_state.specs.declared.served.Note.TheVariants as note
use Rattle.replay_model.specs.Passes.{part_in}
use Rattle.replay_model.specs.Taking.{takes_cue}
use Rattle.tick_steps.specs.lemmas.KeptLemmas.{facts_at, facts_with}
use Rattle.tick_steps.specs.Machine.{IsMachine}
use Rattle.tick_steps.specs.Span.{counted_on}
use Rattle.replay_tick.specs.LoneSpan.{AreSilent, AreTaken}
use Rattle.replay_tick.specs.lemmas.LoneSpanTerms.{CanSpan, DoesSpan, HasTurnedAlone, NoneDueAfter, NoneDueIn, aged, ended_at}
use Rattle.replay_tick.specs.lemmas.LoneWorkTerms.{IsLoneTickEnded}
use Rattle.replay_tick.proofs.PutLemmas.{put_then}
use Rattle.replay_tick.proofs.StillLemmas.{AreStill, IsStill, away_still, going_meets, going_still, idle_still, meets_nothing, passed, rested_more, rested_to, rested_turns, resting_still, still_facts, stills, went_all}

-- partition p's part of a machine, when this many ticks have passed that left this of it
abbrev pub alone_at : ℕ → ℕ → PartitionState → Machine → Alone
alone_at k p s g = record { state = s; copies = copies g p; ticks = g.ticks + k; time = g.time + k }

part_aged : (k p : ℕ) (s : PartitionState) (g : Machine) → p < length g.parts → part_in (aged k p s g) p ≡ alone_at k p s g
unfolding part copies
part_aged k p s g below = ap (λ (x : PartitionState). record { state = x; copies = copies g p; ticks = g.ticks + k; time = g.time + k }) (get_or-set_same g.parts p s (booted_part g.system p) below)

part_ended : (k p : ℕ) (s : PartitionState) (g : Machine) → p < length g.parts → part_in (ended_at k p s g) p ≡ alone_at k p s g
unfolding part copies
part_ended k p s g below = ap (λ (x : PartitionState). record { state = x; copies = copies g p; ticks = g.ticks + k; time = g.time + k }) (get_or-set_same g.parts p s (booted_part g.system p) below)

part_now : (p : ℕ) (g : Machine) → part_in g p ≡ alone_at 0 p (part_at p g) g
unfolding part
part_now p g = λ i. record { state = part_at p g; copies = copies g p; ticks = none g.ticks i; time = none g.time i }
  where
    none : (n : ℕ) → n ≡ n + 0
    none n = omega arith

-- the facts on a partition hold when more ticks have begun
facts_more : (view : PartitionView) (n k : ℕ) (halts : Bool) (ps : PartitionState) → AreFacts view n halts ps → AreFacts view (n + k) halts ps
facts_more view n k halts ps is = record {
  traces = omega (arith, is.traces);
  health = omega (arith, is.health);
  execution = omega (arith, is.execution);
  loads = is.loads;
  inputs = is.inputs;
  made = is.made;
}

-- a plan clock that goes on asks for a plan that there is, if for one
asks_ended : (conf : Conf) (clock : CyclicClock) (now : ℕ) → AsksPlan conf clock → AsksPlan conf (ended conf clock now)
unfolding ended
asks_ended conf clock now asks = by (ends_frame conf clock now)
  where
    by : (b : Bool) → AsksPlan conf (if b then frame_from (next_plan clock) (now + 1) else clock)
    by true = tt
    by false = asks

-- a plain cue halts nothing
no_halt : (own : Bool) → is_halt (bare_cue own).whole ≡ false
unfolding bare_cue
no_halt own = refl

-- ticks of one frame, of which each is still
module _ (law : KeepsFactsAlone) (p most ticks : ℕ) (own : Bool) (sys : SysState) (can : CanSpan p most sys) (within : ticks ≤ most)
    (x : ℕ → PartitionState) (begins : x 0 ≡ part_at p sys.machine)
    (each : (k : ℕ) → k < ticks → IsStill (view_of sys.machine.system p) own (alone_at k p (x k) sys.machine) (alone_at (suc k) p (x (suc k)) sys.machine)) where
  abbrev f : ℕ → Alone
  f k = alone_at k p (x k) sys.machine

  starts : part_in sys.machine p ≡ f 0
  starts = part_now p sys.machine ∙ ap (λ (s : PartitionState). alone_at 0 p s sys.machine) (sym begins)

  -- after some of them the rest of the machine is as it was
  some_still : (k : ℕ) → k ≤ ticks → AreStill (view_of sys.machine.system p) own k (f 0) (f k)
  some_still k few = stills (view_of sys.machine.system p) own k f (λ j below. each j (omega (arith, below, few)))

  pub silent : (k : ℕ) → k ≤ ticks → AreSilent p (replicate k (bare_cue own)) sys.machine (aged k p (x k) sys.machine)
  silent k few =
      let view : PartitionView = view_of sys.machine.system p in
      let still : AreStill view own k (f 0) (f k) = some_still k few in
      record {
        taken = subst (λ (a : Alone). AreTaken view a (replicate k (bare_cue own))) (sym starts) still.taken;
        part = part_aged k p (x k) sys.machine can.partition ∙ sym still.step ∙ ap (λ (a : Alone). alone_from view a (replicate k (bare_cue own))) (sym starts);
        lines = ap (λ (a : Alone). alone_lines view a (replicate k (bare_cue own))) starts ∙ still.lines;
        said = ap (λ (a : Alone). alone_said view a (replicate k (bare_cue own))) starts ∙ still.said;
        system = record { system = refl; parts = length-set sys.machine.parts p (x k) };
        running = can.running;
      }

  -- and it stays a machine
  facts_then : (k : ℕ) → k ≤ ticks → AreFacts (view_of sys.machine.system p) (sys.machine.ticks + k) sys.machine.halted (x k)
  facts_then k few =
      subst (λ (b : Bool). AreFacts (view_of sys.machine.system p) (sys.machine.ticks + k) b (x k)) (sym can.running)
      (still_facts law (view_of sys.machine.system p) own k sys.machine.ticks f (λ j below. each j (omega (arith, below, few)))
      (subst (λ (b : Bool). AreFacts (view_of sys.machine.system p) sys.machine.ticks b (x 0)) can.running
      (subst (AreFacts (view_of sys.machine.system p) sys.machine.ticks sys.machine.halted) (sym begins) (facts_at sys p can.machine can.partition))))

  has_facts : (k : ℕ) → k ≤ ticks → HasFacts (aged k p (x k) sys.machine)
  has_facts k few =
      let g : Machine = record sys.machine { time = sys.machine.time + k; ticks = sys.machine.ticks + k } in
      facts_with g p (x k) (λ q ps there. facts_more (view_of sys.machine.system q) sys.machine.ticks k sys.machine.halted ps (can.machine.counted.facts q ps there))
      can.partition (facts_then k few)

  pub aged_machine : (k : ℕ) → k ≤ ticks → k < most → IsMachine (with_machine (aged k p (x k) sys.machine) sys)
  aged_machine k few fewer =
      let frame : IsInFrame sys.machine.system.conf sys.machine.clock sys.machine.time = can.machine.clocked.in_frame in
      record {
        shapes = can.machine.shapes;
        fits = can.machine.fits;
        complete = record { parts = length-set sys.machine.parts p (x k) ∙ can.machine.complete.parts; channels = can.machine.complete.channels };
        clocked = record {
          in_frame = record { plan = frame.plan; begun = omega (arith, frame.begun); before_end = omega (arith, can.within, fewer) };
          asked = can.machine.clocked.asked;
        };
        counted = record { facts = has_facts k few; time = omega (arith, can.machine.counted.time); ticks = omega (arith, can.few, fewer, ap flag can.running) };
      }

  -- a span of them
  pub still_span : (new : SysState) (some : 0 < ticks) → new ≡ with_machine (ended_at ticks p (x ticks) sys.machine) sys
      → IsInFrame new.machine.system.conf new.machine.clock new.machine.time → DoesSpan (record { ticks = ticks; emitted = Some note.Nothing }) p own most sys new []
  still_span new some is frame = record {
    some = some;
    within = within;
    span = record {
      before = aged (ticks - 1) p (x (ticks - 1)) sys.machine;
      silent = silent (ticks - 1) (omega arith);
      counted = refl;
      last = record {
        lone = record {
          taken = ap (λ (a : Alone). takes_cue view a (bare_cue own)) before_is ∙ last.taken;
          part = ap (λ (s : SysState). part_in s.machine p) is ∙ part_ended ticks p (x ticks) sys.machine can.partition ∙ sym steps ∙ ap (λ (a : Alone). alone_step view a (bare_cue own)) (sym before_is);
          halted = ap (λ (s : SysState). s.machine.halted) is ∙ can.running ∙ sym (no_halt own);
        };
        lines = ap (λ (a : Alone). alone_step_lines view a (bare_cue own)) before_is ∙ last.lines;
        readable = tt;
        few = omega arith;
      };
    };
    machine = subst IsMachine (sym is) (record {
      shapes = can.machine.shapes;
      fits = can.machine.fits;
      complete = record { parts = length-set sys.machine.parts p (x ticks) ∙ can.machine.complete.parts; channels = can.machine.complete.channels };
      clocked = record {
        in_frame = subst (λ (g : Machine). IsInFrame g.system.conf g.clock g.time) (ap (λ (s : SysState). s.machine) is) frame;
        asked = asks_ended sys.machine.system.conf sys.machine.clock (sys.machine.time + ticks - 1) can.machine.clocked.asked;
      };
      counted = record { facts = has_facts ticks (omega arith); time = omega (arith, can.machine.counted.time); ticks = omega (arith, can.few, within, ap flag can.running) };
    });
    system = record {
      system = ap (λ (s : SysState). s.machine.system) is;
      parts = ap (λ (s : SysState). length s.machine.parts) is ∙ length-set sys.machine.parts p (x ticks);
    };
  }
    where
      view : PartitionView
      view = view_of sys.machine.system p

      one : suc (ticks - 1) ≡ ticks
      one = omega (arith, some)

      last : IsStill view own (f (ticks - 1)) (f (suc (ticks - 1)))
      last = each (ticks - 1) (omega (arith, some))

      steps : alone_step view (f (ticks - 1)) (bare_cue own) ≡ f ticks
      steps = last.step ∙ ap f one

      before_is : part_in (aged (ticks - 1) p (x (ticks - 1)) sys.machine) p ≡ f (ticks - 1)
      before_is = part_aged (ticks - 1) p (x (ticks - 1)) sys.machine can.partition

-- ticks in which the partition rests
rested_alone : (k p : ℕ) (ps : PartitionState) (g : Machine) → RestsTwice
    → passed (rested (alone_at k p (rested_to k g.time ps) g).time (alone_at k p (rested_to k g.time ps) g).state) (alone_at k p (rested_to k g.time ps) g) ≡ alone_at (suc k) p (rested_to (suc k) g.time ps) g
rested_alone k p ps g twice = λ i. record { state = rested_more twice k g.time ps i; copies = copies g p; ticks = sum g.ticks k i; time = sum g.time k i }
  where
    sum : (n j : ℕ) → (n + j) + 1 ≡ n + suc j
    sum n j = omega arith

-- what this many ticks leave of a partition that rested in the last
last_rest : (ticks time : ℕ) (ps : PartitionState) → 0 < ticks → rested_to ticks time ps ≡ rested (time + ticks - 1) ps
last_rest zero time ps some = absurd (omega (arith, some))
last_rest (suc k) time ps some = ap (λ (t : ℕ). rested t ps) (sum time k)
  where
    sum : (n j : ℕ) → n + j ≡ n + suc j - 1
    sum n j = omega arith

-- in slots of others, and in slots of its own in which it takes no turns
module _ (law : KeepsFactsAlone) (twice : RestsTwice) (p most ticks : ℕ) (sys new : SysState) (can : CanSpan p most sys) (some : 0 < ticks) (within : ticks ≤ most)
    (is : new ≡ with_machine (ended_at ticks p (rested (sys.machine.time + ticks - 1) (part_at p sys.machine)) sys.machine) sys)
    (frame : IsInFrame new.machine.system.conf new.machine.clock new.machine.time) where
  abbrev rests : ℕ → PartitionState
  rests k = rested_to k sys.machine.time (part_at p sys.machine)

  rests_is : new ≡ with_machine (ended_at ticks p (rests ticks) sys.machine) sys
  rests_is = is ∙ ap (λ (s : PartitionState). with_machine (ended_at ticks p s sys.machine) sys) (sym (last_rest ticks sys.machine.time (part_at p sys.machine) some))

  pub away_span : DoesSpan (record { ticks = ticks; emitted = Some note.Nothing }) p false most sys new []
  away_span =
      still_span law p most ticks false sys can within rests refl
      (λ k below. subst (IsStill (view_of sys.machine.system p) false (alone_at k p (rests k) sys.machine)) (rested_alone k p (part_at p sys.machine) sys.machine twice)
      (away_still (view_of sys.machine.system p) (alone_at k p (rests k) sys.machine))) new some rests_is frame

  pub resting_span : takes_turns (part_at p sys.machine).state ≡ false → DoesSpan (record { ticks = ticks; emitted = Some note.Nothing }) p true most sys new []
  resting_span none =
      still_span law p most ticks true sys can within rests refl
      (λ k below. subst (IsStill (view_of sys.machine.system p) true (alone_at k p (rests k) sys.machine)) (rested_alone k p (part_at p sys.machine) sys.machine twice)
      (resting_still (view_of sys.machine.system p) (alone_at k p (rests k) sys.machine) (rested_turns k sys.machine.time (part_at p sys.machine) ∙ none))) new some rests_is frame

-- no timer is due in the first of some ticks, nor does the partition meet anything
none_now : (time : ℕ) (ps : PartitionState) → NoneDueAfter time 0 true ps.clocks → is_due ps.clocks.execution ps.clocks.execution_timer ≡ false
none_now time ps none = ap (λ n. is_due n ps.clocks.execution_timer) (same ps.clocks.execution) ∙ none.execution
  where
    same : (n : ℕ) → n ≡ n + 0
    same n = omega arith

-- in slots of its own in which it is idle and nothing wakes it
pub idle_span : KeepsFactsAlone → (p most ticks : ℕ) (sys new : SysState) → CanSpan p most sys → 0 < ticks → ticks ≤ most → takes_turns (part_at p sys.machine).state ≡ true
    → goes_on (part_at p sys.machine).state false (due (part_at p sys.machine).traps) ≡ false → NoneDueAfter sys.machine.time 0 true (part_at p sys.machine).clocks
    → NoneDueIn sys.machine.time ticks false (part_at p sys.machine).clocks → new ≡ with_machine (ended_at ticks p (part_at p sys.machine) sys.machine) sys
    → IsInFrame new.machine.system.conf new.machine.clock new.machine.time → DoesSpan (record { ticks = ticks; emitted = Some note.Nothing }) p true most sys new []
idle_span law p most ticks sys new can some within turns stays now none is frame =
    still_span law p most ticks true sys can within (λ k. part_at p sys.machine) refl
    (λ k below. subst (IsStill (view_of sys.machine.system p) true (alone_at k p (part_at p sys.machine) sys.machine)) (later k)
    (idle_still (view_of sys.machine.system p) (alone_at k p (part_at p sys.machine) sys.machine) turns
    (meets_nothing (sys.machine.time + k) (part_at p sys.machine) (none k below).hardware (none_now sys.machine.time (part_at p sys.machine) now)) stays)) new some is frame
  where
    sum : (n j : ℕ) → (n + j) + 1 ≡ n + suc j
    sum n j = omega arith

    later : (k : ℕ) → passed (part_at p sys.machine) (alone_at k p (part_at p sys.machine) sys.machine) ≡ alone_at (suc k) p (part_at p sys.machine) sys.machine
    later k = λ i. record { state = part_at p sys.machine; copies = copies sys.machine p; ticks = sum sys.machine.ticks k i; time = sum sys.machine.time k i }

-- in slots of its own in which it is ready, no interrupt can be delivered, and its instructions go
module _ (law : KeepsFactsAlone) (p most ticks : ℕ) (sys : SysState) (can : CanSpan p most sys) (within : ticks ≤ most) (ready : (part_at p sys.machine).state ≡ Ready)
    (undelivered : NoDelivery (part_at p sys.machine).traps) (none : NoneDueIn sys.machine.time most true (part_at p sys.machine).clocks)
    (went : HasGone ticks (view_of sys.machine.system p) (part_at p sys.machine)) where
  abbrev goes : ℕ → PartitionState
  goes k = gone_on k (areas_of (view_of sys.machine.system p)) (part_at p sys.machine)

  begins : goes 0 ≡ part_at p sys.machine
  begins = λ i. record (part_at p sys.machine) { clocks = record (part_at p sys.machine).clocks { execution = same (part_at p sys.machine).clocks.execution i } }
    where
      same : (n : ℕ) → n + 0 ≡ n
      same n = omega arith

  each_goes : (k : ℕ) → k < ticks → IsStill (view_of sys.machine.system p) true (alone_at k p (goes k) sys.machine) (alone_at (suc k) p (goes (suc k)) sys.machine)
  each_goes k below =
      subst (IsStill (view_of sys.machine.system p) true (alone_at k p (goes k) sys.machine)) later
      (going_still (view_of sys.machine.system p) (alone_at k p (goes k) sys.machine) (part_at p sys.machine) k sys.machine.time refl refl ready undelivered (none k (omega (arith, below, within)))
      (went_all ticks (suc k) (view_of sys.machine.system p) (part_at p sys.machine) (omega (arith, below)) went))
    where
      sum : (n j : ℕ) → (n + j) + 1 ≡ n + suc j
      sum n j = omega arith

      later : passed (goes (suc k)) (alone_at k p (goes k) sys.machine) ≡ alone_at (suc k) p (goes (suc k)) sys.machine
      later = λ i. record { state = goes (suc k); copies = copies sys.machine p; ticks = sum sys.machine.ticks k i; time = sum sys.machine.time k i }

  -- all of them go
  pub going_span : (new : SysState) → 0 < ticks → new ≡ with_machine (ended_at ticks p (goes ticks) sys.machine) sys
      → IsInFrame new.machine.system.conf new.machine.clock new.machine.time → DoesSpan (record { ticks = ticks; emitted = Some note.Nothing }) p true most sys new []
  going_span new some is frame = still_span law p most ticks true sys can within goes begins each_goes new some is frame

  -- the machine before one that does more
  pub gone_machine : ticks < most → IsMachine (with_machine (aged ticks p (goes ticks) sys.machine) sys)
  gone_machine fewer = aged_machine law p most ticks true sys can within goes begins each_goes ticks (omega arith) fewer

  gone_part : part_at p (aged ticks p (goes ticks) sys.machine) ≡ goes ticks
  gone_part = get_or-set_same sys.machine.parts p (goes ticks) (booted_part sys.machine.system p) can.partition

  -- an instruction that has a turn then
  pub gone_turned : (turn : Turn) (pc : ℕ) (now : SysState) → ticks < most
      → turn ≡ (settled (areas_in p sys.machine) (goes ticks).core (goes ticks).memory).turn
      → now ≡ with_machine (aged ticks p (turned_state (settled (areas_in p sys.machine) (goes ticks).core (goes ticks).memory) (goes ticks)) sys.machine) sys
      → pc ≡ (goes ticks).core.pc → HasTurnedAlone p turn pc (with_machine (aged ticks p (goes ticks) sys.machine) sys) now
  gone_turned turn pc now fewer came is at = record {
    machine = gone_machine fewer;
    partition = subst (λ n. p < n) (sym (length-set sys.machine.parts p (goes ticks))) can.partition;
    running = can.running;
    more = omega (arith, can.few, fewer);
    ready = ap (λ (x : PartitionState). x.state) gone_part ∙ ready;
    met = ap (λ (x : PartitionState). with_interrupts (sys.machine.time + ticks) false x) gone_part
        ∙ going_meets sys.machine.time ticks (view_of sys.machine.system p) (part_at p sys.machine) (none ticks fewer) ∙ sym gone_part;
    undelivered = subst (λ (x : PartitionState). NoDelivery x.traps) (sym gone_part) undelivered;
    came = came ∙ ap (λ (x : PartitionState). (settled (areas_in p sys.machine) x.core x.memory).turn) (sym gone_part);
    state = is
        ∙ ap (λ (x : PartitionState). with_machine (aged ticks p (turned_state (settled (areas_in p sys.machine) x.core x.memory) x) sys.machine) sys) (sym gone_part)
        ∙ ap (λ (parts : List PartitionState). with_machine (record sys.machine { parts = parts; time = sys.machine.time + ticks; ticks = sys.machine.ticks + ticks }) sys)
        (sym (set-set sys.machine.parts p (goes ticks) _));
    at = at ∙ ap (λ (x : PartitionState). x.core.pc) (sym gone_part);
  }

  -- and a span that ends with it
  pub turned_span : (emitted : Option Note) (new : SysState) (got : List ReportLine) → ticks < most → IsLoneTickEnded emitted p (bare_cue true) (with_machine (aged ticks p (goes ticks) sys.machine) sys) new got
      → DoesSpan (record { ticks = ticks + 1; emitted = emitted }) p true most sys new got
  turned_span emitted new got fewer ended = record {
    some = omega arith;
    within = omega (arith, fewer);
    span = record {
      before = aged ticks p (goes ticks) sys.machine;
      silent = subst (λ n. AreSilent p (replicate n (bare_cue true)) sys.machine (aged ticks p (goes ticks) sys.machine)) (one ticks)
          (silent law p most ticks true sys can within goes begins each_goes ticks (omega arith));
      counted = ap (λ n. sys.machine.ticks + n) (one ticks);
      last = ended.tick;
    };
    machine = ended.machine;
    system = record { system = ended.system.system; parts = ended.system.parts ∙ length-set sys.machine.parts p (goes ticks) };
  }
    where
      one : (n : ℕ) → n ≡ n + 1 - 1
      one n = omega arith

-- the areas of a partition
areas_same : (p : ℕ) (g : Machine) → areas_in p g ≡ areas_of (view_of g.system p)
unfolding areas_of view_of
areas_same p g = refl

-- the system after steps of a partition that were counted
pub steps_counted : (p w : ℕ) (core : Registers) (memory : Memory) (sys mid counted : SysState) → p < length sys.machine.parts
    → mid ≡ with_machine (with_part p (with_turned (part_at p mid.machine).core (memory_of p mid.machine) (part_at p sys.machine)) sys.machine) sys
    → (part_at p mid.machine).core ≡ core → memory_of p mid.machine ≡ memory → counted ≡ with_machine (with_part p (counted_on w (part_at p mid.machine)) mid.machine) mid
    → counted ≡ with_machine (with_part p (counted_on w (with_turned core memory (part_at p sys.machine))) sys.machine) sys
steps_counted p w core memory sys mid counted below mid_is core_is memory_is counted_is =
    put_then (counted_on w) p (with_turned (part_at p mid.machine).core (memory_of p mid.machine) (part_at p sys.machine)) sys mid counted below mid_is counted_is
    ∙ ap (λ (c : Registers). with_machine (with_part p (counted_on w (with_turned c (memory_of p mid.machine) (part_at p sys.machine))) sys.machine) sys) core_is
    ∙ ap (λ (m : Memory). with_machine (with_part p (counted_on w (with_turned core m (part_at p sys.machine))) sys.machine) sys) memory_is

-- they were at most this many
pub steps_few : (turn : Turn) (w most : ℕ) (areas : List Area) (before : Turned) (core : Registers) (memory : Memory) → IsGone turn w most areas before core memory → w ≤ most
steps_few Went w most areas before core memory gone = omega (arith, gone.0)
steps_few (Trap type) w most areas before core memory gone = omega (arith, gone.0)
steps_few Call w most areas before core memory gone = omega (arith, gone.0)

-- its execution clock has room for them
pub steps_room : (p most w : ℕ) (x : PartitionState) (sys mid : SysState) → CanSpan p most sys → w ≤ most → mid ≡ with_machine (with_part p x sys.machine) sys → x.clocks ≡ (part_at p sys.machine).clocks
    → (part_at p mid.machine).clocks.execution + w < 2 ^ 63
steps_room p most w x sys mid can within mid_is same =
    let few : (part_at p sys.machine).clocks.execution ≤ sys.machine.ticks + flag sys.machine.halted = (facts_at sys p can.machine can.partition).execution in
    let none : flag sys.machine.halted ≡ 0 = ap flag can.running in
    omega (arith, few, none, can.few, within, ap (λ (y : PartitionState). y.clocks.execution) (part_set sys mid p x can.partition mid_is), ap (λ (c : PartitionClocks). c.execution) same)

-- instructions that went, and then one that had this turn
module _ (law : KeepsFactsAlone) (p most w pc : ℕ) (sys mid counted : SysState) (can : CanSpan p most sys) (ready : (part_at p sys.machine).state ≡ Ready)
    (undelivered : NoDelivery (part_at p sys.machine).traps) (none : NoneDueIn sys.machine.time most true (part_at p sys.machine).clocks)
    (went : (stepped w (areas_in p sys.machine) (part_at p sys.machine).core (memory_of p sys.machine)).turn ≡ Went)
    (at : pc ≡ (stepped w (areas_in p sys.machine) (part_at p sys.machine).core (memory_of p sys.machine)).core.pc)
    (mid_is : mid ≡ with_machine (with_part p (with_turned (part_at p mid.machine).core (memory_of p mid.machine) (part_at p sys.machine)) sys.machine) sys)
    (counted_is : counted ≡ with_machine (with_part p (counted_on w (part_at p mid.machine)) mid.machine) mid) where
  abbrev steps : List Area → Turned
  steps areas = stepped w areas (part_at p sys.machine).core (memory_of p sys.machine)

  abbrev last : List Area → Turned
  last areas = settled areas (steps areas).core (steps areas).memory

  has_gone : HasGone w (view_of sys.machine.system p) (part_at p sys.machine)
  has_gone = ap (λ (areas : List Area). (steps areas).turn) (sym (areas_same p sys.machine)) ∙ went

  -- all of them went
  pub went_span : (new : SysState) → w ≡ most → (part_at p mid.machine).core ≡ (steps (areas_in p sys.machine)).core → memory_of p mid.machine ≡ (steps (areas_in p sys.machine)).memory
      → new ≡ with_machine (record counted.machine { clock = ended counted.machine.system.conf counted.machine.clock (counted.machine.time + w - 1); time = counted.machine.time + w; ticks = counted.machine.ticks + w }) counted
      → (AsksPlan counted.machine.system.conf counted.machine.clock → IsInFrame new.machine.system.conf new.machine.clock new.machine.time)
      → DoesSpan (record { ticks = w; emitted = Some note.Nothing }) p true most sys new []
  went_span new all core_is memory_is new_is frame =
      let so : counted ≡ with_machine (with_part p (gone_on w (areas_in p sys.machine) (part_at p sys.machine)) sys.machine) sys =
      steps_counted p w (steps (areas_in p sys.machine)).core (steps (areas_in p sys.machine)).memory sys mid counted can.partition mid_is core_is memory_is counted_is in
      going_span law p most w sys can (omega (arith, all)) ready undelivered none has_gone new (omega (arith, all, can.some))
      (new_is ∙ ap (λ (s : SysState). with_machine (record s.machine { clock = ended s.machine.system.conf s.machine.clock (s.machine.time + w - 1); time = s.machine.time + w; ticks = s.machine.ticks + w }) s) so
      ∙ ap (λ (areas : List Area). with_machine (ended_at w p (gone_on w areas (part_at p sys.machine)) sys.machine) sys) (areas_same p sys.machine))
      (frame (subst (λ (s : SysState). AsksPlan s.machine.system.conf s.machine.clock) (sym so) can.machine.clocked.asked))

  module _ (turn : Turn) (now : SysState) (fewer : w < most) (came : (last (areas_in p sys.machine)).turn ≡ turn)
      (core_is : (part_at p mid.machine).core ≡ (last (areas_in p sys.machine)).core) (memory_is : memory_of p mid.machine ≡ (last (areas_in p sys.machine)).memory)
      (now_is : now ≡ with_machine (record counted.machine { time = counted.machine.time + w; ticks = counted.machine.ticks + w }) counted) where
    -- the system before the last
    abbrev pub before : SysState
    before = with_machine (aged w p (gone_on w (areas_of (view_of sys.machine.system p)) (part_at p sys.machine)) sys.machine) sys

    pub steps_turned : HasTurnedAlone p turn pc before now
    steps_turned =
        gone_turned law p most w sys can (omega (arith, fewer)) ready undelivered none has_gone turn pc now fewer
        (sym came ∙ ap (λ (areas : List Area). (settled (areas_in p sys.machine) (steps areas).core (steps areas).memory).turn) (areas_same p sys.machine))
        (now_is
        ∙ ap (λ (s : SysState). with_machine (record s.machine { time = s.machine.time + w; ticks = s.machine.ticks + w }) s)
        (steps_counted p w (last (areas_in p sys.machine)).core (last (areas_in p sys.machine)).memory sys mid counted can.partition mid_is core_is memory_is counted_is)
        ∙ ap (λ (areas : List Area). with_machine (aged w p (turned_state (settled (areas_in p sys.machine) (steps areas).core (steps areas).memory) (gone_on w areas (part_at p sys.machine))) sys.machine) sys)
        (areas_same p sys.machine))
        (at ∙ ap (λ (areas : List Area). (steps areas).core.pc) (areas_same p sys.machine))

    pub steps_span : (emitted : Option Note) (new : SysState) (got : List ReportLine) → IsLoneTickEnded emitted p (bare_cue true) before new got → DoesSpan (record { ticks = w + 1; emitted = emitted }) p true most sys new got
    steps_span emitted new got ended = turned_span law p most w sys can (omega (arith, fewer)) ready undelivered none has_gone emitted new got fewer ended
