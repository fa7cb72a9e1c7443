-- Runs of the machine by parts: how one goes on, is cut off by its sink, or ends as the hypervisor halts.
use Rattle.std.proofs.Common.{◌≡◌, ⊎_elim, ℕ, zero, suc, ◌+◌, ◌-◌, ◌*◌, ◌<◌, ◌≤◌, Bool, false, true, List, [], ◌++◌, length, Option, Result, Ok, Err, refl, sym, ap, ◌∙◌, subst, arith, length-append}
use Rattle.std.specs.Prelude.{IfOk, not}
use Rattle.std.proofs.lemmas.Bool.{cases_lt}
use Rattle.std.proofs.lemmas.List.{append-nil}
use Rattle.xm_outside.specs.Growth.{grown, GrewByPrefix}
use Rattle.xm_outside.specs.lemmas.GrowthLemmas.{grown-nothing, grown_grown}
use Rattle.xm_report.specs.Report.{ReportLine, texts}
use Rattle.xm_report.specs.lemmas.ReportLemmas.{texts-append}
use Rattle.xm_report.specs.declared.output.WriteFault.{WriteFault}
use Rattle.machine_model.specs.lemmas.TickLemmas.{step_halted}
use Rattle.machine_model.specs.Lines.{lines, lines_unless, step_lines}
use Rattle.machine_model.specs.Machine.{Machine, run, step}
use Rattle.machine_model.specs.Structures.{flag}
use Rattle.system_state.specs.State.{SysState}
use Rattle.span_model.specs.lemmas.RunLemmas.{lines_add, run_add}
use Rattle.xm_machine.proofs.FrontLemmas.{front_of_all}
use Rattle.tick_steps.specs.lemmas.KeptLemmas.{run_halted, ticks_exact, ticks_least}
use Rattle.xm_machine.specs.Outcome.{HasWriteCause, IsTick}
use Rattle.span_engine.specs.Spans.{IsSpanDone}
use Rattle.tick_steps.specs.Span.{console_lines, ends_so}
use Rattle.xm_machine.specs.Steps.{AreCut, IsStepCut}
use Rattle.xm_machine.specs.lemmas.StepsTerms.{AreRun, IsStep, Prints}
use Rattle.xm_machine.specs.lemmas.StretchTerms.{AreStepped, Steps, stepped_by}
use Rattle.xm_machine.specs.Stretch.{IsStretchCut}
use Rattle.tick_steps.specs.declared.span.Span.{Span}

-- the lines of a run, and of more ticks
texts_add : (g mid : Machine) (j k : ℕ) → mid ≡ run g j → texts (lines g (j + k)) ≡ texts (lines g j) ++ texts (lines mid k)
texts_add g mid j k is =
    ap texts (lines_add g j k) ∙ texts-append (lines g j) (lines (run g j) k)
    ∙ ap (λ (m : Machine). texts (lines g j) ++ texts (lines m k)) (sym is)

-- a longer run has no fewer lines
pub lines_grow : (g : Machine) (j k : ℕ) → j ≤ k → length (texts (lines g j)) ≤ length (texts (lines g k))
lines_grow g j k less =
    let rest : k ≡ j + (k - j) = omega arith in
    omega (
      arith,
      ap (λ (n : ℕ). length (texts (lines g n))) rest,
      ap length (texts_add g (run g j) j (k - j) refl),
      length-append (texts (lines g j)) (texts (lines (run g j) (k - j))),
    )

-- a machine that has halted has no more lines
step_silent : (g : Machine) → g.halted ≡ true → step_lines g ≡ []
unfolding step_lines
step_silent g halts = ap (λ b. lines_unless b g) halts

pub lines_halted : (k : ℕ) (g : Machine) → g.halted ≡ true → lines g k ≡ []
lines_halted zero g halts = refl
lines_halted (suc k) g halts =
    ap (λ (first : List ReportLine). first ++ lines (step g) k) (step_silent g halts)
    ∙ ap (λ (m : Machine). lines m k) (step_halted g halts) ∙ lines_halted k g halts

-- a tick of a machine that has halted
pub halted_tick : (g : Machine) (had : Option (List ℕ)) → g.halted ≡ true → IsTick {T = Unit {0}} (Ok tt) g g had had
halted_tick g had halts = record {
  state = sym (step_halted g halts);
  report = sym (grown-nothing had) ∙ ap (λ (l : List ReportLine). grown had (texts l)) (sym (step_silent g halts));
}

-- ticks of a span were done, and what they emitted was printed
pub step_printed : (printed : ℕ) (ends : Bool) (span : Span) (most : ℕ) (old new : SysState) (after : List ReportLine) (had got : Option (List ℕ)) → IsSpanDone span most old new after
    → ends ≡ ends_so span.note span.reach → Prints (Ok printed) (console_lines span old.machine new.machine ++ after) had got
    → AreStepped (record { ticks = span.ticks; lines = printed; ends = ends }) most old.machine new.machine had got
step_printed printed ends span most old new after had got done ends_is prints = record {
  step = record {
    done = span.ticks;
    some = done.some;
    within = done.within;
    are = record {
      state = ap (λ (s : SysState). s.machine) done.state;
      count = prints.0 ∙ ap length (sym done.lines);
      report = prints.1 ∙ ap (λ (l : List ReportLine). grown had (texts l)) (sym done.lines);
    };
  };
  ticks = refl;
  quiet = done.quiet;
  ends = done.ends ∙ sym ends_is;
}

-- and what they emitted was not all printed
pub step_cut : (span : Span) (most : ℕ) (old new : SysState) (after : List ReportLine) (had got : Option (List ℕ)) → IsSpanDone span most old new after
    → GrewByPrefix had (texts (console_lines span old.machine new.machine ++ after)) got → IsStretchCut most old.machine new.machine had got
step_cut span most old new after had got done cut =
    let front : GrewByPrefix had (texts (lines old.machine span.ticks)) got = subst (λ (l : List ReportLine). GrewByPrefix had (texts l) got) (sym done.lines) cut in
    let none : length (texts (lines old.machine (span.ticks - 1))) ≡ 0 = ap (λ (l : List ReportLine). length (texts l)) done.silent in
    record {
      cut = record {
        done = span.ticks;
        some = done.some;
        within = done.within;
        are = record {
          state = ap (λ (s : SysState). s.machine) done.state;
          report = front;
          whole = λ k below. omega (arith, none, lines_grow old.machine k (span.ticks - 1) (omega (arith, below)));
          cut = front.short;
        };
      };
      quiet = done.quiet;
    }

-- and both
pub step_so : (printed : Result ℕ WriteFault) (ends : Bool) (span : Span) (most : ℕ) (old new : SysState) (after : List ReportLine) (had got : Option (List ℕ)) → IsSpanDone span most old new after
    → ends ≡ ends_so span.note span.reach → Prints printed (console_lines span old.machine new.machine ++ after) had got
    → Steps (stepped_by printed span.ticks ends) most old.machine new.machine had got
step_so (Ok lines) ends span most old new after had got done is prints = step_printed lines ends span most old new after had got done is prints
step_so (Err fault) ends span most old new after had got done is prints = step_cut span most old new after had got done prints

-- they printed few lines, and the sink's count has the cause that it has
pub few_so : (printed : Result ℕ WriteFault) (ticks : ℕ) (ends : Bool) → IfOk printed (λ lines. lines ≤ 41) → IfOk (stepped_by printed ticks ends) (λ s. s.lines ≤ 41)
few_so (Ok lines) ticks ends few = few
few_so (Err fault) ticks ends few = tt

pub cause_so : (printed : Result ℕ WriteFault) (ticks : ℕ) (ends : Bool) (before now : ℕ) → HasWriteCause printed before now → HasWriteCause (stepped_by printed ticks ends) before now
cause_so (Ok lines) ticks ends before now cause = cause
cause_so (Err fault) ticks ends before now cause = cause

-- a run is on its way: this many of its ticks at most were done, and each printed a few lines
pub record Goes (printed ticks : ℕ) (old new : Machine) (had got : Option (List ℕ)) : Type 0 where
  pub done : ℕ
  pub within : done ≤ ticks
  pub few : printed ≤ 41 * done
  pub are : AreRun done printed old new had got

-- it begins
pub begins : (ticks : ℕ) (g : Machine) (had : Option (List ℕ)) → Goes 0 ticks g g had had
begins ticks g had = record {
  done = 0;
  within = omega arith;
  few = omega arith;
  are = record { state = refl; count = refl; report = sym (grown-nothing had) };
}

-- the state after more ticks
pub state_on : (g mid new : Machine) (done more : ℕ) → mid ≡ run g done → new ≡ run mid more → new ≡ run g (done + more)
state_on g mid new done more is then = then ∙ ap (λ (m : Machine). run m more) is ∙ sym (run_add g done more)

-- as long as the hypervisor has not halted the ticks done are those that were counted
pub counted : (printed ticks : ℕ) (old new : Machine) (had got : Option (List ℕ)) → (goes : Goes printed ticks old new had got) → new.halted ≡ false → new.ticks ≡ old.ticks + goes.done
counted printed ticks old new had got goes runs =
    ap (λ (m : Machine). m.ticks) goes.are.state ∙ ticks_exact goes.done old (sym (ap (λ (m : Machine). m.halted) goes.are.state) ∙ runs)

-- ticks that were done, and more of them
pub run_on : (g mid new : Machine) (printed count done more : ℕ) (had before got : Option (List ℕ)) → AreRun done printed g mid had before → AreRun more count mid new before got → AreRun (done + more) (printed + count) g new had got
run_on g mid new printed count done more had before got are then = record {
  state = state_on g mid new done more are.state then.state;
  count = omega (arith, are.count, then.count, ap length (lines_add g done more), length-append (lines g done) (lines (run g done) more), ap (λ (m : Machine). length (lines m more)) are.state);
  report = then.report ∙ ap (λ (m : Option (List ℕ)). grown m (texts (lines mid more))) are.report
      ∙ grown_grown had (texts (lines g done)) (texts (lines mid more)) ∙ ap (grown had) (sym (texts_add g mid done more are.state));
}

-- and more, of which the last was cut off
pub cut_on : (g mid new : Machine) (printed done more : ℕ) (had before got : Option (List ℕ)) → AreRun done printed g mid had before → AreCut more mid new before got → AreCut (done + more) g new had got
cut_on g mid new printed done more had before got are then =
    let both : texts (lines g (done + more)) ≡ texts (lines g done) ++ texts (lines mid more) = texts_add g mid done more are.state in
    let front : GrewByPrefix had (texts (lines g (done + more))) got =
    front_of_all had before got (texts (lines g done)) (texts (lines mid more)) [] (texts (lines g (done + more)))
    (both ∙ sym (append-nil (texts (lines g done) ++ texts (lines mid more)))) are.report then.report in
    record {
      state = state_on g mid new done more are.state then.state;
      report = front;
      whole = λ j below. ⊎_elim (earlier j) (later j below) (cases_lt j done);
      cut = front.short;
    }
  where
    earlier : (j : ℕ) → j < done → length (texts (lines g j)) ≤ length (texts (lines g done)) + then.report.count
    earlier j less = omega (arith, lines_grow g j done (omega arith))

    later : (j : ℕ) → j < done + more → done ≤ j → length (texts (lines g j)) ≤ length (texts (lines g done)) + then.report.count
    later j below from =
        let rest : j ≡ done + (j - done) = omega arith in
        omega (
          arith,
          ap (λ (n : ℕ). length (texts (lines g n))) rest,
          ap length (texts_add g mid done (j - done) are.state),
          length-append (texts (lines g done)) (texts (lines mid (j - done))),
          then.whole (j - done) (omega arith),
        )

-- it goes on
pub goes_on : (g mid new : Machine) (printed count most ticks : ℕ) (had before got : Option (List ℕ)) → (goes : Goes printed ticks g mid had before) → (step : IsStep count most mid new before got) → count ≤ 41 * step.done → goes.done + most ≤ ticks → Goes (printed + count) ticks g new had got
goes_on g mid new printed count most ticks had before got goes step few room = record {
  done = goes.done + step.done;
  within = omega (arith, step.within, room);
  few = omega (arith, goes.few, few);
  are = run_on g mid new printed count goes.done step.done had before got goes.are step.are;
}

-- it is cut off
pub goes_cut : (g mid new : Machine) (printed most ticks : ℕ) (had before got : Option (List ℕ)) → (goes : Goes printed ticks g mid had before) → IsStepCut most mid new before got → goes.done + most ≤ ticks → IsStepCut ticks g new had got
goes_cut g mid new printed most ticks had before got goes step room = record {
  done = goes.done + step.done;
  some = omega (arith, step.some);
  within = omega (arith, step.within, room);
  are = cut_on g mid new printed goes.done step.done had before got goes.are step.are;
}

-- a run after which the hypervisor has halted is one of more ticks, too
halted_run : (g new : Machine) (done ticks printed : ℕ) (had got : Option (List ℕ)) → AreRun done printed g new had got → new.halted ≡ true → done ≤ ticks → AreRun ticks printed g new had got
halted_run g new done ticks printed had got are halts within =
    let rest : ticks ≡ done + (ticks - done) = omega arith in
    let still : (run g done).halted ≡ true = sym (ap (λ (m : Machine). m.halted) are.state) ∙ halts in
    let stays : run g ticks ≡ run g done = ap (run g) rest ∙ run_add g done (ticks - done) ∙ run_halted (ticks - done) (run g done) still in
    let same : lines g ticks ≡ lines g done =
    ap (lines g) rest ∙ lines_add g done (ticks - done) ∙ ap (λ (l : List ReportLine). lines g done ++ l) (lines_halted (ticks - done) (run g done) still) ∙ append-nil (lines g done) in
    record {
      state = are.state ∙ sym stays;
      count = are.count ∙ ap length (sym same);
      report = are.report ∙ ap (λ (l : List ReportLine). grown had (texts l)) (sym same);
    }

-- the run has reached its end: the hypervisor has halted, or all ticks are done
pub goes_out : (printed ticks : ℕ) (g new : Machine) (had got : Option (List ℕ)) → Goes printed ticks g new had got → (new.halted ≡ false → g.ticks + ticks ≤ new.ticks) → AreRun ticks printed g new had got
goes_out printed ticks g new had got goes ends = at new.halted refl
  where
    at : (b : Bool) → new.halted ≡ b → AreRun ticks printed g new had got
    at true halts = halted_run g new goes.done ticks printed had got goes.are halts goes.within
    at false runs =
        let all : goes.done ≡ ticks = omega (arith, counted printed ticks g new had got goes runs, ends runs, goes.within) in
        subst (λ (n : ℕ). AreRun n printed g new had got) all goes.are

-- what a run has still to do: ticks, and to halt
abbrev pub to_come : ℕ → Machine → ℕ
to_come ticks g = ticks - g.ticks + flag (not g.halted)

-- ticks make it less
pub comes_nearer : (ticks done : ℕ) (old new : Machine) → old.halted ≡ false → old.ticks < ticks → 0 < done → new ≡ run old done → to_come ticks new < to_come ticks old
comes_nearer ticks done old new runs below some is = at new.halted refl
  where
    before : flag (not old.halted) ≡ 1
    before = ap (λ b. flag (not b)) runs

    at : (b : Bool) → new.halted ≡ b → to_come ticks new < to_come ticks old
    at true halts = omega (arith, before, ap (λ b. flag (not b)) halts, ap (λ (m : Machine). m.ticks) is, ticks_least done old, below)
    at false goes = omega (arith, before, ap (λ b. flag (not b)) goes, ap (λ (m : Machine). m.ticks) is, ticks_exact done old (sym (ap (λ (m : Machine). m.halted) is) ∙ goes), below, some)
