-- Stretches by parts: how one goes on, is cut off by its sink, or ends.
use Rattle.std.proofs.Common.{◌≡◌, ◌⊎◌, inl, inr, ⊎_elim, ℕ, ◌+◌, ◌-◌, ◌*◌, ◌<◌, ◌≤◌, Bool, true, false, List, Option, refl, sym, ap, ◌∙◌, subst, arith}
use Rattle.std.proofs.Math.Nat.{min-eq_left, min-eq_right, min-le_left, min-le_right}
use Rattle.std.specs.Prelude.{min}
use Rattle.std.proofs.lemmas.Bool.{cases_lt}
use Rattle.cyclic_plans.specs.PlanClock.{ticks_left}
use Rattle.xm_outside.specs.Growth.{grown}
use Rattle.xm_outside.specs.lemmas.GrowthLemmas.{grown-nothing}
use Rattle.xm_report.specs.Report.{texts}
use Rattle.machine_model.specs.Facts.{KeepsNumbers, RunsKeepNumbers}
use Rattle.machine_model.specs.Laws.{AllTicks}
use Rattle.machine_model.specs.Lines.{lines}
use Rattle.machine_model.specs.Machine.{Machine, run}
use Rattle.xm_machine.specs.Alone.{AreAlone, AreAloneUpTo}
use Rattle.xm_machine.specs.Cues.{AreCued, AreCuedUpTo}
use Rattle.xm_machine.specs.lemmas.CuesTerms.{KeepsLastTick}
use Rattle.tick_steps.specs.lemmas.KeptTerms.{kept_after}
use Rattle.xm_machine.specs.Machine.{Meaning}
use Rattle.tick_steps.specs.Quiet.{AreQuiet, ends_in}
use Rattle.tick_steps.specs.lemmas.QuietRunLemmas.{AllQuiet, all_quiet, quiet_on, quiet_runs, run_from}
use Rattle.xm_machine.specs.lemmas.StepsTerms.{AreRun}
use Rattle.xm_machine.specs.lemmas.StretchTerms.{AreStepped}
use Rattle.xm_machine.specs.Stretch.{IsStretchCut, IsStretched, left_of}
use Rattle.xm_machine.specs.declared.stretch.Stepped.{Stepped}
use Rattle.xm_machine.proofs.AloneLemmas.{ticks_alone}
use Rattle.xm_machine.proofs.CuedLemmas.{cued, kept_add}
use Rattle.xm_machine.proofs.GoingLemmas.{cut_on, run_on, state_on}
use Rattle.tick_steps.specs.lemmas.KeptLemmas.{ticks_exact}

-- a stretch is on its way: this many of its ticks were done, and whether it ends with the last of them
pub record GoesStretch (ticks printed : ℕ) (ends : Bool) (most : ℕ) (old new : Meaning) (had got : Option (List ℕ)) : Type 0 where
  pub within : ticks ≤ most
  pub few : printed ≤ 41 * ticks
  pub are : AreRun ticks printed old.state new.state had got
  pub quiet : AreQuiet ticks old.state
  pub last : 0 < ticks → ends_in (run old.state (ticks - 1)) ≡ ends
  pub some : ends ≡ true → 0 < ticks
  pub kept : new.kept ≡ kept_after old.state ticks old.kept

-- it begins
pub stretch_begins : (most : ℕ) (g : Meaning) (had : Option (List ℕ)) → GoesStretch 0 0 false most g g had had
stretch_begins most g had = record {
  within = omega arith;
  few = omega arith;
  are = record { state = refl; count = refl; report = sym (grown-nothing had) };
  quiet = λ k below. absurd (omega (arith, below));
  last = λ some. absurd (omega (arith, some));
  some = λ ends. absurd cc;
  kept = refl;
}

-- it has not ended
still_quiet : (ticks emitted_lines : ℕ) (ends : Bool) (most : ℕ) (old mid : Meaning) (had before : Option (List ℕ)) → GoesStretch ticks emitted_lines ends most old mid had before → ends ≡ false
    → AllQuiet ticks old.state
still_quiet ticks emitted_lines ends most old mid had before goes more = all_quiet ticks old.state goes.quiet (λ some. goes.last some ∙ more)

pub stretch_runs : (ticks emitted_lines : ℕ) (ends : Bool) (most : ℕ) (old mid : Meaning) (had before : Option (List ℕ)) → GoesStretch ticks emitted_lines ends most old mid had before
    → ends ≡ false → old.state.halted ≡ false → mid.state.halted ≡ false
stretch_runs ticks emitted_lines ends most old mid had before goes more runs =
    ap (λ (m : Machine). m.halted) goes.are.state
    ∙ quiet_runs ticks old.state runs (still_quiet ticks emitted_lines ends most old mid had before goes more)

-- the ticks done are those that were counted
pub stretch_counted : (ticks emitted_lines : ℕ) (ends : Bool) (most : ℕ) (old mid : Meaning) (had before : Option (List ℕ)) → GoesStretch ticks emitted_lines ends most old mid had before
    → mid.state.halted ≡ false → mid.state.ticks ≡ old.state.ticks + ticks
stretch_counted ticks emitted_lines ends most old mid had before goes runs =
    ap (λ (m : Machine). m.ticks) goes.are.state ∙ ticks_exact ticks old.state (sym (ap (λ (m : Machine). m.halted) goes.are.state) ∙ runs)

-- it goes on
pub stretch_on : (ticks emitted_lines : ℕ) (ends : Bool) (most : ℕ) (stepped : Stepped) (old mid new : Meaning) (had before got : Option (List ℕ))
    → GoesStretch ticks emitted_lines ends most old mid had before → ends ≡ false
    → AreStepped stepped (most - ticks) mid.state new.state before got → stepped.lines ≤ 41 → new.kept ≡ kept_after mid.state stepped.ticks mid.kept
    → GoesStretch (ticks + stepped.ticks) (emitted_lines + stepped.lines) stepped.ends most old new had got
stretch_on ticks emitted_lines ends most stepped old mid new had before got goes more are few kept =
    let state : mid.state ≡ run old.state ticks = goes.are.state in
    let some : 0 < stepped.ticks = omega (arith, are.step.some, are.ticks) in
    let these : AreRun stepped.ticks stepped.lines mid.state new.state before got =
    subst (λ (n : ℕ). AreRun n stepped.lines mid.state new.state before got) are.ticks are.step.are in
    record {
      within = omega (arith, are.step.within, are.ticks, goes.within);
      few = omega (arith, goes.few, few, some);
      are = run_on old.state mid.state new.state emitted_lines stepped.lines ticks stepped.ticks had before got goes.are these;
      quiet = quiet_on old.state mid.state ticks stepped.ticks state (still_quiet ticks emitted_lines ends most old mid had before goes more) are.quiet;
      last = λ any. run_from old.state mid.state ticks (ticks + stepped.ticks - 1) state (omega (arith, some))
          ∙ ap (λ (n : ℕ). ends_in (run mid.state n)) (rest some) ∙ are.ends;
      some = λ it. omega (arith, some);
      kept = kept
          ∙ ap (kept_after mid.state stepped.ticks) goes.kept
          ∙ ap (λ (m : Machine). kept_after m stepped.ticks (kept_after old.state ticks old.kept)) state
          ∙ sym (kept_add ticks stepped.ticks old.state old.kept);
    }
  where
    rest : 0 < stepped.ticks → ticks + stepped.ticks - 1 - ticks ≡ stepped.ticks - 1
    rest some = omega (arith, some)

-- it is cut off
pub stretch_cut : (ticks emitted_lines : ℕ) (ends : Bool) (most : ℕ) (old mid new : Meaning) (had before got : Option (List ℕ))
    → GoesStretch ticks emitted_lines ends most old mid had before → ends ≡ false → IsStretchCut (most - ticks) mid.state new.state before got
    → IsStretchCut most old.state new.state had got
stretch_cut ticks emitted_lines ends most old mid new had before got goes more next = record {
  cut = record {
    done = ticks + next.cut.done;
    some = omega (arith, next.cut.some);
    within = omega (arith, next.cut.within, goes.within);
    are = cut_on old.state mid.state new.state emitted_lines ticks next.cut.done had before got goes.are next.cut.are;
  };
  quiet = quiet_on old.state mid.state ticks next.cut.done goes.are.state (still_quiet ticks emitted_lines ends most old mid had before goes more) next.quiet;
}

pub stretch_cut_kept : (ticks emitted_lines : ℕ) (ends : Bool) (most : ℕ) (old mid new : Meaning) (had before : Option (List ℕ))
    → GoesStretch ticks emitted_lines ends most old mid had before → KeepsLastTick (most - ticks) mid new → KeepsLastTick most old new
stretch_cut_kept ticks emitted_lines ends most old mid new had before goes last =
    let state : mid.state ≡ run old.state ticks = goes.are.state in
    record {
      done = ticks + last.done;
      some = omega (arith, last.some);
      within = omega (arith, last.within, goes.within);
      state = state_on old.state mid.state new.state ticks last.done state last.state;
      kept = last.kept
          ∙ ap (kept_after mid.state last.done) goes.kept
          ∙ ap (λ (m : Machine). kept_after m last.done (kept_after old.state ticks old.kept)) state
          ∙ sym (kept_add ticks last.done old.state old.kept);
    }

-- it has reached its end
pub stretch_out : (ticks emitted_lines : ℕ) (ends : Bool) (most : ℕ) (old new : Meaning) (had got : Option (List ℕ)) → GoesStretch ticks emitted_lines ends most old new had got → 0 < ticks
    → AreStepped (record { ticks = ticks; lines = emitted_lines; ends = ends }) most old.state new.state had got
stretch_out ticks emitted_lines ends most old new had got goes some = record {
  step = record { done = ticks; some = some; within = goes.within; are = goes.are };
  ticks = refl;
  quiet = goes.quiet;
  ends = goes.last some;
}

-- the ticks that are left
pub left_is : (most left ticks : ℕ) (g : Machine) → left ≡ min most ticks → ticks ≡ ticks_left g.system.conf g.clock g.time → left ≡ left_of most g
unfolding left_of
left_is most left ticks g is ticks_is = is ∙ ap (min most) ticks_is

-- some are
pub some_left : (most left ticks : ℕ) → left ≡ min most ticks → 0 < most → 0 < ticks → 0 < left
some_left most left ticks is some other = ⊎_elim below from (cases_lt most ticks)
  where
    below : most < ticks → 0 < left
    below less = let short : most ≤ ticks = omega (arith, less) in omega (arith, is, min-eq_left short, some)

    from : ticks ≤ most → 0 < left
    from long = omega (arith, is, min-eq_right long, other)

-- the ticks are those of a stretch
pub is_stretched : (stepped : Stepped) (most : ℕ) (old new : Machine) (had got : Option (List ℕ)) → AreStepped stepped (left_of most old) old new had got
    → (stepped.ends ≡ false → stepped.ticks ≡ left_of most old) → IsStretched stepped.ticks most old new had got
unfolding left_of
is_stretched stepped most old new had got are whole = record {
  least = record {
    some = omega (arith, are.step.some, are.ticks);
    within = omega (arith, are.step.within, are.ticks, min-le_left most left);
    left = omega (arith, are.step.within, are.ticks, min-le_right most left);
    quiet = are.quiet;
    whole = by stepped.ends refl;
  };
  state = are.step.are.state ∙ ap (run old) are.ticks;
  report = subst (λ (n : ℕ). IsReported n) are.ticks are.step.are.report;
}
  where
    left : ℕ
    left = ticks_left old.system.conf old.clock old.time

    IsReported : ℕ → Type 0
    IsReported n = got ≡ grown had (texts (lines old n))

    by : (b : Bool) → stepped.ends ≡ b → (stepped.ticks ≡ most) ⊎ ((stepped.ticks ≡ left) ⊎ (ends_in (run old (stepped.ticks - 1)) ≡ true))
    by true ends = inr (inr (are.ends ∙ ends))
    by false goes = ⊎_elim (λ less. inl (omega (arith, less, whole goes))) (λ from. inr (inl (omega (arith, from, whole goes)))) (cases_lt most left)

-- what they leave of each partition, and of what each received
pub stretch_alone : AllTicks → (done most : ℕ) (old new : Machine) (had got : Option (List ℕ)) → IsStretched done most old new had got → AreAlone done old new
stretch_alone law done most old new had got are = ticks_alone law done old new are.state

pub stretch_cut_alone : AllTicks → (most : ℕ) (old new : Machine) (had got : Option (List ℕ)) → IsStretchCut (left_of most old) old new had got → AreAloneUpTo most old new
unfolding left_of
stretch_cut_alone law most old new had got are = record {
  ticks = are.cut.done;
  within = omega (arith, are.cut.within, min-le_left most (ticks_left old.system.conf old.clock old.time));
  state = are.cut.are.state;
  alone = ticks_alone law are.cut.done old new are.cut.are.state;
}

pub stretch_cued : KeepsNumbers → RunsKeepNumbers → (done most : ℕ) (old new : Meaning) (had got : Option (List ℕ)) → IsStretched done most old.state new.state had got
    → new.kept ≡ kept_after old.state done old.kept → AreCued done old new
stretch_cued ticks runs done most old new had got are kept = cued ticks runs done old new are.state kept

pub stretch_cut_cued : KeepsNumbers → RunsKeepNumbers → (most : ℕ) (old new : Meaning) → KeepsLastTick (left_of most old.state) old new → AreCuedUpTo most old new
unfolding left_of
stretch_cut_cued ticks runs most old new last = record {
  ticks = last.done;
  within = omega (arith, last.within, min-le_left most (ticks_left old.state.system.conf old.state.clock old.state.time));
  state = last.state;
  cued = cued ticks runs last.done old new last.state last.kept;
}
