-- What is kept after ticks gives each partition the last cue of its script of them.
use Rattle.std.proofs.Common.{◌≡◌, ℕ, zero, suc, ◌+◌, ◌-◌, ◌≤◌, Bool, true, false, List, Option, Result, Ok, Err, refl, sym, ap, ◌∙◌, arith}
use Rattle.std.proofs.Math.Nat.{suc-add, zero-add}
use Rattle.xm_conf.specs.Configuration.{Conf}
use Rattle.xm_report.specs.Report.{ReportLine}
use Rattle.xm_report.specs.declared.output.WriteFault.{WriteFault}
use Rattle.machine_model.specs.Cue.{Cue, cue, script, script_unless}
use Rattle.machine_model.specs.Facts.{KeepsNumbers, RunsKeepNumbers}
use Rattle.machine_model.specs.Machine.{Machine, run, step}
use Rattle.machine_model.specs.View.{System}
use Rattle.system_state.specs.State.{SysState}
use Rattle.xm_machine.specs.Cues.{AreCued, AreCuedUpTo, last_or, last_received}
use Rattle.xm_machine.specs.lemmas.CuesTerms.{KeepsLastTick, KeepsUpTo}
use Rattle.tick_steps.specs.Kept.{KeptTick, kept_cue, kept_tick}
use Rattle.tick_steps.specs.lemmas.KeptTerms.{kept_after, kept_unless}
use Rattle.xm_machine.specs.Machine.{Meaning}
use Rattle.span_engine.specs.Spans.{IsSpanDone}
use Rattle.xm_machine.specs.lemmas.StretchTerms.{AreStepped, KeepsStepped, stepped_by}
use Rattle.tick_steps.specs.declared.span.Span.{Span}
use Rattle.xm_machine.specs.declared.stretch.Stepped.{Stepped}
use Rattle.xm_machine.proofs.CueLemmas.{kept_cues}
use Rattle.xm_machine.proofs.GoingLemmas.{state_on}
use Rattle.tick_steps.specs.lemmas.KeptLemmas.{ran_on, run_halted, ticks_exact}

-- a machine that has halted keeps what was kept before
kept_halted : (count : ℕ) (g : Machine) (before : KeptTick) → g.halted ≡ true → kept_after g count before ≡ before
kept_halted zero g before halts = refl
kept_halted (suc count) g before halts = ap (λ b. kept_unless b before (kept_after (step g) count (kept_tick g))) halts

kept_runs : (count : ℕ) (g : Machine) (before : KeptTick) → g.halted ≡ false → kept_after g (suc count) before ≡ kept_after (step g) count (kept_tick g)
kept_runs count g before runs = ap (λ b. kept_unless b before (kept_after (step g) count (kept_tick g))) runs

-- the last of ticks, where the hypervisor has not halted before it
pub kept_last : (count : ℕ) (g : Machine) (before : KeptTick) → (run g count).halted ≡ false → kept_after g (suc count) before ≡ kept_tick (run g count)
kept_last zero g before runs = kept_runs 0 g before runs
kept_last (suc count) g before runs = kept_runs (suc count) g before (ran_on (suc count) g runs) ∙ kept_last count (step g) (kept_tick g) runs

-- ticks, and more of them
pub kept_add : (j k : ℕ) (g : Machine) (before : KeptTick) → kept_after g (j + k) before ≡ kept_after (run g j) k (kept_after g j before)
kept_add zero k g before = ap (λ n. kept_after g n before) (zero-add k)
kept_add (suc j) k g before = ap (λ n. kept_after g n before) (suc-add j k) ∙ at g.halted refl (kept_add j k (step g) (kept_tick g))
  where
    at : (b : Bool) → g.halted ≡ b → kept_after (step g) (j + k) (kept_tick g) ≡ kept_after (run (step g) j) k (kept_after (step g) j (kept_tick g))
        → kept_after g (suc (j + k)) before ≡ kept_after (run g (suc j)) k (kept_after g (suc j) before)
    at true halts more =
        kept_halted (suc (j + k)) g before halts
        ∙ sym (kept_halted k (run g (suc j)) before (ap (λ (m : Machine). m.halted) (run_halted (suc j) g halts) ∙ halts))
        ∙ ap (kept_after (run g (suc j)) k) (sym (kept_halted (suc j) g before halts))
    at false runs more = kept_runs (j + k) g before runs ∙ more ∙ ap (kept_after (run (step g) j) k) (sym (kept_runs j g before runs))

-- the last tick of a span is kept
pub keeps_span : (span : Span) (most : ℕ) (old new : SysState) (got : List ReportLine) (before kept : KeptTick) (had said : List ℕ) → IsSpanDone span most old new got
    → kept ≡ kept_tick (run old.machine (span.ticks - 1)) → KeepsLastTick most (record { state = old.machine; kept = before; said = had }) (record { state = new.machine; kept = kept; said = said })
keeps_span span most old new got before kept had said done kept_is =
    let some : suc (span.ticks - 1) ≡ span.ticks = omega (arith, done.some) in
    record {
      done = span.ticks;
      some = done.some;
      within = done.within;
      state = ap (λ (s : SysState). s.machine) done.state;
      kept = kept_is ∙ sym (kept_last (span.ticks - 1) old.machine before done.running) ∙ ap (λ n. kept_after old.machine n before) some;
    }

-- and so are all of them
pub keeps_ticks : (span : Span) (most : ℕ) (old new : SysState) (got : List ReportLine) (before kept : KeptTick) → IsSpanDone span most old new got
    → kept ≡ kept_tick (run old.machine (span.ticks - 1)) → kept ≡ kept_after old.machine span.ticks before
keeps_ticks span most old new got before kept done kept_is =
    let some : suc (span.ticks - 1) ≡ span.ticks = omega (arith, done.some) in
    kept_is ∙ sym (kept_last (span.ticks - 1) old.machine before done.running) ∙ ap (λ n. kept_after old.machine n before) some

-- and so are those whose lines may have been cut off
pub keeps_so : (printed : Result ℕ WriteFault) (ends : Bool) (span : Span) (most : ℕ) (old new : SysState) (got : List ReportLine) (before kept : KeptTick) (had said : List ℕ) → IsSpanDone span most old new got
    → kept ≡ kept_tick (run old.machine (span.ticks - 1))
    → KeepsStepped (stepped_by printed span.ticks ends) most (record { state = old.machine; kept = before; said = had }) (record { state = new.machine; kept = kept; said = said })
keeps_so (Ok lines) ends span most old new got before kept had said done is = keeps_ticks span most old new got before kept done is
keeps_so (Err fault) ends span most old new got before kept had said done is = keeps_span span most old new got before kept had said done is

-- the last tick of those that were done is kept
pub keeps_stepped : (stepped : Stepped) (most : ℕ) (old new : Meaning) (had got : Option (List ℕ)) → AreStepped stepped most old.state new.state had got
    → new.kept ≡ kept_after old.state stepped.ticks old.kept → KeepsLastTick most old new
keeps_stepped stepped most old new had got are kept = record {
  done = are.step.done;
  some = are.step.some;
  within = are.step.within;
  state = are.step.are.state;
  kept = kept ∙ ap (λ n. kept_after old.state n old.kept) (sym are.ticks);
}

-- a run goes on
pub keeps_on : (asked most : ℕ) (g mid new : Meaning) → (goes : KeepsUpTo asked g mid) → KeepsLastTick most mid new → goes.done + most ≤ asked → KeepsUpTo asked g new
keeps_on asked most g mid new goes more room = record {
  done = goes.done + more.done;
  within = omega (arith, more.within, room);
  state = state_on g.state mid.state new.state goes.done more.done goes.state more.state;
  kept = more.kept
      ∙ ap (kept_after mid.state more.done) goes.kept
      ∙ ap (λ (m : Machine). kept_after m more.done (kept_after g.state goes.done g.kept)) goes.state
      ∙ sym (kept_add goes.done more.done g.state g.kept);
}

-- as long as the hypervisor has not halted the ticks done are those that were counted
pub keeps_counted : (asked : ℕ) (g new : Meaning) → (goes : KeepsUpTo asked g new) → new.state.halted ≡ false → new.state.ticks ≡ g.state.ticks + goes.done
keeps_counted asked g new goes runs =
    ap (λ (m : Machine). m.ticks) goes.state ∙ ticks_exact goes.done g.state (sym (ap (λ (m : Machine). m.halted) goes.state) ∙ runs)

-- it has reached its end: the hypervisor has halted, or all ticks are done
pub keeps_out : (asked : ℕ) (g new : Meaning) → KeepsUpTo asked g new → (new.state.halted ≡ false → g.state.ticks + asked ≤ new.state.ticks)
    → new.kept ≡ kept_after g.state asked g.kept
keeps_out asked g new goes ends = at new.state.halted refl
  where
    at : (b : Bool) → new.state.halted ≡ b → new.kept ≡ kept_after g.state asked g.kept
    at true halts =
        let rest : goes.done + (asked - goes.done) ≡ asked = omega (arith, goes.within) in
        goes.kept
        ∙ sym (kept_halted (asked - goes.done) (run g.state goes.done) (kept_after g.state goes.done g.kept) (sym (ap (λ (m : Machine). m.halted) goes.state) ∙ halts))
        ∙ sym (kept_add goes.done (asked - goes.done) g.state g.kept)
        ∙ ap (λ n. kept_after g.state n g.kept) rest
    at false runs =
        let all : goes.done ≡ asked = omega (arith, keeps_counted asked g new goes runs, ends runs, goes.within) in
        goes.kept ∙ ap (λ n. kept_after g.state n g.kept) all

-- what is kept after ticks gives a partition the last cue of its script
received_last : KeepsNumbers → (count : ℕ) (g : Machine) (before : KeptTick) (conf : Conf) (p : ℕ) → g.system.conf ≡ conf
    → kept_cue conf (kept_after g count before) p ≡ last_or (kept_cue conf before p) (script g p count)
received_last law zero g before conf p same = refl
received_last law (suc count) g before conf p same = at g.halted (received_last law count (step g) (kept_tick g) conf p (ap (λ (s : System). s.conf) (law g).system ∙ same))
  where
    at : (b : Bool) → kept_cue conf (kept_after (step g) count (kept_tick g)) p ≡ last_or (kept_cue conf (kept_tick g) p) (script (step g) p count)
        → kept_cue conf (kept_unless b before (kept_after (step g) count (kept_tick g))) p
        ≡ last_or (kept_cue conf before p) (script_unless b (cue g p) (script (step g) p count))
    at true more = refl
    at false more =
        more ∙ ap (λ (c : Cue). last_or c (script (step g) p count)) (ap (λ (x : Conf). kept_cue x (kept_tick g) p) (sym same) ∙ kept_cues g p)

pub cued : KeepsNumbers → RunsKeepNumbers → (count : ℕ) (old new : Meaning) → new.state ≡ run old.state count → new.kept ≡ kept_after old.state count old.kept → AreCued count old new
cued ticks runs count old new state kept p =
    ap (λ (k : KeptTick). kept_cue new.state.system.conf k p) kept
    ∙ ap (λ (s : System). kept_cue s.conf (kept_after old.state count old.kept) p) (ap (λ (m : Machine). m.system) state ∙ (runs old.state count).system)
    ∙ received_last ticks count old.state old.kept old.state.system.conf p refl

-- the tick of a machine, and of one that has halted
pub tick_cued : KeepsNumbers → RunsKeepNumbers → (old new : Meaning) → KeepsLastTick 1 old new → AreCued 1 old new
tick_cued ticks runs old new last =
    let one : last.done ≡ 1 = omega (arith, last.some, last.within) in
    cued ticks runs 1 old new (last.state ∙ ap (run old.state) one) (last.kept ∙ ap (λ n. kept_after old.state n old.kept) one)

pub halted_cued : (g : Meaning) → g.state.halted ≡ true → AreCued 1 g g
halted_cued g halts p = sym (ap (λ b. last_or (last_received g p) (script_unless b (cue g.state p) (script (step g.state) p 0))) halts)

-- a run of which a line did not go out
pub cut_cued : KeepsNumbers → RunsKeepNumbers → (asked : ℕ) (old new : Meaning) → KeepsUpTo asked old new → AreCuedUpTo asked old new
cut_cued ticks runs asked old new keeps = record {
  ticks = keeps.done;
  within = keeps.within;
  state = keeps.state;
  cued = cued ticks runs keeps.done old new keeps.state keeps.kept;
}

-- it begins
pub keeps_none : (asked : ℕ) (g : Meaning) → KeepsUpTo asked g g
keeps_none asked g = record { done = 0; within = omega arith; state = refl; kept = refl }

-- all its ticks are done
pub keeps_whole : (asked : ℕ) (g new : Meaning) → new.state ≡ run g.state asked → new.kept ≡ kept_after g.state asked g.kept → KeepsUpTo asked g new
keeps_whole asked g new state kept = record { done = asked; within = omega arith; state = state; kept = kept }
