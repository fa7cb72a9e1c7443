-- Runs from any machine: from one that boots, and from one that goes on.
use Rattle.std.proofs.Common.{◌≡◌, ◌⊎◌, inl, inr, ℕ, zero, suc, ◌+◌, Bool, true, false, List, [], ◌∷◌, ◌++◌, length, refl, sym, ap, ◌∙◌, arith}
use Rattle.std.specs.Prelude.{if◌then◌else◌}
use Rattle.std.proofs.Math.Nat.{zero-add}
use Rattle.xm_report.specs.Report.{ReportLine, SystemLine}
use Rattle.machine_model.specs.Cue.{Cue}
use Rattle.machine_model.specs.Laws.{core_file_of}
use Rattle.machine_model.specs.Lines.{end_lines, has_console, said_unless, step_console, step_said}
use Rattle.machine_model.specs.Lists.{all_of}
use Rattle.machine_model.specs.Machine.{Machine, after, happened, is_halt, start, step}
use Rattle.machine_model.specs.Partition.{PartitionState}
use Rattle.machine_model.specs.View.{System}
use Rattle.machine_model.specs.Whole.{AllHalted, AllReset, NoEvent, WholeEvent, ticks_after}
use Rattle.machine_model.specs.lemmas.TickLemmas.{step_halted, step_runs}
use Rattle.upset_model.specs.Places.{Timetable, due, schedule_of, upsets_of}
use Rattle.upset_model.specs.Reports.{after_run, received_in, reported, upset_console, upset_report}
use Rattle.upset_model.specs.Upsets.{Schedule, later, ready, upset_run, upset_script}
use Rattle.upset_model.specs.declared.upset_line.UpsetLine.{UpsetLine}
use Rattle.upset_model.specs.lemmas.Segments.{ready_halted, ready_halts, ready_ticks, reported_halted, upset_run_halted, upset_script_halted}
use Rattle.continuation_laws.specs.Given.{with_left, words_left}
use Rattle.continuation_laws.specs.Continued.{continued_run, from_tick}
use Rattle.continuation_laws.specs.Joined.{AreBefore, AreFrom, AreJoined}
use Rattle.continuation_laws.specs.Onward.{BootsAreBeginnings, RunsGoOn, after_ticks, coming, console_from, received_from, report_from}
use Rattle.continuation_laws.proofs.ContinuedLemmas.{runs_are_continued}
use Rattle.continuation_laws.proofs.JoinedLemmas.{files_are_joined, reports_are_joined}

-- from the boot
boot_due : (lines : List UpsetLine) (system : System) → coming lines (start system) ≡ due lines
unfolding start
boot_due lines system = λ i k. due lines (zero-add k i)

boot_report : (lines : List UpsetLine) (system : System) (count : ℕ) → report_from lines (start system) count ≡ upset_report lines system count
unfolding report_from upset_report start
boot_report lines system count =
    ap (λ (n : ℕ). SystemLine (length system.conf.parts) (length system.conf.plans) n ∷ reported (coming lines (start system)) (start system) count ++ end_lines (after_ticks lines (start system) count)) (zero-add count)
    ∙ ap (λ (t : Timetable). SystemLine (length system.conf.parts) (length system.conf.plans) count ∷ reported t (start system) count ++ end_lines (upset_run (upsets_of t) (start system) count)) (boot_due lines system)

pub boots_are_beginnings : BootsAreBeginnings
boots_are_beginnings lines system count = record {
  report = boot_report lines system count;
  after = ap (λ (t : Timetable). upset_run (upsets_of t) (start system) count) (boot_due lines system);
  received = λ p. ap (λ (t : Timetable). upset_script (upsets_of t) (start system) p count) (boot_due lines system);
  console = λ uart. ap (λ (t : Timetable). upset_console (upsets_of t) (start system) count uart) (boot_due lines system);
}

-- a tick counts, unless the hypervisor halts in it
after_counts : (event : WholeEvent) (n : ℕ) → (is_halt event ≡ true) ⊎ (ticks_after event n ≡ n + 1)
after_counts NoEvent n = inr refl
after_counts (AllReset mode) n = inr refl
after_counts AllHalted n = inl refl

tick_counts : (g : Machine) → g.halted ≡ false → ((step g).halted ≡ true) ⊎ ((step g).ticks ≡ g.ticks + 1)
unfolding after
tick_counts g runs = rw (step_runs g runs) (after_counts (happened g).event g.ticks)

-- so a machine that has not halted has done the ticks that it ran
run_counts : (count : ℕ) (s : Schedule) (g : Machine) → ((upset_run s g count).halted ≡ true) ⊎ ((upset_run s g count).ticks ≡ g.ticks + count)
run_counts zero s g = inr (omega arith)
run_counts (suc count) s g = at g.halted refl (run_counts count (later s) (step (ready (s 0) g)))
  where
    next : ((step (ready (s 0) g)).halted ≡ true) ⊎ ((step (ready (s 0) g)).ticks ≡ (ready (s 0) g).ticks + 1)
        → ((upset_run s g (suc count)).halted ≡ true) ⊎ ((upset_run s g (suc count)).ticks ≡ (step (ready (s 0) g)).ticks + count)
        → ((upset_run s g (suc count)).halted ≡ true) ⊎ ((upset_run s g (suc count)).ticks ≡ g.ticks + suc count)
    next (inl halts) more = inl (ap (λ (m : Machine). m.halted) (upset_run_halted count (later s) (step (ready (s 0) g)) halts) ∙ halts)
    next (inr one) (inl halts) = inl halts
    next (inr one) (inr more) = (let same = ready_ticks (s 0) g in inr (omega (arith, one, more, same)))

    at : (b : Bool) → g.halted ≡ b
        → ((upset_run s g (suc count)).halted ≡ true) ⊎ ((upset_run s g (suc count)).ticks ≡ (step (ready (s 0) g)).ticks + count)
        → ((upset_run s g (suc count)).halted ≡ true) ⊎ ((upset_run s g (suc count)).ticks ≡ g.ticks + suc count)
    at true halts more = inl (ap (λ (m : Machine). m.halted) (upset_run_halted (suc count) s g halts) ∙ halts)
    at false runs more = next (tick_counts (ready (s 0) g) (ready_halted (s 0) g ∙ runs)) more

-- a machine that has halted writes nothing to a UART
none_of_all : {X Y : Type 0} (f : ℕ → X → List Y) (xs : List X) → ((p : ℕ) (x : X) → f p x ≡ []) → all_of f xs ≡ []
none_of_all f [] none = refl
none_of_all f (x ∷ xs) none = ap (λ ys. ys ++ all_of (λ k. f (suc k)) xs) (none 0 x) ∙ none_of_all (λ k. f (suc k)) xs (λ k. none (suc k))

halted_said : (g : Machine) (p : ℕ) → g.halted ≡ true → step_said g p ≡ []
unfolding step_said
halted_said g p halts = ap (λ b. said_unless b g p) halts

halted_step_console : (g : Machine) (uart : ℕ) → g.halted ≡ true → step_console g uart ≡ []
unfolding step_console
halted_step_console g uart halts = none_of_all (λ p (ps : PartitionState). if has_console g uart p then step_said g p else []) g.parts (λ p ps. by (has_console g uart p) p)
  where
    by : (b : Bool) (p : ℕ) → (if b then step_said g p else []) ≡ []
    by true p = halted_said g p halts
    by false p = refl

halted_console : (count : ℕ) (s : Schedule) (g : Machine) (uart : ℕ) → g.halted ≡ true → upset_console s g count uart ≡ []
halted_console zero s g uart halts = refl
halted_console (suc count) s g uart halts =
    ap (λ (m : Machine). step_console m uart ++ upset_console (later s) (step m) count uart) (ready_halts (s 0) g halts)
    ∙ ap (λ (front : List ℕ). front ++ upset_console (later s) (step g) count uart) (halted_step_console g uart halts)
    ∙ ap (λ (m : Machine). upset_console (later s) m count uart) (step_halted g halts) ∙ halted_console count (later s) g uart halts

-- two timetables that do the same to a machine in this many ticks
record AreAlike (one other : Timetable) (g : Machine) (count : ℕ) : Type 0 where
  state : upset_run (upsets_of one) g count ≡ upset_run (upsets_of other) g count
  report : reported one g count ≡ reported other g count
  console : (uart : ℕ) → upset_console (upsets_of one) g count uart ≡ upset_console (upsets_of other) g count uart
  script : (p : ℕ) → upset_script (upsets_of one) g p count ≡ upset_script (upsets_of other) g p count

halted_alike : (one other : Timetable) (g : Machine) (count : ℕ) → g.halted ≡ true → AreAlike one other g count
halted_alike one other g count halts = record {
  state = upset_run_halted count (upsets_of one) g halts ∙ sym (upset_run_halted count (upsets_of other) g halts);
  report = reported_halted count one g halts ∙ sym (reported_halted count other g halts);
  console = λ uart. halted_console count (upsets_of one) g uart halts ∙ sym (halted_console count (upsets_of other) g uart halts);
  script = λ p. upset_script_halted count (upsets_of one) g p halts ∙ sym (upset_script_halted count (upsets_of other) g p halts);
}

equal_alike : (one other : Timetable) (g : Machine) (count : ℕ) → one ≡ other → AreAlike one other g count
equal_alike one other g count same = record {
  state = ap (λ (t : Timetable). upset_run (upsets_of t) g count) same;
  report = ap (λ (t : Timetable). reported t g count) same;
  console = λ uart. ap (λ (t : Timetable). upset_console (upsets_of t) g count uart) same;
  script = λ p. ap (λ (t : Timetable). upset_script (upsets_of t) g p count) same;
}

from_boot : (system : System) (done : ℕ) → (start system).ticks + done ≡ done
unfolding start
from_boot system done = zero-add done

-- from the machine after these ticks on, what is due by the ticks that were run is what is due by its own ticks, unless it has halted
onward_alike : (first last : List UpsetLine) (system : System) (done count : ℕ)
    → AreAlike (from_tick done (due last)) (coming last (continued_run first system done)) (continued_run first system done) count
onward_alike first last system done count = at (run_counts done (schedule_of first) (start system))
  where
    at : ((after_run first system done).halted ≡ true) ⊎ ((after_run first system done).ticks ≡ (start system).ticks + done)
        → AreAlike (from_tick done (due last)) (coming last (continued_run first system done)) (continued_run first system done) count
    at (inl halts) = halted_alike (from_tick done (due last)) (coming last (continued_run first system done)) (continued_run first system done) count halts
    at (inr ticks) =
        equal_alike (from_tick done (due last)) (coming last (continued_run first system done)) (continued_run first system done) count
        (ap (λ (n : ℕ). from_tick n (due last)) (sym (ticks ∙ from_boot system done)))

-- the last ticks of a run with both files are those from the machine after the first ticks, with the second file
last_machine : (first last : List UpsetLine) (system : System) (done count : ℕ) → AreJoined first last (start system) done
    → upset_run (upsets_of (from_tick done (due (first ++ last)))) (continued_run (first ++ last) system done) count ≡ after_ticks last (continued_run first system done) count
last_machine first last system done count both =
    ap (λ (m : Machine). upset_run (upsets_of (from_tick done (due (first ++ last)))) (with_left m) count) both.state
    ∙ ap (λ (t : Timetable). upset_run (upsets_of t) (continued_run first system done) count) both.rest
    ∙ (onward_alike first last system done count).state

last_console : (first last : List UpsetLine) (system : System) (done count uart : ℕ) → AreJoined first last (start system) done
    → upset_console (upsets_of (from_tick done (due (first ++ last)))) (continued_run (first ++ last) system done) count uart ≡ console_from last (continued_run first system done) count uart
last_console first last system done count uart both =
    ap (λ (m : Machine). upset_console (upsets_of (from_tick done (due (first ++ last)))) (with_left m) count uart) both.state
    ∙ ap (λ (t : Timetable). upset_console (upsets_of t) (continued_run first system done) count uart) both.rest
    ∙ (onward_alike first last system done count).console uart

last_script : (first last : List UpsetLine) (system : System) (done count p : ℕ) → AreJoined first last (start system) done
    → upset_script (upsets_of (from_tick done (due (first ++ last)))) (continued_run (first ++ last) system done) p count ≡ received_from last (continued_run first system done) p count
last_script first last system done count p both =
    ap (λ (m : Machine). upset_script (upsets_of (from_tick done (due (first ++ last)))) (with_left m) p count) both.state
    ∙ ap (λ (t : Timetable). upset_script (upsets_of t) (continued_run first system done) p count) both.rest
    ∙ (onward_alike first last system done count).script p

-- so a run goes on
report_goes_on : (first last : List UpsetLine) (system : System) (done count : ℕ) → AreBefore done first → AreFrom done last
    → upset_report (first ++ last) system (done + count)
    ≡ SystemLine (length system.conf.parts) (length system.conf.plans) (done + count) ∷ reported (due first) (start system) done
    ++ reported (coming last (continued_run first system done)) (continued_run first system done) count
    ++ end_lines (after_ticks last (continued_run first system done) count)
report_goes_on first last system done count before from =
    let alike = onward_alike first last system done count in
    let head : ReportLine = SystemLine (length system.conf.parts) (length system.conf.plans) (done + count) in
    reports_are_joined first last system done count before from
    ∙ ap (λ (next : List ReportLine). head ∷ reported (due first) (start system) done ++ next
    ++ end_lines (upset_run (upsets_of (from_tick done (due last))) (continued_run first system done) count)) alike.report
    ∙ ap (λ (m : Machine). head ∷ reported (due first) (start system) done ++ reported (coming last (continued_run first system done)) (continued_run first system done) count
    ++ end_lines m) alike.state

pub runs_go_on : RunsGoOn
runs_go_on first last system done count before from =
    let both = files_are_joined first last (start system) done before from in
    let is = runs_are_continued (words_left (after_run (first ++ last) system done)) (due (first ++ last)) (start system) done count in
    let machine = last_machine first last system done count both in
    record {
      report = report_goes_on first last system done count before from;
      core_file = λ p. is.core_file p ∙ ap (λ (m : Machine). core_file_of m p) machine;
      console = λ uart. is.console uart
          ∙ ap (λ (next : List ℕ). upset_console (schedule_of (first ++ last)) (start system) done uart ++ next) (last_console first last system done count uart both)
          ∙ ap (λ (front : List ℕ). front ++ console_from last (continued_run first system done) count uart) (both.console uart);
      received = λ p. is.script p
          ∙ ap (λ (next : List Cue). received_in (first ++ last) system p done ++ next) (last_script first last system done count p both)
          ∙ ap (λ (front : List Cue). front ++ received_from last (continued_run first system done) p count) (both.script p);
      again = is.again ∙ ap with_left machine;
    }
