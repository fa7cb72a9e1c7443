-- Runs with upsets by pieces: ticks before which no upsets strike but at the first, and how a run goes on with them, is cut off by its sink, or ends as the hypervisor halts.
use Rattle.std.proofs.Common.{◌≡◌, ⊎_elim, ℕ, zero, suc, ◌+◌, ◌-◌, ◌*◌, ◌<◌, ◌≤◌, Bool, false, true, List, [], ◌++◌, length, get_or, map, Option, refl, sym, ap, ◌∙◌, subst, arith, append_assoc, length-append}
use Rattle.std.specs.Prelude.{All, not}
use Rattle.std.proofs.lemmas.Bool.{cases_lt}
use Rattle.std.proofs.lemmas.List.{append-nil}
use Rattle.xm_outside.specs.Growth.{grown, GrewByPrefix}
use Rattle.xm_outside.specs.lemmas.GrowthLemmas.{grown-nothing, grown_grown}
use Rattle.xm_report.specs.Report.{ReportLine, texts}
use Rattle.xm_report.specs.lemmas.ReportLemmas.{texts-append}
use Rattle.continuation_laws.specs.Continued.{from_tick}
use Rattle.uart_board.specs.Heard.{IsHeard}
use Rattle.uart_board.specs.lemmas.HeardLemmas.{heard_nothing, heard_then}
use Rattle.uart_board.specs.Views.{BoardView}
use Rattle.machine_model.specs.lemmas.TickLemmas.{step_halted}
use Rattle.machine_model.specs.Facts.{IsAsMany, RunsKeepNumbers}
use Rattle.machine_model.specs.Lines.{console, lines, step_console, step_lines}
use Rattle.machine_model.specs.Machine.{Machine, run, step}
use Rattle.machine_model.specs.Structures.{flag}
use Rattle.span_model.specs.lemmas.RunLemmas.{lines_add}
use Rattle.upset_model.specs.Coming.{AreOrdered}
use Rattle.upset_model.specs.Places.{Timetable, due, upset_of, upsets_of}
use Rattle.upset_model.specs.Reports.{reported, reported_to, struck_line, struck_lines, upset_console}
use Rattle.upset_model.specs.Upsets.{Schedule, later, ready, upset_run}
use Rattle.upset_model.specs.lemmas.Segments.{AreNoneLater, first_console, first_reported, first_run, from, from_at, none_upsets, ready_halted, ready_halts, ready_system, ready_ticks, reported_add, reported_halted, reported_to_add, timed_console_add, timed_run_add, upset_run_halted}
use Rattle.upset_model.specs.declared.upset_line.UpsetLine.{UpsetLine}
use Rattle.tick_steps.specs.lemmas.KeptLemmas.{ticks_exact, ticks_fewer}
use Rattle.xm_machine.proofs.FrontLemmas.{front_of_all}
use Rattle.xm_machine.proofs.GoingLemmas.{comes_nearer, to_come}
use Rattle.xm_machine.proofs.HeardLemmas.{console_halted, heard_as}
use Rattle.xm_machine.proofs.UpsetLemmas.{ready_all_counted}
use Rattle.xm_machine.specs.lemmas.StrikingLemmas.{due_strike, may_strike}
use Rattle.xm_machine.specs.Heard.{IsRunHeard}
use Rattle.xm_machine.specs.Striking.{MayStrike}
use Rattle.xm_machine.specs.lemmas.StepsTerms.{AreRun}
use Rattle.xm_machine.specs.lemmas.StruckTerms.{AreStruck, HasCounted, IsStruckCut}
use Rattle.xm_machine.specs.Steps.{IsStepCut}

-- ticks of which upsets strike before the first alone: what they report,
here_reported : (k : ℕ) (t : Timetable) (us : List UpsetLine) (g : Machine) → 0 < k → g.halted ≡ false → t 0 ≡ us → AreNoneLater k t
    → reported t g k ≡ map struck_line us ++ lines (ready (map upset_of us) g) k
here_reported zero t us g some runs here none = absurd (omega (arith, some))
here_reported (suc k) t us g some runs here none =
    first_reported k t g none
    ∙ ap (λ b. struck_lines b (t 0) ++ lines (ready (map upset_of (t 0)) g) (suc k)) runs
    ∙ ap (λ (ls : List UpsetLine). map struck_line ls ++ lines (ready (map upset_of ls) g) (suc k)) here

-- the machine after them,
here_run : (k : ℕ) (t : Timetable) (us : List UpsetLine) (g : Machine) → 0 < k → t 0 ≡ us → AreNoneLater k t
    → upset_run (upsets_of t) g k ≡ run (ready (map upset_of us) g) k
here_run zero t us g some here none = absurd (omega (arith, some))
here_run (suc k) t us g some here none =
    first_run k (upsets_of t) g (none_upsets (suc k) t none) ∙ ap (λ (ls : List UpsetLine). run (ready (map upset_of ls) g) (suc k)) here

-- and the bytes that a UART gets
here_console : (k : ℕ) (t : Timetable) (us : List UpsetLine) (g : Machine) (uart : ℕ) → 0 < k → t 0 ≡ us → AreNoneLater k t
    → upset_console (upsets_of t) g k uart ≡ console (ready (map upset_of us) g) k uart
here_console zero t us g uart some here none = absurd (omega (arith, some))
here_console (suc k) t us g uart some here none =
    first_console k (upsets_of t) g uart (none_upsets (suc k) t none) ∙ ap (λ (ls : List UpsetLine). console (ready (map upset_of ls) g) (suc k) uart) here

-- fewer of them
none_fewer : (j k : ℕ) (t : Timetable) → j ≤ k → AreNoneLater k t → AreNoneLater j t
none_fewer j k t less none i below = none i (omega (arith, less, below))

here_heard : (k : ℕ) (t : Timetable) (us : List UpsetLine) (g : Machine) (before after : BoardView) → 0 < k → t 0 ≡ us → AreNoneLater k t
    → IsHeard (console (ready (map upset_of us) g) k) before after → IsHeard (upset_console (upsets_of t) g k) before after
here_heard k t us g before after some here none heard =
    heard_as (console (ready (map upset_of us) g) k) (upset_console (upsets_of t) g k) before after (λ uart. sym (here_console k t us g uart some here none)) heard

-- the texts of these lines
here_texts : (k : ℕ) (t : Timetable) (us : List UpsetLine) (g : Machine) → 0 < k → g.halted ≡ false → t 0 ≡ us → AreNoneLater k t
    → texts (reported t g k) ≡ texts (map struck_line us) ++ texts (lines (ready (map upset_of us) g) k)
here_texts k t us g some runs here none = ap texts (here_reported k t us g some runs here none) ∙ texts-append (map struck_line us) (lines (ready (map upset_of us) g) k)

-- those of the upsets before the tick that comes next come after them
text_grows : (k : ℕ) (t : Timetable) (g : Machine) → length (texts (reported t g k)) ≤ length (texts (reported_to t g k))
text_grows k t g =
    let next : List ReportLine = struck_lines (upset_run (upsets_of t) g k).halted (t k) in
    omega (arith, ap length (texts-append (reported t g k) next), length-append (texts (reported t g k)) (texts next))

-- before the first tick there are those of its upsets
first_texts : (t : Timetable) (us : List UpsetLine) (g : Machine) → g.halted ≡ false → t 0 ≡ us → length (texts (reported_to t g 0)) ≡ length (texts (map struck_line us))
first_texts t us g runs here =
    ap (λ b. length (texts (struck_lines b (t 0)))) runs ∙ ap (λ (ls : List UpsetLine). length (texts (map struck_line ls))) here

-- and before a later one there are none
struck_none : (b : Bool) → struck_lines b [] ≡ []
struck_none true = refl
struck_none false = refl

later_texts : (j : ℕ) (t : Timetable) (us : List UpsetLine) (g : Machine) → g.halted ≡ false → t 0 ≡ us → AreNoneLater (suc (suc j)) t
    → length (texts (reported_to t g (suc j))) ≡ length (texts (map struck_line us)) + length (texts (lines (ready (map upset_of us) g) (suc j)))
later_texts j t us g runs here none =
    ap (λ (ls : List UpsetLine). length (texts (reported t g (suc j) ++ struck_lines (upset_run (upsets_of t) g (suc j)).halted ls))) (none j (omega arith))
    ∙ ap (λ (ls : List ReportLine). length (texts (reported t g (suc j) ++ ls))) (struck_none (upset_run (upsets_of t) g (suc j)).halted)
    ∙ ap (λ (ls : List ReportLine). length (texts ls)) (append-nil (reported t g (suc j)))
    ∙ ap length (here_texts (suc j) t us g (omega arith) runs here (none_fewer (suc j) (suc (suc j)) t (omega arith) none))
    ∙ length-append (texts (map struck_line us)) (texts (lines (ready (map upset_of us) g) (suc j)))

-- all of them were done
piece_done : (most struck printed : ℕ) (t : Timetable) (us : List UpsetLine) (old new : Machine) (had mid got : Option (List ℕ)) (before after : BoardView)
    → old.halted ≡ false → 0 < most → t 0 ≡ us → AreNoneLater most t → struck ≡ length (map struck_line us) → mid ≡ grown had (texts (map struck_line us))
    → AreRun most printed (ready (map upset_of us) old) new mid got → IsRunHeard (ready (map upset_of us) old) new before after
    → AreStruck most (struck + printed) t old new had got before after
piece_done most struck printed t us old new had mid got before after runs some here none counted first are heard =
    let m : Machine = ready (map upset_of us) old in
    record {
      state = are.state ∙ sym (here_run most t us old some here none);
      count = omega (arith, counted, are.count, ap length (here_reported most t us old some runs here none), length-append (map struck_line us) (lines m most));
      report = are.report ∙ ap (λ (x : Option (List ℕ)). grown x (texts (lines m most))) first ∙ grown_grown had (texts (map struck_line us)) (texts (lines m most))
          ∙ ap (grown had) (sym (here_texts most t us old some runs here none));
      heard = here_heard most t us old before after some here none (heard most are.state);
    }

-- the lines of the upsets did not all go out
pub piece_none : (most : ℕ) (t : Timetable) (us : List UpsetLine) (old : Machine) (had got : Option (List ℕ)) (board : BoardView)
    → old.halted ≡ false → 0 < most → t 0 ≡ us → AreNoneLater most t → GrewByPrefix had (texts (map struck_line us)) got
    → IsStruckCut most t old old had got board board
piece_none most t us old had got board runs some here none cut =
    let m : Machine = ready (map upset_of us) old in
    record {
      done = 0;
      within = omega arith;
      state = refl;
      report = front_of_all had had got [] (texts (map struck_line us)) (texts (lines m most)) (texts (reported t old most))
          (here_texts most t us old some runs here none) (sym (grown-nothing had)) cut;
      whole = λ (k : ℕ) (below : k < 0). absurd (omega (arith, below));
      cut = omega (arith, cut.short, first_texts t us old runs here);
      heard = heard_nothing board;
    }

-- those of the ticks did not
piece_short : (most : ℕ) (t : Timetable) (us : List UpsetLine) (old new : Machine) (had mid got : Option (List ℕ)) (before after : BoardView)
    → old.halted ≡ false → 0 < most → t 0 ≡ us → AreNoneLater most t → mid ≡ grown had (texts (map struck_line us))
    → IsStepCut most (ready (map upset_of us) old) new mid got → IsRunHeard (ready (map upset_of us) old) new before after
    → IsStruckCut most t old new had got before after
piece_short most t us old new had mid got before after runs some here none first cut heard = record {
  done = cut.done;
  within = cut.within;
  state = cut.are.state ∙ sym (here_run cut.done t us old cut.some here (none_fewer cut.done most t cut.within none));
  report = front_of_all had mid got (texts (map struck_line us)) (texts (lines m cut.done)) (texts (lines (run m cut.done) (most - cut.done))) (texts (reported t old most)) all first cut.are.report;
  whole = at;
  cut = omega (
    arith,
    cut.are.cut,
    text_grows cut.done t old,
    ap length (here_texts cut.done t us old cut.some runs here (none_fewer cut.done most t cut.within none)),
    length-append (texts (map struck_line us)) (texts (lines m cut.done)),
  );
  heard = here_heard cut.done t us old before after cut.some here (none_fewer cut.done most t cut.within none) (heard cut.done cut.are.state);
}
  where
    m : Machine
    m = ready (map upset_of us) old

    all : texts (reported t old most) ≡ texts (map struck_line us) ++ texts (lines m cut.done) ++ texts (lines (run m cut.done) (most - cut.done))
    all =
        let sum : most ≡ cut.done + (most - cut.done) = omega (arith, cut.within) in
        here_texts most t us old some runs here none
        ∙ ap (λ (n : ℕ). texts (map struck_line us) ++ texts (lines m n)) sum
        ∙ ap (λ (l : List ReportLine). texts (map struck_line us) ++ texts l) (lines_add m cut.done (most - cut.done))
        ∙ ap (λ (bytes : List ℕ). texts (map struck_line us) ++ bytes) (texts-append (lines m cut.done) (lines (run m cut.done) (most - cut.done)))
        ∙ sym (append_assoc (texts (map struck_line us)) (texts (lines m cut.done)) (texts (lines (run m cut.done) (most - cut.done))))

    at : (k : ℕ) → k < cut.done → length (texts (reported_to t old k)) ≤ length (texts (map struck_line us)) + cut.are.report.count
    at zero below = omega (arith, first_texts t us old runs here)
    at (suc j) below =
        omega (
          arith,
          later_texts j t us old runs here (none_fewer (suc (suc j)) most t (omega (arith, below, cut.within)) none),
          cut.are.whole (suc j) below,
        )

-- both, of the machine that was struck
pub piece_out : (most struck printed : ℕ) (t : Timetable) (us : List UpsetLine) (old m new : Machine) (had mid got : Option (List ℕ)) (before after : BoardView)
    → old.halted ≡ false → 0 < most → t 0 ≡ us → AreNoneLater most t → struck ≡ length (map struck_line us) → mid ≡ grown had (texts (map struck_line us))
    → m ≡ ready (map upset_of us) old → AreRun most printed m new mid got → IsRunHeard m new before after
    → AreStruck most (struck + printed) t old new had got before after
piece_out most struck printed t us old m new had mid got before after runs some here none counted first is are heard =
    piece_done most struck printed t us old new had mid got before after runs some here none counted first
    (subst (λ (x : Machine). AreRun most printed x new mid got) is are) (subst (λ (x : Machine). IsRunHeard x new before after) is heard)

pub piece_cut : (most : ℕ) (t : Timetable) (us : List UpsetLine) (old m new : Machine) (had mid got : Option (List ℕ)) (before after : BoardView)
    → old.halted ≡ false → 0 < most → t 0 ≡ us → AreNoneLater most t → mid ≡ grown had (texts (map struck_line us))
    → m ≡ ready (map upset_of us) old → IsStepCut most m new mid got → IsRunHeard m new before after
    → IsStruckCut most t old new had got before after
piece_cut most t us old m new had mid got before after runs some here none first is cut heard =
    piece_short most t us old new had mid got before after runs some here none first
    (subst (λ (x : Machine). IsStepCut most x new mid got) is cut) (subst (λ (x : Machine). IsRunHeard x new before after) is heard)

-- how many ticks have been counted
pub piece_counted : (done more : ℕ) (us : List UpsetLine) (old mid new : Machine) → mid.halted ≡ false → mid.ticks ≡ old.ticks + done → new ≡ run (ready (map upset_of us) mid) more → HasCounted (done + more) old new
piece_counted done more us old mid new runs begun is =
    let m : Machine = ready (map upset_of us) mid in
    let goes : m.halted ≡ false = ready_halted (map upset_of us) mid ∙ runs in
    let at : m.ticks ≡ old.ticks + done = ready_ticks (map upset_of us) mid ∙ begun in
    let halted : new.halted ≡ (run m more).halted = ap (λ (x : Machine). x.halted) is in
    let ticks : new.ticks ≡ (run m more).ticks = ap (λ (x : Machine). x.ticks) is in
    let all : new.halted ≡ false → new.ticks ≡ old.ticks + (done + more) = (λ still. omega (arith, ticks, at, ticks_exact more m (sym halted ∙ still))) in
    let fewer : new.halted ≡ true → new.ticks < old.ticks + (done + more) = (λ stops. omega (arith, ticks, at, ticks_fewer more m goes (sym halted ∙ stops))) in
    record {
      runs = all;
      halts = λ began stops. fewer stops;
      most = either new.halted refl all fewer;
    }
  where
    either : (b : Bool) → new.halted ≡ b → (new.halted ≡ false → new.ticks ≡ old.ticks + (done + more)) → (new.halted ≡ true → new.ticks < old.ticks + (done + more)) → new.ticks ≤ old.ticks + (done + more)
    either true stops all fewer = omega (arith, fewer stops)
    either false still all fewer = omega (arith, all still)

-- two pieces: their texts, and the bytes of consoles
both_texts : (j k : ℕ) (t : Timetable) (g m : Machine) → m ≡ upset_run (upsets_of t) g j → texts (reported t g (j + k)) ≡ texts (reported t g j) ++ texts (reported (from j t) m k)
both_texts j k t g m is =
    ap texts (reported_add j k t g) ∙ texts-append (reported t g j) (reported (from j t) (upset_run (upsets_of t) g j) k)
    ∙ ap (λ (x : Machine). texts (reported t g j) ++ texts (reported (from j t) x k)) (sym is)

both_to_texts : (j k : ℕ) (t : Timetable) (g m : Machine) → m ≡ upset_run (upsets_of t) g j
    → length (texts (reported_to t g (j + k))) ≡ length (texts (reported t g j)) + length (texts (reported_to (from j t) m k))
both_to_texts j k t g m is =
    ap (λ (ls : List ReportLine). length (texts ls)) (reported_to_add j k t g)
    ∙ ap length (texts-append (reported t g j) (reported_to (from j t) (upset_run (upsets_of t) g j) k))
    ∙ length-append (texts (reported t g j)) (texts (reported_to (from j t) (upset_run (upsets_of t) g j) k))
    ∙ ap (λ (x : Machine). length (texts (reported t g j)) + length (texts (reported_to (from j t) x k))) (sym is)

both_heard : (j k : ℕ) (t : Timetable) (g m : Machine) (before board after : BoardView) → m ≡ upset_run (upsets_of t) g j
    → IsHeard (upset_console (upsets_of t) g j) before board → IsHeard (upset_console (upsets_of (from j t)) m k) board after → IsHeard (upset_console (upsets_of t) g (j + k)) before after
both_heard j k t g m before board after is first second =
    heard_as (λ uart. upset_console (upsets_of t) g j uart ++ upset_console (upsets_of (from j t)) m k uart) (upset_console (upsets_of t) g (j + k)) before after
    (λ uart.
    ap (λ (x : Machine). upset_console (upsets_of t) g j uart ++ upset_console (upsets_of (from j t)) x k uart) is
    ∙ sym (timed_console_add j k t g uart))
    (heard_then (upset_console (upsets_of t) g j) (upset_console (upsets_of (from j t)) m k) before board after first second)

both_run : (j k : ℕ) (t : Timetable) (g m new : Machine) → m ≡ upset_run (upsets_of t) g j → new ≡ upset_run (upsets_of (from j t)) m k → new ≡ upset_run (upsets_of t) g (j + k)
both_run j k t g m new is then = then ∙ ap (λ (x : Machine). upset_run (upsets_of (from j t)) x k) is ∙ sym (timed_run_add j k t g)

-- more ticks of a run with upsets, each piece of it with those that come then
pub struck_on : (done more printed count : ℕ) (t : Timetable) (g mid new : Machine) (had between got : Option (List ℕ)) (before board after : BoardView)
    → AreStruck done printed t g mid had between before board → AreStruck more count (from done t) mid new between got board after
    → AreStruck (done + more) (printed + count) t g new had got before after
struck_on done more printed count t g mid new had between got before board after are then = record {
  state = both_run done more t g mid new are.state then.state;
  count = omega (
    arith,
    are.count,
    then.count,
    ap length (reported_add done more t g),
    length-append (reported t g done) (reported (from done t) (upset_run (upsets_of t) g done) more),
    ap (λ (m : Machine). length (reported (from done t) m more)) are.state,
  );
  report = then.report ∙ ap (λ (x : Option (List ℕ)). grown x (texts (reported (from done t) mid more))) are.report
      ∙ grown_grown had (texts (reported t g done)) (texts (reported (from done t) mid more))
      ∙ ap (grown had) (sym (both_texts done more t g mid are.state));
  heard = both_heard done more t g mid before board after are.state are.heard then.heard;
}

-- the lines of a tick's upsets are of those of the tick
first_grows : (count : ℕ) (t : Timetable) (g : Machine) → length (texts (struck_lines g.halted (t 0))) ≤ length (texts (reported t g (suc count)))
first_grows count t g =
    let m : Machine = ready (map upset_of (t 0)) g in
    let first : List ReportLine = struck_lines g.halted (t 0) in
    let rest : List ReportLine = step_lines m ++ reported (later t) (step m) count in
    omega (
      arith,
      ap (λ (ls : List ReportLine). length (texts ls)) (append_assoc first (step_lines m) (reported (later t) (step m) count)),
      ap length (texts-append first rest),
      length-append (texts first) (texts rest),
    )

-- a longer run has no fewer lines, those of the upsets before the next tick with them
pub struck_grows : (j k : ℕ) (t : Timetable) (g : Machine) → j < k → length (texts (reported_to t g j)) ≤ length (texts (reported t g k))
struck_grows j k t g less =
    let rest : k ≡ j + suc (k - j - 1) = omega (arith, less) in
    let m : Machine = upset_run (upsets_of t) g j in
    let none : length (texts (reported_to t g j)) ≡ length (texts (reported t g j)) + length (texts (struck_lines m.halted (t j))) =
    ap length (texts-append (reported t g j) (struck_lines m.halted (t j))) ∙ length-append (texts (reported t g j)) (texts (struck_lines m.halted (t j))) in
    let here : from j t 0 ≡ t j = from_at j 0 t ∙ (let same : j + 0 ≡ j = omega arith in ap t same) in
    omega (
      arith,
      none,
      ap (λ (n : ℕ). length (texts (reported t g n))) rest,
      ap length (both_texts j (suc (k - j - 1)) t g m refl),
      length-append (texts (reported t g j)) (texts (reported (from j t) m (suc (k - j - 1)))),
      first_grows (k - j - 1) (from j t) m,
      ap (λ (ls : List UpsetLine). length (texts (struck_lines m.halted ls))) here,
    )

-- more ticks, of which the last was cut off
pub struck_cut : (done most asked printed : ℕ) (t : Timetable) (g mid new : Machine) (had between got : Option (List ℕ)) (before board after : BoardView)
    → AreStruck done printed t g mid had between before board → IsStruckCut most (from done t) mid new between got board after → done + most ≤ asked
    → IsStruckCut asked t g new had got before after
struck_cut done most asked printed t g mid new had between got before board after are then room = record {
  done = done + then.done;
  within = omega (arith, then.within, room);
  state = both_run done then.done t g mid new are.state then.state;
  report = front_of_all had between got (texts (reported t g done)) (texts (reported (from done t) mid most)) (texts (reported (from (done + most) t) (upset_run (upsets_of t) g (done + most)) (asked - (done + most))))
      (texts (reported t g asked)) all are.report then.report;
  whole = λ k below. ⊎_elim (earlier k) (past k below) (cases_lt k done);
  cut = omega (arith, then.cut, both_to_texts done then.done t g mid are.state);
  heard = both_heard done then.done t g mid before board after are.state are.heard then.heard;
}
  where
    all : texts (reported t g asked)
        ≡ texts (reported t g done) ++ texts (reported (from done t) mid most) ++ texts (reported (from (done + most) t) (upset_run (upsets_of t) g (done + most)) (asked - (done + most)))
    all =
        let sum : asked ≡ (done + most) + (asked - (done + most)) = omega (arith, room) in
        ap (λ (n : ℕ). texts (reported t g n)) sum
        ∙ both_texts (done + most) (asked - (done + most)) t g (upset_run (upsets_of t) g (done + most)) refl
        ∙ ap (λ (bytes : List ℕ). bytes ++ texts (reported (from (done + most) t) (upset_run (upsets_of t) g (done + most)) (asked - (done + most))))
        (both_texts done most t g mid are.state)

    earlier : (k : ℕ) → k < done → length (texts (reported_to t g k)) ≤ length (texts (reported t g done)) + then.report.count
    earlier k less = omega (arith, struck_grows k done t g less)

    past : (k : ℕ) → k < done + then.done → done ≤ k → length (texts (reported_to t g k)) ≤ length (texts (reported t g done)) + then.report.count
    past k below at_least =
        let rest : k ≡ done + (k - done) = omega (arith, at_least) in
        omega (
          arith,
          ap (λ (n : ℕ). length (texts (reported_to t g n))) rest,
          both_to_texts done (k - done) t g mid are.state,
          then.whole (k - done) (omega (arith, below, at_least)),
        )

-- a machine that has halted says nothing
upset_console_halted : (count : ℕ) (s : Schedule) (g : Machine) (uart : ℕ) → g.halted ≡ true → upset_console s g count uart ≡ []
upset_console_halted zero s g uart halts = refl
upset_console_halted (suc count) s g uart halts =
    ap (λ (m : Machine). step_console m uart ++ upset_console (later s) (step m) count uart) (ready_halts (s 0) g halts)
    ∙ ap (λ (first : List ℕ). first ++ upset_console (later s) (step g) count uart) (console_halted g uart halts)
    ∙ ap (λ (m : Machine). upset_console (later s) m count uart) (step_halted g halts)
    ∙ upset_console_halted count (later s) g uart halts

-- ticks after which the hypervisor has halted are as many more, too
struck_halted : (done asked printed : ℕ) (t : Timetable) (g new : Machine) (had got : Option (List ℕ)) (before after : BoardView)
    → AreStruck done printed t g new had got before after → new.halted ≡ true → done ≤ asked → AreStruck asked printed t g new had got before after
struck_halted done asked printed t g new had got before after are halts within =
    let sum : done + (asked - done) ≡ asked = omega (arith, within) in
    let still : (upset_run (upsets_of t) g done).halted ≡ true = sym (ap (λ (m : Machine). m.halted) are.state) ∙ halts in
    let s : Schedule = upsets_of (from done t) in
    let more : AreStruck (asked - done) 0 (from done t) new new got got after after = record {
      state = sym (upset_run_halted (asked - done) s new halts);
      count = sym (ap length (reported_halted (asked - done) (from done t) new halts));
      report = sym (ap (λ (ls : List ReportLine). grown got (texts ls)) (reported_halted (asked - done) (from done t) new halts) ∙ grown-nothing got);
      heard = heard_as (λ uart. []) (upset_console s new (asked - done)) after after (λ uart. sym (upset_console_halted (asked - done) s new uart halts)) (heard_nothing after);
    } in
    let both = struck_on done (asked - done) printed 0 t g new new had got got before after after are more in
    let same : printed + 0 ≡ printed = omega arith in
    subst (λ (n : ℕ). AreStruck n printed t g new had got before after) sum (subst (λ (n : ℕ). AreStruck (done + (asked - done)) n t g new had got before after) same both)

-- this many ticks of a run with upsets were done, and these lines are to come
pub record GoesTo (done printed asked : ℕ) (upsets coming : List UpsetLine) (old new : Machine) (had got : Option (List ℕ)) (before after : BoardView) : Type 0 where
  pub within : done ≤ asked
  pub are : AreStruck done printed (from_tick old.ticks (due upsets)) old new had got before after
  pub counted : HasCounted done old new
  pub same : (k : ℕ) → old.ticks + done ≤ k → due coming k ≡ due upsets k
  pub ordered : new.halted ≡ false → AreOrdered (old.ticks + done) coming
  pub few : printed + length coming ≤ 41 * done + length upsets
  pub system : new.system ≡ old.system
  pub parts : length new.parts ≡ length old.parts

-- it is on its way
pub record GoesStruck (printed asked : ℕ) (upsets coming : List UpsetLine) (old new : Machine) (had got : Option (List ℕ)) (before after : BoardView) : Type 0 where
  pub done : ℕ
  pub to : GoesTo done printed asked upsets coming old new had got before after

-- it begins
pub begins_struck : (asked : ℕ) (upsets coming : List UpsetLine) (g : Machine) (had : Option (List ℕ)) (board : BoardView) → coming ≡ upsets → AreOrdered g.ticks upsets
    → GoesStruck 0 asked upsets coming g g had had board board
begins_struck asked upsets coming g had board all ordered =
    let none : g.ticks ≡ g.ticks + 0 = omega arith in
    record {
      done = 0;
      to = record {
        within = omega arith;
        are = record { state = refl; count = refl; report = sym (grown-nothing had); heard = heard_nothing board };
        counted = record { runs = λ runs. none; halts = λ runs halts. absurd (let wrong : true ≡ false = sym halts ∙ runs in cc); most = omega arith };
        same = λ k from_here. ap (λ (ls : List UpsetLine). due ls k) all;
        ordered = λ runs. subst (λ (n : ℕ). AreOrdered n coming) none (subst (AreOrdered g.ticks) (sym all) ordered);
        few = omega (arith, ap length all);
        system = refl;
        parts = refl;
      };
    }

-- as many ticks were done as are counted
pub at_begun : (begun printed asked : ℕ) (upsets coming : List UpsetLine) (old new : Machine) (had got : Option (List ℕ)) (before after : BoardView)
    → GoesStruck printed asked upsets coming old new had got before after → new.halted ≡ false → begun ≡ new.ticks
    → GoesTo (begun - old.ticks) printed asked upsets coming old new had got before after × (begun ≡ old.ticks + (begun - old.ticks))
at_begun begun printed asked upsets coming old new had got before after goes runs is =
    let done : goes.done ≡ begun - old.ticks = omega (arith, is, goes.to.counted.runs runs) in
    (subst (λ (n : ℕ). GoesTo n printed asked upsets coming old new had got before after) done goes.to, omega (arith, is, goes.to.counted.runs runs))

-- the lines that are to come are of this tick and later ones
pub begun_ordered : (begun printed asked : ℕ) (upsets coming : List UpsetLine) (old new : Machine) (had got : Option (List ℕ)) (before after : BoardView)
    → GoesStruck printed asked upsets coming old new had got before after → new.halted ≡ false → begun ≡ new.ticks → AreOrdered begun coming
begun_ordered begun printed asked upsets coming old new had got before after goes runs is =
    subst (λ (n : ℕ). AreOrdered n coming) (sym (is ∙ goes.to.counted.runs runs)) (goes.to.ordered runs)

-- the upsets before the next tick may strike
pub next_strike : (done begun printed asked : ℕ) (upsets coming now : List UpsetLine) (old new : Machine) (had got : Option (List ℕ)) (before after : BoardView)
    → GoesTo done printed asked upsets coming old new had got before after → begun ≡ old.ticks + done → All (MayStrike old) upsets → now ≡ due coming begun → All (MayStrike new) now
next_strike done begun printed asked upsets coming now old new had got before after goes at may these =
    subst (λ (ls : List UpsetLine). All (MayStrike new) ls) (sym (these ∙ goes.same begun (omega (arith, at))))
    (λ k d below. may_strike old new (get_or (due upsets begun) k d) goes.system goes.parts (due_strike old begun upsets may k d below))

-- before the next tick these upsets strike, and none before those up to the next line's
pub next_upsets : (first done begun next : ℕ) (upsets coming rest now : List UpsetLine) → begun ≡ first + done → ((k : ℕ) → first + done ≤ k → due coming k ≡ due upsets k)
    → now ≡ due coming begun → ((k : ℕ) → begun < k → due rest k ≡ due coming k) → ((k : ℕ) → k < next → due rest k ≡ [])
    → (from done (from_tick first (due upsets)) 0 ≡ now) × AreNoneLater (next - begun) (from done (from_tick first (due upsets)))
next_upsets first done begun next upsets coming rest now at same these later_same none = (here, then)
  where
    here : from done (from_tick first (due upsets)) 0 ≡ now
    here =
        let place : first + (done + 0) ≡ begun = omega (arith, at) in
        from_at done 0 (from_tick first (due upsets)) ∙ ap (due upsets) place ∙ sym (same begun (omega (arith, at))) ∙ sym these

    then : AreNoneLater (next - begun) (from done (from_tick first (due upsets)))
    then k below =
        let place : first + (done + suc k) ≡ begun + suc k = omega (arith, at) in
        from_at done (suc k) (from_tick first (due upsets)) ∙ ap (due upsets) place ∙ sym (same (begun + suc k) (omega (arith, at))) ∙ sym (later_same (begun + suc k) (omega arith))
        ∙ none (begun + suc k) (omega (arith, below))

-- it goes on
pub goes_struck : RunsKeepNumbers → (done begun printed count asked next : ℕ) (upsets coming rest now : List UpsetLine) (old mid new : Machine) (had between got : Option (List ℕ)) (before board after : BoardView)
    → GoesTo done printed asked upsets coming old mid had between before board → begun ≡ old.ticks + done → mid.halted ≡ false
    → begun < next → next ≤ old.ticks + asked → coming ≡ now ++ rest → ((k : ℕ) → begun < k → due rest k ≡ due coming k) → AreOrdered next rest
    → AreStruck (next - begun) count (from done (from_tick old.ticks (due upsets))) mid new between got board after
    → new ≡ run (ready (map upset_of now) mid) (next - begun) → count ≤ 41 * (next - begun) + length now
    → GoesStruck (printed + count) asked upsets rest old new had got before after
goes_struck keeps done begun printed count asked next upsets coming rest now old mid new had between got before board after goes at runs nearer within all later_same ordered more is few =
    let m : Machine = ready (map upset_of now) mid in
    let many : IsAsMany m (run m (next - begun)) = keeps m (next - begun) in
    let place : next ≡ old.ticks + (done + (next - begun)) = omega (arith, at, nearer) in
    record {
      done = done + (next - begun);
      to = record {
        within = omega (arith, at, nearer, within);
        are = struck_on done (next - begun) printed count (from_tick old.ticks (due upsets)) old mid new had between got before board after goes.are more;
        counted = piece_counted done (next - begun) now old mid new runs (goes.counted.runs runs) is;
        same = λ k from_here. later_same k (omega (arith, at, nearer, from_here)) ∙ goes.same k (omega (arith, at, nearer, from_here));
        ordered = λ still. subst (λ (n : ℕ). AreOrdered n rest) place ordered;
        few = omega (arith, goes.few, few, nearer, ap length all, length-append now rest);
        system = ap (λ (x : Machine). x.system) is ∙ many.system ∙ ready_system (map upset_of now) mid ∙ goes.system;
        parts = ap (λ (x : Machine). length x.parts) is ∙ many.parts ∙ ready_all_counted now mid ∙ goes.parts;
      };
    }

-- and comes nearer to its end
pub struck_nearer : (asked done : ℕ) (us : List UpsetLine) (old new : Machine) → old.halted ≡ false → old.ticks < asked → 0 < done → new ≡ run (ready (map upset_of us) old) done
    → to_come asked new < to_come asked old
struck_nearer asked done us old new runs below some is =
    let m : Machine = ready (map upset_of us) old in
    let ticks : m.ticks ≡ old.ticks = ready_ticks (map upset_of us) old in
    let halted : m.halted ≡ old.halted = ready_halted (map upset_of us) old in
    omega (
      arith,
      comes_nearer asked done m new (halted ∙ runs) (omega (arith, ticks, below)) some is,
      ap (λ (n : ℕ). asked - n) ticks,
      ap (λ b. flag (not b)) halted,
    )

-- what has been done of it when it ends: the hypervisor has halted, or all ticks are done
pub struck_out : (printed asked : ℕ) (upsets coming : List UpsetLine) (old new : Machine) (had got : Option (List ℕ)) (before after : BoardView)
    → GoesStruck printed asked upsets coming old new had got before after → (new.halted ≡ false → old.ticks + asked ≤ new.ticks)
    → AreStruck asked printed (from_tick old.ticks (due upsets)) old new had got before after × HasCounted asked old new
struck_out printed asked upsets coming old new had got before after goes ends = at new.halted refl
  where
    at : (b : Bool) → new.halted ≡ b → AreStruck asked printed (from_tick old.ticks (due upsets)) old new had got before after × HasCounted asked old new
    at true halts = (
      struck_halted goes.done asked printed (from_tick old.ticks (due upsets)) old new had got before after goes.to.are halts goes.to.within,
      record {
        runs = λ runs. absurd (let wrong : true ≡ false = sym halts ∙ runs in cc);
        halts = λ began stops. omega (arith, goes.to.counted.halts began stops, goes.to.within);
        most = omega (arith, goes.to.counted.most, goes.to.within);
      },
    )
    at false runs =
        let all : goes.done ≡ asked = omega (arith, goes.to.counted.runs runs, ends runs, goes.to.within) in (
          subst (λ (n : ℕ). AreStruck n printed (from_tick old.ticks (due upsets)) old new had got before after) all goes.to.are,
          subst (λ (n : ℕ). HasCounted n old new) all goes.to.counted,
        )
