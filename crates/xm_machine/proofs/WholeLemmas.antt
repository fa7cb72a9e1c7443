-- Runs of the machine with their whole report.
use Rattle.std.proofs.Common.{◌≡◌, ℕ, ◌+◌, ◌-◌, ◌<◌, ◌≤◌, Bool, false, true, List, [], ◌∷◌, ◌++◌, length, Option, refl, sym, ap, ◌∙◌, subst, arith, append_assoc, length-append}
use Rattle.std.specs.Prelude.{IsTrue, ◌↔◌}
use Rattle.std.proofs.lemmas.List.{append-nil}
use Rattle.xm_outside.specs.Growth.{grown, GrewByPrefix}
use Rattle.xm_outside.specs.lemmas.GrowthLemmas.{grown-nothing, grown_grown}
use Rattle.xm_report.specs.Report.{ReportLine, text_of, texts}
use Rattle.xm_report.specs.lemmas.ReportLemmas.{texts-append}
use Rattle.machine_model.specs.Lines.{end_line, end_lines, lines}
use Rattle.machine_model.specs.Lists.{all_of}
use Rattle.machine_model.specs.Machine.{Machine, run}
use Rattle.span_model.specs.lemmas.RunLemmas.{lines_add}
use Rattle.xm_machine.proofs.FrontLemmas.{front_of_all}
use Rattle.xm_machine.proofs.GoingLemmas.{lines_grow}
use Rattle.tick_steps.specs.lemmas.KeptLemmas.{ticks_exact, ticks_fewer, ticks_most}
use Rattle.xm_machine.proofs.OutLemmas.{both_out, first_cut, one_cut, one_line, rest_cut}
use Rattle.uart_board.specs.lemmas.HeardLemmas.{heard_nothing}
use Rattle.uart_board.specs.Views.{BoardView}
use Rattle.xm_machine.specs.Heard.{IsRunHeard}
use Rattle.xm_machine.specs.Outcome.{IsCutRun, IsWholeRun, first_line, report_of, report_to}
use Rattle.xm_machine.specs.lemmas.OutcomeTerms.{last_line}
use Rattle.xm_machine.specs.lemmas.StepsTerms.{AreRun}
use Rattle.xm_machine.specs.Steps.{IsStepCut}
use Rattle.xm_machine.specs.declared.run.Ran.{Ran}

-- the lines of the partitions' ends
abbrev part_ends : Machine → List ReportLine
part_ends g = all_of (λ p ps. end_line p ps ∷ []) g.parts

-- a record of how many lines went out
pub record EndsOut (count : ℕ) (lines : List ReportLine) (had got : Option (List ℕ)) : Type 0 where
  pub printed : count ≡ length lines
  pub out : got ≡ grown had (texts lines)

-- the last line, after the ends of the partitions
pub last_out : (g : Machine) (count : ℕ) (had mid got : Option (List ℕ)) → count ≡ length (all_of (λ p ps. end_line p ps ∷ []) g.parts) → mid ≡ grown had (texts (all_of (λ p ps. end_line p ps ∷ []) g.parts))
    → got ≡ grown mid (text_of (last_line g)) → EndsOut (count + 1) (end_lines g) had got
unfolding end_lines
last_out g count had mid got printed ends put = record {
  printed = omega (arith, printed, length-append (part_ends g) (last_line g ∷ []));
  out = both_out (part_ends g) (last_line g ∷ []) had mid got ends (one_line (last_line g) mid got put);
}

-- the last line did not go out whole
pub last_cut : (g : Machine) (had mid got : Option (List ℕ)) → mid ≡ grown had (texts (all_of (λ p ps. end_line p ps ∷ []) g.parts)) → GrewByPrefix mid (text_of (last_line g)) got → GrewByPrefix had (texts (end_lines g)) got
unfolding end_lines
last_cut g had mid got ends cut = rest_cut (part_ends g) (last_line g ∷ []) had mid got ends (one_cut (last_line g) mid got cut)

-- the ends of the partitions did not go out whole
pub ends_cut : (g : Machine) (had got : Option (List ℕ)) → GrewByPrefix had (texts (all_of (λ p ps. end_line p ps ∷ []) g.parts)) got → GrewByPrefix had (texts (end_lines g)) got
unfolding end_lines
ends_cut g had got cut = first_cut (part_ends g) (last_line g ∷ []) had got cut

-- what more ticks add to a report
more_texts : (g : Machine) (asked done later : ℕ) → done ≤ later → texts (report_to g asked later) ≡ texts (report_to g asked done) ++ texts (lines (run g done) (later - done))
more_texts g asked done later less =
    let sum : later ≡ done + (later - done) = omega arith in
    ap (λ (n : ℕ). texts (report_to g asked n)) sum
    ∙ ap (λ (l : List ReportLine). text_of (first_line g asked) ++ texts l) (lines_add g done (later - done))
    ∙ ap (λ (bytes : List ℕ). text_of (first_line g asked) ++ bytes) (texts-append (lines g done) (lines (run g done) (later - done)))
    ∙ sym (append_assoc (text_of (first_line g asked)) (texts (lines g done)) (texts (lines (run g done) (later - done))))

-- the text of a whole report
texts_whole : (g : Machine) (asked : ℕ) → texts (report_of g asked) ≡ texts (report_to g asked asked) ++ texts (end_lines (run g asked))
unfolding report_of
texts_whole g asked = texts-append (report_to g asked asked) (end_lines (run g asked))

-- its lines, by number
length_whole : (g : Machine) (asked : ℕ) → length (report_of g asked) ≡ 1 + length (lines g asked) + length (end_lines (run g asked))
unfolding report_of
length_whole g asked = length-append (report_to g asked asked) (end_lines (run g asked)) ∙ omega arith

-- what a report has after its first this many ticks
abbrev later_text : Machine → ℕ → ℕ → List ℕ
later_text g asked done = texts (lines (run g done) (asked - done)) ++ texts (end_lines (run g asked))

rest_of : (g : Machine) (asked done : ℕ) → done ≤ asked → texts (report_of g asked) ≡ texts (report_to g asked done) ++ later_text g asked done
rest_of g asked done within =
    texts_whole g asked
    ∙ ap (λ (bytes : List ℕ). bytes ++ texts (end_lines (run g asked))) (more_texts g asked done asked within)
    ∙ append_assoc (texts (report_to g asked done)) (texts (lines (run g done) (asked - done))) (texts (end_lines (run g asked)))

-- the first line did not go out whole
pub first_line_cut : (g : Machine) (asked : ℕ) (had got : Option (List ℕ)) (board : BoardView) → GrewByPrefix had (text_of (first_line g asked)) got → IsCutRun asked g g had got board board
first_line_cut g asked had got board cut =
    let all : texts (report_of g asked) ≡ [] ++ text_of (first_line g asked) ++ later_text g asked 0 =
    rest_of g asked 0 (omega arith) ∙ ap (λ (bytes : List ℕ). bytes ++ later_text g asked 0) (append-nil (text_of (first_line g asked))) in
    record {
      report = front_of_all had had got [] (text_of (first_line g asked)) (later_text g asked 0) (texts (report_of g asked)) all (sym (grown-nothing had)) cut;
      ticks = 0;
      within = omega arith;
      state = refl;
      heard = heard_nothing board;
      whole = λ (k : ℕ) (below : k < 0). absurd (omega arith);
      cut = λ (some : 0 < asked). omega (arith, cut.short, length-append (text_of (first_line g asked)) []);
    }

-- the ticks did not reach their end
pub ticks_cut : (g new : Machine) (asked : ℕ) (had mid got : Option (List ℕ)) (before after : BoardView) → mid ≡ grown had (text_of (first_line g asked)) → IsStepCut asked g new mid got
    → IsRunHeard g new before after → IsCutRun asked g new had got before after
ticks_cut g new asked had mid got before after first cut heard = record {
  report = front_of_all had mid got (text_of (first_line g asked)) (texts (lines g cut.done)) (later_text g asked cut.done) (texts (report_of g asked)) (rest_of g asked cut.done cut.within) first cut.are.report;
  ticks = cut.done;
  within = cut.within;
  state = cut.are.state;
  heard = heard cut.done cut.are.state;
  whole = λ (k : ℕ) (below : k < cut.done). omega (arith, cut.are.whole k below, length-append (text_of (first_line g asked)) (texts (lines g k)));
  cut = λ (fewer : cut.done < asked). omega (arith, cut.are.cut, length-append (text_of (first_line g asked)) (texts (lines g cut.done)));
}

-- the bytes of a report up to its end
up_to_end : (g : Machine) (asked : ℕ) (had mid end : Option (List ℕ)) → mid ≡ grown had (text_of (first_line g asked)) → end ≡ grown mid (texts (lines g asked)) → end ≡ grown had (texts (report_to g asked asked))
up_to_end g asked had mid end first ticks =
    ticks ∙ ap (λ (m : Option (List ℕ)). grown m (texts (lines g asked))) first ∙ grown_grown had (text_of (first_line g asked)) (texts (lines g asked))

-- the lines of the end did not go out whole
pub end_cut : (g new : Machine) (asked printed : ℕ) (had mid end got : Option (List ℕ)) (before after : BoardView) → mid ≡ grown had (text_of (first_line g asked)) → AreRun asked printed g new mid end
    → GrewByPrefix end (texts (end_lines new)) got → IsRunHeard g new before after → IsCutRun asked g new had got before after
end_cut g new asked printed had mid end got before after first ticks cut heard =
    let ends : GrewByPrefix end (texts (end_lines (run g asked))) got = subst (λ (x : Machine). GrewByPrefix end (texts (end_lines x)) got) ticks.state cut in
    record {
      report = front_of_all had end got (texts (report_to g asked asked)) (texts (end_lines (run g asked))) [] (texts (report_of g asked))
          (texts_whole g asked ∙ sym (append-nil (texts (report_to g asked asked) ++ texts (end_lines (run g asked)))))
          (up_to_end g asked had mid end first ticks.report) ends;
      ticks = asked;
      within = omega arith;
      state = ticks.state;
      heard = heard asked ticks.state;
      whole = λ (k : ℕ) (below : k < asked).
          omega (
            arith,
            lines_grow g k asked (omega arith),
            length-append (text_of (first_line g asked)) (texts (lines g k)),
            length-append (text_of (first_line g asked)) (texts (lines g asked)),
          );
      cut = λ (fewer : asked < asked). absurd (omega arith);
    }

-- a run of fewer ticks than asked is one in which the hypervisor halted
fewer_halted : (g new : Machine) (asked : ℕ) → new ≡ run g asked → g.ticks ≡ 0 → g.halted ≡ false → (new.ticks < asked) ↔ IsTrue new.halted
fewer_halted g new asked is fresh running = (fewer new.halted refl, halts new.halted refl)
  where
    fewer : (b : Bool) → new.halted ≡ b → new.ticks < asked → IsTrue b
    fewer true e less = refl
    fewer false e less =
        absurd (omega (arith, less, fresh, ap (λ (m : Machine). m.ticks) is, ticks_exact asked g (sym (ap (λ (m : Machine). m.halted) is) ∙ e)))

    halts : (b : Bool) → new.halted ≡ b → IsTrue b → new.ticks < asked
    halts true e stopped = omega (arith, fresh, ap (λ (m : Machine). m.ticks) is, ticks_fewer asked g running (sym (ap (λ (m : Machine). m.halted) is) ∙ e))
    halts false e stopped = absurd (cc)

-- the whole report went out
pub whole_out : (ran : Ran) (g new : Machine) (asked printed ended : ℕ) (had mid end got : Option (List ℕ)) (before after : BoardView) → mid ≡ grown had (text_of (first_line g asked)) → AreRun asked printed g new mid end
    → ended ≡ length (end_lines new) → got ≡ grown end (texts (end_lines new))
    → ran.ticks ≡ new.ticks → ran.halted ≡ new.halted → ran.lines ≡ 1 + printed + ended → g.ticks ≡ 0 → g.halted ≡ false → IsRunHeard g new before after
    → IsWholeRun ran asked g new had got before after
whole_out ran g new asked printed ended had mid end got before after first ticks ends out ran_ticks ran_halted ran_lines fresh running heard =
    let both = fewer_halted g new asked ticks.state fresh running in
    record {
      state = ticks.state;
      heard = heard asked ticks.state;
      report = out ∙ ap (λ (m : Option (List ℕ)). grown m (texts (end_lines new))) (up_to_end g asked had mid end first ticks.report)
          ∙ grown_grown had (texts (report_to g asked asked)) (texts (end_lines new))
          ∙ ap (λ (x : Machine). grown had (texts (report_to g asked asked) ++ texts (end_lines x))) ticks.state
          ∙ ap (grown had) (sym (texts_whole g asked));
      ticks = ran_ticks;
      halted = ran_halted;
      most = omega (arith, ran_ticks, ap (λ (m : Machine). m.ticks) ticks.state, ticks_most asked g, fresh);
      fewer = subst (λ (n : ℕ). (n < asked) ↔ IsTrue ran.halted) (sym ran_ticks) (subst (λ (b : Bool). (new.ticks < asked) ↔ IsTrue b) (sym ran_halted) both);
      lines = omega (arith, ran_lines, ticks.count, ends, ap (λ (x : Machine). length (end_lines x)) ticks.state, length_whole g asked);
    }
