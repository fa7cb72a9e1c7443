-- Runs with upsets and with their whole report.
use Rattle.std.proofs.Common.{◌≡◌, ℕ, ◌+◌, ◌<◌, Bool, false, true, List, [], ◌∷◌, ◌++◌, length, Option, refl, sym, ap, ◌∙◌, subst, arith, append_assoc, length-append}
use Rattle.std.specs.Prelude.{IsTrue, ◌↔◌}
use Rattle.std.proofs.lemmas.List.{append-nil}
use Rattle.xm_outside.specs.Growth.{grown, GrewByPrefix}
use Rattle.xm_outside.specs.lemmas.GrowthLemmas.{grown-nothing, grown_grown}
use Rattle.xm_report.specs.Report.{ReportLine, text_of, texts}
use Rattle.xm_report.specs.lemmas.ReportLemmas.{texts-append}
use Rattle.uart_board.specs.lemmas.HeardLemmas.{heard_nothing}
use Rattle.uart_board.specs.Views.{BoardView}
use Rattle.continuation_laws.specs.Onward.{coming, report_from}
use Rattle.machine_model.specs.Lines.{end_lines}
use Rattle.machine_model.specs.Machine.{Machine}
use Rattle.upset_model.specs.Places.{upsets_of}
use Rattle.upset_model.specs.Reports.{reported, reported_to}
use Rattle.upset_model.specs.Upsets.{upset_run}
use Rattle.upset_model.specs.declared.upset_line.UpsetLine.{UpsetLine}
use Rattle.xm_machine.proofs.FrontLemmas.{front_of_all}
use Rattle.xm_machine.proofs.StruckLemmas.{struck_grows}
use Rattle.xm_machine.specs.Outcome.{first_line}
use Rattle.xm_machine.specs.Struck.{IsCutStruckRun, IsWholeStruckRun}
use Rattle.xm_machine.specs.lemmas.StruckTerms.{AreStruck, HasCounted, IsStruckCut}
use Rattle.xm_machine.specs.declared.run.Ran.{Ran}

-- the lines of the end, after these ticks
abbrev ends_of : List UpsetLine → Machine → ℕ → List ReportLine
ends_of upsets g asked = end_lines (upset_run (upsets_of (coming upsets g)) g asked)

-- the text of a whole report
whole_texts : (upsets : List UpsetLine) (g : Machine) (asked : ℕ)
    → texts (report_from upsets g asked) ≡ text_of (first_line g (g.ticks + asked)) ++ texts (reported (coming upsets g) g asked) ++ texts (ends_of upsets g asked)
unfolding report_from
whole_texts upsets g asked = texts-append (first_line g (g.ticks + asked) ∷ reported (coming upsets g) g asked) (ends_of upsets g asked)

-- its lines, by number
whole_length : (upsets : List UpsetLine) (g : Machine) (asked : ℕ) → length (report_from upsets g asked) ≡ 1 + length (reported (coming upsets g) g asked) + length (ends_of upsets g asked)
unfolding report_from
whole_length upsets g asked = length-append (first_line g (g.ticks + asked) ∷ reported (coming upsets g) g asked) (ends_of upsets g asked) ∙ omega arith

-- the first line did not go out whole
pub struck_first_cut : (upsets : List UpsetLine) (g : Machine) (asked : ℕ) (had got : Option (List ℕ)) (board : BoardView) → GrewByPrefix had (text_of (first_line g (g.ticks + asked))) got
    → IsCutStruckRun upsets asked g g had got board board
struck_first_cut upsets g asked had got board cut =
    let all : texts (report_from upsets g asked) ≡ [] ++ text_of (first_line g (g.ticks + asked)) ++ (texts (reported (coming upsets g) g asked) ++ texts (ends_of upsets g asked)) =
    whole_texts upsets g asked ∙ append_assoc (text_of (first_line g (g.ticks + asked))) (texts (reported (coming upsets g) g asked)) (texts (ends_of upsets g asked)) in
    record {
      report = front_of_all had had got [] (text_of (first_line g (g.ticks + asked))) (texts (reported (coming upsets g) g asked) ++ texts (ends_of upsets g asked)) (texts (report_from upsets g asked)) all
          (sym (grown-nothing had)) cut;
      ticks = 0;
      within = omega arith;
      state = refl;
      heard = heard_nothing board;
      whole = λ (k : ℕ) (below : k < 0). absurd (omega arith);
      cut = λ (some : 0 < asked). omega (arith, cut.short, length-append (text_of (first_line g (g.ticks + asked))) (texts (reported_to (coming upsets g) g 0)));
    }

-- the ticks did not reach their end
pub struck_ticks_cut : (upsets : List UpsetLine) (g new : Machine) (asked : ℕ) (had mid got : Option (List ℕ)) (before after : BoardView) → mid ≡ grown had (text_of (first_line g (g.ticks + asked)))
    → IsStruckCut asked (coming upsets g) g new mid got before after → IsCutStruckRun upsets asked g new had got before after
struck_ticks_cut upsets g new asked had mid got before after first cut = record {
  report = front_of_all had mid got (text_of (first_line g (g.ticks + asked))) (texts (reported (coming upsets g) g asked)) (texts (ends_of upsets g asked)) (texts (report_from upsets g asked))
      (whole_texts upsets g asked) first cut.report;
  ticks = cut.done;
  within = cut.within;
  state = cut.state;
  heard = cut.heard;
  whole = λ (k : ℕ) (below : k < cut.done). omega (arith, cut.whole k below, length-append (text_of (first_line g (g.ticks + asked))) (texts (reported_to (coming upsets g) g k)));
  cut = λ (fewer : cut.done < asked). omega (arith, cut.cut, length-append (text_of (first_line g (g.ticks + asked))) (texts (reported_to (coming upsets g) g cut.done)));
}

-- the bytes of a report up to its end
up_to_end : (upsets : List UpsetLine) (g : Machine) (asked : ℕ) (had mid end : Option (List ℕ)) → mid ≡ grown had (text_of (first_line g (g.ticks + asked))) → end ≡ grown mid (texts (reported (coming upsets g) g asked))
    → end ≡ grown had (text_of (first_line g (g.ticks + asked)) ++ texts (reported (coming upsets g) g asked))
up_to_end upsets g asked had mid end first ticks =
    ticks ∙ ap (λ (m : Option (List ℕ)). grown m (texts (reported (coming upsets g) g asked))) first ∙ grown_grown had (text_of (first_line g (g.ticks + asked))) (texts (reported (coming upsets g) g asked))

-- the lines of the end did not go out whole
pub struck_end_cut : (upsets : List UpsetLine) (g new : Machine) (asked printed : ℕ) (had mid end got : Option (List ℕ)) (before after : BoardView) → mid ≡ grown had (text_of (first_line g (g.ticks + asked)))
    → AreStruck asked printed (coming upsets g) g new mid end before after → GrewByPrefix end (texts (end_lines new)) got → IsCutStruckRun upsets asked g new had got before after
struck_end_cut upsets g new asked printed had mid end got before after first ticks cut =
    let front : List ℕ = text_of (first_line g (g.ticks + asked)) ++ texts (reported (coming upsets g) g asked) in
    let ends : GrewByPrefix end (texts (ends_of upsets g asked)) got = subst (λ (x : Machine). GrewByPrefix end (texts (end_lines x)) got) ticks.state cut in
    record {
      report = front_of_all had end got front (texts (ends_of upsets g asked)) [] (texts (report_from upsets g asked))
          (whole_texts upsets g asked ∙ sym (append-nil (front ++ texts (ends_of upsets g asked)))) (up_to_end upsets g asked had mid end first ticks.report) ends;
      ticks = asked;
      within = omega arith;
      state = ticks.state;
      heard = ticks.heard;
      whole = λ (k : ℕ) (below : k < asked).
          omega (
            arith,
            struck_grows k asked (coming upsets g) g below,
            length-append (text_of (first_line g (g.ticks + asked))) (texts (reported_to (coming upsets g) g k)),
            length-append (text_of (first_line g (g.ticks + asked))) (texts (reported (coming upsets g) g asked)),
          );
      cut = λ (fewer : asked < asked). absurd (omega (arith, fewer));
    }

-- where it had not halted, fewer ticks than asked are counted where the hypervisor halts, and there alone
fewer_struck : (asked : ℕ) (old new : Machine) → HasCounted asked old new → old.halted ≡ false → (new.ticks < old.ticks + asked) ↔ IsTrue new.halted
fewer_struck asked old new counted began = (fewer new.halted refl, halts new.halted refl)
  where
    fewer : (b : Bool) → new.halted ≡ b → new.ticks < old.ticks + asked → IsTrue b
    fewer true e less = refl
    fewer false e less = absurd (omega (arith, less, counted.runs e))

    halts : (b : Bool) → new.halted ≡ b → IsTrue b → new.ticks < old.ticks + asked
    halts true e stopped = counted.halts began e
    halts false e stopped = absurd (cc)

-- the whole report went out
pub struck_whole_out : (ran : Ran) (upsets : List UpsetLine) (g new : Machine) (asked printed ended : ℕ) (had mid end got : Option (List ℕ)) (before after : BoardView)
    → mid ≡ grown had (text_of (first_line g (g.ticks + asked))) → AreStruck asked printed (coming upsets g) g new mid end before after → HasCounted asked g new
    → ended ≡ length (end_lines new) → got ≡ grown end (texts (end_lines new))
    → ran.ticks ≡ new.ticks → ran.halted ≡ new.halted → ran.lines ≡ 1 + printed + ended
    → IsWholeStruckRun ran upsets asked g new had got before after
struck_whole_out ran upsets g new asked printed ended had mid end got before after first ticks counted ends out ran_ticks ran_halted ran_lines =
    let front : List ℕ = text_of (first_line g (g.ticks + asked)) ++ texts (reported (coming upsets g) g asked) in
    record {
      state = ticks.state;
      heard = ticks.heard;
      report = out ∙ ap (λ (m : Option (List ℕ)). grown m (texts (end_lines new))) (up_to_end upsets g asked had mid end first ticks.report)
          ∙ grown_grown had front (texts (end_lines new))
          ∙ ap (λ (x : Machine). grown had (front ++ texts (end_lines x))) ticks.state
          ∙ ap (grown had) (sym (whole_texts upsets g asked));
      ticks = ran_ticks;
      halted = ran_halted;
      most = omega (arith, ran_ticks, counted.most);
      fewer = λ began. subst (λ (n : ℕ). (n < g.ticks + asked) ↔ IsTrue ran.halted) (sym ran_ticks)
          (subst (λ (b : Bool). (new.ticks < g.ticks + asked) ↔ IsTrue b) (sym ran_halted) (fewer_struck asked g new counted began));
      lines = omega (arith, ran_lines, ticks.count, ends, ap (λ (x : Machine). length (end_lines x)) ticks.state, whole_length upsets g asked);
    }
