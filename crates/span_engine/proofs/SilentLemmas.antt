-- Ticks without output, and more of them.
use Rattle.std.proofs.Common.{◌≡◌, ℕ, ◌+◌, ◌-◌, ◌<◌, ◌≤◌, false, List, [], ◌++◌, map, Option, refl, sym, ap, subst, ◌∙◌, arith}
use Rattle.xm_report.specs.Report.{ReportLine}
use Rattle.machine_model.specs.Facts.{RunsKeepNumbers}
use Rattle.machine_model.specs.Lines.{lines}
use Rattle.machine_model.specs.Machine.{Machine, SlotTurn, happened, happened_by, run, turn_here, turn_of}
use Rattle.machine_model.specs.Emission.{line_of}
use Rattle.span_model.specs.Calm.{turn_after}
use Rattle.span_model.specs.lemmas.RunLemmas.{lines_add, run_add}
use Rattle.system_state.specs.State.{SysState, memory_of, with_machine}
use Rattle.system_state.specs.declared.served.Note.{Note}
use Rattle.system_state.specs.declared.served.Note.TheVariants as note
use Rattle.tick_steps.specs.Kept.{AreBareTicks, IsBareTick, KeptTick, kept_by, kept_in, kept_tick}
use Rattle.tick_steps.specs.lemmas.KeptLemmas.{ticks_exact}
use Rattle.span_engine.specs.lemmas.LaterLemmas.{later_at, turn_at}
use Rattle.span_engine.specs.Place.{IsAt}
use Rattle.span_engine.specs.lemmas.PlaceTerms.{place_after}
use Rattle.tick_steps.specs.Quiet.{ends_in}
use Rattle.tick_steps.specs.lemmas.QuietRunLemmas.{AllBare, AllQuiet, all_bare, all_quiet, bare_on, quiet_on, quiet_runs}
use Rattle.tick_steps.specs.lemmas.SpanTerms.{AreDoneFrom, IsSilent}
use Rattle.tick_steps.specs.Span.{ends_so}
use Rattle.span_engine.specs.Spans.{IsSpanDone}
use Rattle.tick_steps.specs.Work.{console_emissions}
use Rattle.span_engine.specs.declared.place.Place.{Place}
use Rattle.tick_steps.specs.declared.beyond.Beyond.{Beyond}
use Rattle.tick_steps.specs.declared.span.Span.{Span}

-- this many ticks were done, fewer than there may be, and without output; the machine is at this place
pub record AreSilent (done most : ℕ) (place : Place) (old mid : SysState) (had : List ReportLine) : Type 0 where
  pub fewer : done < most
  pub state : mid ≡ with_machine (run old.machine done) old
  pub quiet : AllQuiet done old.machine
  pub bare : AllBare done old.machine
  pub silent : lines old.machine done ≡ []
  pub none : had ≡ []
  pub at : IsAt place mid.machine

-- this many ticks were done; the last part of them, which this span has, began at this place
pub record HaveEnded (done most : ℕ) (place : Place) (span : Span) (old new : SysState) (got : List ReportLine) : Type 0 where
  pub are : IsSpanDone (record span { ticks = done }) most old new got
  pub bare : AreBareTicks done old.machine
  pub some : 0 < span.ticks
  pub turn : turn_after (span.ticks - 1) (turn_here place.slot) ≡ turn_of (run old.machine (done - 1))

-- the last of ticks of one slot or gap is in it
last_turn : (span : Span) (most : ℕ) (g : Machine) (old new : SysState) (got : List ReportLine) → AreDoneFrom span most g old new got
    → turn_of (run g (span.ticks - 1)) ≡ turn_after (span.ticks - 1) (turn_of g)
unfolding kept_tick kept_in happened happened_by
last_turn span most g old new got done = ap (λ (kept : KeptTick). kept.turn) done.kept

-- ticks of one slot or gap are a span
part_done : (span : Span) (here most : ℕ) (old new : SysState) (got : List ReportLine) → here ≤ most → AreDoneFrom span here old.machine old new got → IsSpanDone span most old new got
part_done span here most old new got fewer part = record {
  some = part.some;
  within = let within = part.within in omega (arith, within, fewer);
  running = part.running;
  state = part.state;
  silent = part.silent;
  lines = part.lines;
  few = part.few;
  part = part.part;
  readable = part.readable;
  kept = part.kept ∙ ap (λ (turn : Option SlotTurn). kept_by turn span.worked span.note span.reach (memory_of span.part new.machine)) (sym (last_turn span here old.machine old new got part));
  quiet = part.quiet;
  ends = part.ends;
}

-- without output partitions receive nothing but whose slot it is in the last of them, either
silent_bare : (span : Span) (most : ℕ) (g : Machine) (old new : SysState) (got : List ReportLine) → AreDoneFrom span most g old new got → IsSilent span got
    → IsBareTick (run g (span.ticks - 1))
silent_bare span most g old new got done silent = record {
  works = span.worked;
  kept = done.kept
      ∙ ap (λ (turn : Option SlotTurn). kept_by turn span.worked span.note span.reach (memory_of span.part new.machine)) (sym (last_turn span most g old new got done))
      ∙ ap (λ (n : Note). kept_by (turn_of (run g (span.ticks - 1))) span.worked n span.reach (memory_of span.part new.machine)) silent.note
      ∙ ap (λ (reach : Beyond). kept_by (turn_of (run g (span.ticks - 1))) span.worked note.Nothing reach (memory_of span.part new.machine)) silent.reach;
}

-- nothing is done yet
pub silent_begins : (most : ℕ) (place : Place) (old : SysState) (had : List ReportLine) → 0 < most → IsAt place old.machine → had ≡ [] → AreSilent 0 most place old old had
silent_begins most place old had some at none = record {
  fewer = some;
  state = refl;
  quiet = λ k below. absurd (omega (arith, below));
  bare = λ k below. absurd (omega (arith, below));
  silent = refl;
  none = none;
  at = at;
}

-- the machine after the ticks done so far
module _ (done most : ℕ) (place : Place) (old mid : SysState) (had : List ReportLine) (is : AreSilent done most place old mid had) (runs : old.machine.halted ≡ false) where
  its_machine : mid.machine ≡ run old.machine done
  its_machine = ap (λ (x : SysState). x.machine) is.state

  pub still_runs : mid.machine.halted ≡ false
  still_runs = ap (λ (m : Machine). m.halted) its_machine ∙ quiet_runs done old.machine runs is.quiet

  pub its_ticks : mid.machine.ticks ≡ old.machine.ticks + done
  its_ticks = ap (λ (m : Machine). m.ticks) its_machine ∙ ticks_exact done old.machine (quiet_runs done old.machine runs is.quiet)

-- they, and those of one part more
module _ (done most here : ℕ) (place : Place) (span : Span) (old mid new : SysState) (had got : List ReportLine)
    (is : AreSilent done most place old mid had) (runs : old.machine.halted ≡ false) (part : AreDoneFrom span here mid.machine mid new got) (fewer : here ≤ most - done) where
  more : IsSpanDone span (most - done) mid new got
  more = part_done span here (most - done) mid new got fewer part

  mid_is : mid.machine ≡ run old.machine done
  mid_is = its_machine done most place old mid had is runs

  run_on : (k : ℕ) → run old.machine (done + k) ≡ run mid.machine k
  run_on k = run_add old.machine done k ∙ ap (λ (m : Machine). run m k) (sym mid_is)

  lines_on : (k : ℕ) → lines old.machine (done + k) ≡ lines mid.machine k
  lines_on k =
      lines_add old.machine done k ∙ ap (λ (l : List ReportLine). l ++ lines (run old.machine done) k) is.silent
      ∙ ap (λ (m : Machine). lines m k) (sym mid_is)

  the_last : done + span.ticks - 1 ≡ done + (span.ticks - 1)
  the_last = let some = part.some in omega (arith, some)

  run_last : run old.machine (done + span.ticks - 1) ≡ run mid.machine (span.ticks - 1)
  run_last = ap (run old.machine) the_last ∙ run_on (span.ticks - 1)

  pub its_state : new ≡ with_machine (run old.machine (done + span.ticks)) old
  its_state =
      part.state ∙ ap (λ (m : Machine). with_machine m mid) (sym (run_on span.ticks))
      ∙ ap (λ (x : SysState). with_machine (run old.machine (done + span.ticks)) x) is.state

  its_number : mid.machine.ticks + span.ticks - 1 ≡ old.machine.ticks + (done + span.ticks) - 1
  its_number = omega (arith, its_ticks done most place old mid had is runs)

  -- together they are a span
  span_on : IsSpanDone (record span { ticks = done + span.ticks }) most old new got
  span_on = record {
    some = let some = part.some in omega (arith, some);
    within = let within = more.within in let before = is.fewer in omega (arith, within, before);
    running = ap (λ (m : Machine). m.halted) run_last ∙ part.running;
    state = its_state;
    silent = ap (lines old.machine) the_last ∙ lines_on (span.ticks - 1) ∙ part.silent;
    lines = lines_on span.ticks ∙ part.lines
        ∙ ap (λ (n : ℕ). map (line_of n span.part) (console_emissions span.note (memory_of span.part new.machine)) ++ got) its_number;
    few = part.few;
    part = part.part;
    readable = part.readable;
    kept = ap kept_tick run_last ∙ more.kept
        ∙ ap (λ (m : Machine). kept_by (turn_of m) span.worked span.note span.reach (memory_of span.part new.machine)) (sym run_last);
    quiet = quiet_on old.machine mid.machine done span.ticks mid_is is.quiet part.quiet;
    ends = ap ends_in run_last ∙ part.ends;
  }

  -- in none of them but the last partitions receive more than whose slot it is
  all_are_bare : AreBareTicks (done + span.ticks) old.machine
  all_are_bare = bare_on old.machine mid.machine done span.ticks mid_is is.bare part.bare

  pub ended : HaveEnded (done + span.ticks) most place span old new got
  ended = record {
    are = span_on;
    bare = all_are_bare;
    some = part.some;
    turn = ap (turn_after (span.ticks - 1)) (turn_at place mid.machine is.at) ∙ sym (last_turn span here mid.machine mid new got part) ∙ ap turn_of (sym run_last);
  }

  goes_so : IsSilent span got → ends_so span.note span.reach ≡ false
  goes_so silent = ap (λ (n : Note). ends_so n span.reach) silent.note ∙ ap (ends_so note.Nothing) silent.reach

  -- where the last of them is without output, the machine is at the same place, this many ticks later
  pub later_on : RunsKeepNumbers → IsSilent span got → span.ticks < place.left → IsAt (place_after span.ticks place) new.machine
  later_on keeps silent inside =
      later_at keeps mid.machine new.machine place span.ticks is.at part.some inside (ap (λ (x : SysState). x.machine) part.state) (still_runs done most place old mid had is runs)
      (all_quiet span.ticks mid.machine part.quiet (λ any. part.ends ∙ goes_so silent))

  -- and more can be done
  pub silent_on : (next : Place) → IsAt next new.machine → IsSilent span got → span.ticks < most - done → AreSilent (done + span.ticks) most next old new got
  silent_on next at silent left = record {
    fewer = omega (arith, left);
    state = its_state;
    quiet = all_quiet (done + span.ticks) old.machine span_on.quiet (λ any. span_on.ends ∙ goes_so silent);
    bare = all_bare (done + span.ticks) old.machine all_are_bare (λ any. subst IsBareTick (sym run_last) (silent_bare span here mid.machine mid new got part silent));
    silent = span_on.lines
        ∙ ap (λ (n : Note). map (line_of (old.machine.ticks + (done + span.ticks) - 1) span.part) (console_emissions n (memory_of span.part new.machine)) ++ got) silent.note
        ∙ silent.lines;
    none = silent.lines;
    at = at;
  }
