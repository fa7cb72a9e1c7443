use Rattle.std.proofs.Common.{◌≡◌, ◌+◌, ap, refl, subst}
use Rattle.std.proofs.lemmas.Result.{err_from_is_err_and}
use Rattle.machine_model.specs.Facts.{IsComplete}
use Rattle.machine_model.specs.Machine.{Machine}
use Rattle.xm_outside.specs.Growth.{GrewByPrefix, grown}
use Rattle.xm_report.specs.Report.{text_of}
use Rattle.xm_machine.specs.Machine.{Meaning}
use Rattle.xm_machine.specs.Outcome.{first_line}
use Rattle.xm_machine.proofs.StruckWholeLemmas.{struck_end_cut, struck_first_cut, struck_ticks_cut, struck_whole_out}
use Rattle.xm_machine.specs.lemmas.StrikingLemmas.{fits_ordered, fits_strike}
use Rattle.xm_machine.proofs.machine.Machine.run_struck.Goals as goal

pub struck_ticks-requires-clause-strike : goal.struck_ticks-requires-clause-strike
struck_ticks-requires-clause-strike g c =
    fits_strike c.places_are_spelled.ensures.strike c.args.self.now.state (c.args.self.now.state.ticks + c.args.ticks) c.args.self.now.state.ticks c.args.upsets.now
    (subst IsComplete (ap (λ (m : Meaning). m.state) c.self.view_is) c.self.invariant.complete) c.requires.fit

pub struck_ticks-requires-clause-ordered : goal.struck_ticks-requires-clause-ordered
struck_ticks-requires-clause-ordered g c = fits_ordered c.args.self.now.state.system.conf (c.args.self.now.state.ticks + c.args.ticks) c.args.self.now.state.ticks c.args.upsets.now c.requires.fit

pub returns-in_err-put_line-clause-run : goal.returns-in_err-put_line-clause-run
returns-in_err-put_line-clause-run g c =
    let p = err_from_is_err_and c.from_residual.result c.from_residual.ensures.1 in
    let same = ap (λ (m : Meaning). m.state) c.self.view_is in
    let cut = subst (λ (g0 : Machine). GrewByPrefix (g.O.Sink.got c.args.out.now) (text_of (first_line g0 (g0.ticks + c.args.ticks))) (g.O.Sink.got c.put_line.new.out)) same (rw (c.first_line.ensures, c.ticks.ensures.value) at c.in_err-put_line.ensures.got) in
    rw (p.1) (struck_first_cut c.args.upsets.now c.args.self.now.state c.args.ticks (g.O.Sink.got c.args.out.now) (g.O.Sink.got c.put_line.new.out) (record { places = _; marks = _ }) cut)

pub returns-in_err-reported-clause-run : goal.returns-in_err-reported-clause-run
returns-in_err-reported-clause-run g c =
    let p = err_from_is_err_and c.from_residual-in_err-reported.result c.from_residual-in_err-reported.ensures.1 in
    let same = ap (λ (m : Meaning). m.state) c.self.view_is in
    let first = subst (λ (g0 : Machine). g.O.Sink.got c.put_line.new.out ≡ grown (g.O.Sink.got c.args.out.now) (text_of (first_line g0 (g0.ticks + c.args.ticks)))) same (rw (c.first_line.ensures, c.ticks.ensures.value) at c.in_ok-put_line.ensures.got) in
    rw (p.1) (struck_ticks_cut c.args.upsets.now c.args.self.now.state c.struck_ticks.new.self.state c.args.ticks
    (g.O.Sink.got c.args.out.now) (g.O.Sink.got c.put_line.new.out) (g.O.Sink.got c.struck_ticks.new.out)
    (record { places = _; marks = _ }) (record { places = _; marks = _ }) first c.in_err-reported.ensures.run)

pub returns-in_err-ended-clause-run : goal.returns-in_err-ended-clause-run
returns-in_err-ended-clause-run g c =
    let p = err_from_is_err_and c.from_residual-in_err-ended.result c.from_residual-in_err-ended.ensures.1 in
    let same = ap (λ (m : Meaning). m.state) c.self.view_is in
    let first = subst (λ (g0 : Machine). g.O.Sink.got c.put_line.new.out ≡ grown (g.O.Sink.got c.args.out.now) (text_of (first_line g0 (g0.ticks + c.args.ticks)))) same (rw (c.first_line.ensures, c.ticks.ensures.value) at c.in_ok-put_line.ensures.got) in
    rw (p.1) (struck_end_cut c.args.upsets.now c.args.self.now.state c.struck_ticks.new.self.state c.args.ticks c.in_ok-reported.reported
    (g.O.Sink.got c.args.out.now) (g.O.Sink.got c.put_line.new.out) (g.O.Sink.got c.struck_ticks.new.out) (g.O.Sink.got c.end.new.out)
    (record { places = _; marks = _ }) (record { places = _; marks = _ }) first c.in_ok-reported.ensures.run c.in_err-ended.ensures.printed)

pub returns-clause-run : goal.returns-clause-run
returns-clause-run g c =
    let same = ap (λ (m : Meaning). m.state) c.self.view_is in
    let first = subst (λ (g0 : Machine). g.O.Sink.got c.put_line.new.out ≡ grown (g.O.Sink.got c.args.out.now) (text_of (first_line g0 (g0.ticks + c.args.ticks)))) same (rw (c.first_line.ensures, c.ticks.ensures.value) at c.in_ok-put_line.ensures.got) in
    struck_whole_out _ c.args.upsets.now c.args.self.now.state c.struck_ticks.new.self.state c.args.ticks c.in_ok-reported.reported c.in_ok-ended.ended
    (g.O.Sink.got c.args.out.now) (g.O.Sink.got c.put_line.new.out) (g.O.Sink.got c.struck_ticks.new.out) (g.O.Sink.got c.end.new.out)
    (record { places = _; marks = _ }) (record { places = _; marks = _ }) first c.in_ok-reported.ensures.run c.in_ok-reported.ensures.counted
    c.in_ok-ended.ensures.printed.0 c.in_ok-ended.ensures.printed.1 c.done.ensures.done c.halted.ensures refl
