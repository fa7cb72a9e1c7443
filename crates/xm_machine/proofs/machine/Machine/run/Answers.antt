use Rattle.std.proofs.Common.{◌≡◌, Ok, ap, refl, subst}
use Rattle.std.proofs.lemmas.Result.{err_from_is_err_and}
use Rattle.machine_model.specs.Machine.{Machine}
use Rattle.xm_outside.specs.Growth.{GrewByPrefix, grown}
use Rattle.xm_report.specs.Report.{text_of}
use Rattle.xm_machine.specs.Machine.{Meaning}
use Rattle.xm_machine.specs.Outcome.{first_line}
use Rattle.xm_machine.proofs.AloneLemmas.{booted_alone, run_alone}
use Rattle.xm_machine.proofs.HeardLemmas.{none_heard}
use Rattle.xm_machine.proofs.CuedLemmas.{cued, cut_cued, keeps_none, keeps_whole}
use Rattle.xm_machine.proofs.WholeLemmas.{end_cut, first_line_cut, ticks_cut, whole_out}
use Rattle.xm_machine.proofs.machine.Machine.run.Goals as goal

pub returns-in_err-put_line-clause-run : goal.returns-in_err-put_line-clause-run
returns-in_err-put_line-clause-run g c =
    let p = err_from_is_err_and c.from_residual.result c.from_residual.ensures.1 in
    let same = ap (λ (m : Meaning). m.state) c.self.view_is in
    let cut = subst (λ (g0 : Machine). GrewByPrefix (g.O.Sink.got c.args.out.now) (text_of (first_line g0 c.args.ticks)) (g.O.Sink.got c.put_line.new.out)) same (rw c.first_line.ensures at c.in_err-put_line.ensures.got) in
    rw (p.1) (first_line_cut c.args.self.now.state c.args.ticks (g.O.Sink.got c.args.out.now) (g.O.Sink.got c.put_line.new.out) (record { places = _; marks = _ }) cut)

pub returns-in_err-printed-clause-run : goal.returns-in_err-printed-clause-run
returns-in_err-printed-clause-run g c =
    let p = err_from_is_err_and c.from_residual-in_err-printed.result c.from_residual-in_err-printed.ensures.1 in
    let same = ap (λ (m : Meaning). m.state) c.self.view_is in
    let first = subst (λ (g0 : Machine). g.O.Sink.got c.put_line.new.out ≡ grown (g.O.Sink.got c.args.out.now) (text_of (first_line g0 c.args.ticks))) same (rw c.first_line.ensures at c.in_ok-put_line.ensures.got) in
    rw (p.1) (ticks_cut c.args.self.now.state c.run_ticks.new.self.state c.args.ticks
    (g.O.Sink.got c.args.out.now) (g.O.Sink.got c.put_line.new.out) (g.O.Sink.got c.run_ticks.new.out)
    (record { places = _; marks = _ }) (record { places = _; marks = _ }) first c.in_err-printed.ensures.run c.in_err-printed.ensures.heard)

pub returns-in_err-ended-clause-run : goal.returns-in_err-ended-clause-run
returns-in_err-ended-clause-run g c =
    let p = err_from_is_err_and c.from_residual-in_err-ended.result c.from_residual-in_err-ended.ensures.1 in
    let same = ap (λ (m : Meaning). m.state) c.self.view_is in
    let first = subst (λ (g0 : Machine). g.O.Sink.got c.put_line.new.out ≡ grown (g.O.Sink.got c.args.out.now) (text_of (first_line g0 c.args.ticks))) same (rw c.first_line.ensures at c.in_ok-put_line.ensures.got) in
    rw (p.1) (end_cut c.args.self.now.state c.run_ticks.new.self.state c.args.ticks c.in_ok-printed.printed
    (g.O.Sink.got c.args.out.now) (g.O.Sink.got c.put_line.new.out) (g.O.Sink.got c.run_ticks.new.out) (g.O.Sink.got c.end.new.out)
    (record { places = _; marks = _ }) (record { places = _; marks = _ }) first c.in_ok-printed.ensures.run c.in_err-ended.ensures.printed c.in_ok-printed.ensures.heard)

pub returns-clause-run : goal.returns-clause-run
returns-clause-run g c =
    let same = ap (λ (m : Meaning). m.state) c.self.view_is in
    let first = subst (λ (g0 : Machine). g.O.Sink.got c.put_line.new.out ≡ grown (g.O.Sink.got c.args.out.now) (text_of (first_line g0 c.args.ticks))) same (rw c.first_line.ensures at c.in_ok-put_line.ensures.got) in
    whole_out _ c.args.self.now.state c.run_ticks.new.self.state c.args.ticks c.in_ok-printed.printed c.in_ok-ended.ended
    (g.O.Sink.got c.args.out.now) (g.O.Sink.got c.put_line.new.out) (g.O.Sink.got c.run_ticks.new.out) (g.O.Sink.got c.end.new.out)
    (record { places = _; marks = _ }) (record { places = _; marks = _ }) first c.in_ok-printed.ensures.run c.in_ok-ended.ensures.printed.0 c.in_ok-ended.ensures.printed.1
    c.done.ensures.done c.halted.ensures refl c.requires.fresh c.requires.running c.in_ok-printed.ensures.heard

pub returns-in_err-put_line-clause-alone : goal.returns-in_err-put_line-clause-alone
returns-in_err-put_line-clause-alone g c =
    run_alone c.all_ticks.ensures.law c.from_residual.result c.args.ticks c.args.self.now.state c.args.self.now.state
    (g.O.Sink.got c.args.out.now) (g.O.Sink.got c.put_line.new.out) (record { places = _; marks = _ }) (record { places = _; marks = _ })
    (returns-in_err-put_line-clause-run g c)

pub returns-in_err-put_line-clause-booted : goal.returns-in_err-put_line-clause-booted
returns-in_err-put_line-clause-booted g c = booted_alone c.boots_alone.ensures.law c.own_lines.ensures.law c.args.self.now.state c.args.ticks

pub returns-in_err-printed-clause-alone : goal.returns-in_err-printed-clause-alone
returns-in_err-printed-clause-alone g c =
    run_alone c.all_ticks.ensures.law c.from_residual-in_err-printed.result c.args.ticks c.args.self.now.state c.run_ticks.new.self.state
    (g.O.Sink.got c.args.out.now) (g.O.Sink.got c.run_ticks.new.out) (record { places = _; marks = _ }) (record { places = _; marks = _ })
    (returns-in_err-printed-clause-run g c)

pub returns-in_err-printed-clause-booted : goal.returns-in_err-printed-clause-booted
returns-in_err-printed-clause-booted g c = booted_alone c.boots_alone.ensures.law c.own_lines.ensures.law c.args.self.now.state c.args.ticks

pub returns-in_err-ended-clause-alone : goal.returns-in_err-ended-clause-alone
returns-in_err-ended-clause-alone g c =
    run_alone c.all_ticks.ensures.law c.from_residual-in_err-ended.result c.args.ticks c.args.self.now.state c.run_ticks.new.self.state
    (g.O.Sink.got c.args.out.now) (g.O.Sink.got c.end.new.out) (record { places = _; marks = _ }) (record { places = _; marks = _ })
    (returns-in_err-ended-clause-run g c)

pub returns-in_err-ended-clause-booted : goal.returns-in_err-ended-clause-booted
returns-in_err-ended-clause-booted g c = booted_alone c.boots_alone.ensures.law c.own_lines.ensures.law c.args.self.now.state c.args.ticks

pub returns-clause-alone : goal.returns-clause-alone
returns-clause-alone g c =
    run_alone c.all_ticks.ensures.law (Ok _) c.args.ticks c.args.self.now.state c.run_ticks.new.self.state
    (g.O.Sink.got c.args.out.now) (g.O.Sink.got c.end.new.out) (record { places = _; marks = _ }) (record { places = _; marks = _ })
    (returns-clause-run g c)

pub returns-clause-booted : goal.returns-clause-booted
returns-clause-booted g c = booted_alone c.boots_alone.ensures.law c.own_lines.ensures.law c.args.self.now.state c.args.ticks

pub returns-in_err-put_line-clause-heard : goal.returns-in_err-put_line-clause-heard
returns-in_err-put_line-clause-heard g c = none_heard c.keeps_numbers.ensures.runs c.args.self.now.state (record { places = _; marks = _ })

pub returns-in_err-put_line-clause-cues : goal.returns-in_err-put_line-clause-cues
returns-in_err-put_line-clause-cues g c =
    let p = err_from_is_err_and c.from_residual.result c.from_residual.ensures.1 in
    rw (p.1) (cut_cued c.keeps_numbers.ensures.ticks c.keeps_numbers.ensures.runs c.args.ticks c.args.self.now c.args.self.now (keeps_none c.args.ticks c.args.self.now))

pub returns-in_err-printed-clause-cues : goal.returns-in_err-printed-clause-cues
returns-in_err-printed-clause-cues g c =
    let p = err_from_is_err_and c.from_residual-in_err-printed.result c.from_residual-in_err-printed.ensures.1 in
    rw (p.1) (cut_cued c.keeps_numbers.ensures.ticks c.keeps_numbers.ensures.runs c.args.ticks c.args.self.now c.run_ticks.new.self c.in_err-printed.ensures.kept)

pub returns-in_err-ended-clause-cues : goal.returns-in_err-ended-clause-cues
returns-in_err-ended-clause-cues g c =
    let p = err_from_is_err_and c.from_residual-in_err-ended.result c.from_residual-in_err-ended.ensures.1 in
    rw (p.1) (cut_cued c.keeps_numbers.ensures.ticks c.keeps_numbers.ensures.runs c.args.ticks c.args.self.now c.run_ticks.new.self
    (keeps_whole c.args.ticks c.args.self.now c.run_ticks.new.self c.in_ok-printed.ensures.run.state c.in_ok-printed.ensures.kept))

pub returns-clause-cues : goal.returns-clause-cues
returns-clause-cues g c =
    cued c.keeps_numbers.ensures.ticks c.keeps_numbers.ensures.runs c.args.ticks c.args.self.now c.run_ticks.new.self c.in_ok-printed.ensures.run.state c.in_ok-printed.ensures.kept
