use Rattle.std.proofs.Common.{subst, ◌∙◌}
use Rattle.std.proofs.lemmas.Result.{err_from_is_err_and}
use Rattle.xm_outside.specs.Growth.{Writes}
use Rattle.xm_report.specs.Report.{text_of}
use Rattle.xm_alone.proofs.BootLemmas.{end-same}
use Rattle.xm_alone.proofs.ShownLemmas.{console-same, cut_played, whole_showing}
use Rattle.xm_alone.proofs.alone.Alone.show.Goals as goal

pub returns-in_err-play-clause-replay : goal.returns-in_err-play-clause-replay
returns-in_err-play-clause-replay g c = λ upsets old cues left shows.
    let p = err_from_is_err_and c.from_residual.result c.from_residual.ensures.1 in
    rw p.1 (cut_played upsets cues old c.args.self.now c.console_of.result c.args.shown.now (g.O.Sink.got c.args.out.now) (g.O.Sink.got c.play.new.out) (record { places = _; marks = _ }) (record { places = _; marks = _ })
    (c.console_of.ensures.value ∙ console-same c.args.self.now c.self.inside.machine.state c.self.inside.p c.self.view_is) c.in_err-play.ensures.played left shows)

pub returns-clause-replay : goal.returns-clause-replay
returns-clause-replay g c = λ upsets old cues left shows.
    whole_showing c.put_line.result upsets cues old c.args.self.now c.console_of.result c.args.shown.now (g.O.Sink.got c.args.out.now) (g.O.Sink.got c.play.new.out) (g.O.Sink.got c.put_line.new.out) (record { places = _; marks = _ }) (record { places = _; marks = _ })
    (c.console_of.ensures.value ∙ console-same c.args.self.now c.self.inside.machine.state c.self.inside.p c.self.view_is) c.in_ok-play.ensures.played
    (subst (λ line. Writes c.put_line.result (g.O.Sink.got c.play.new.out) (text_of line) (g.O.Sink.got c.put_line.new.out)) (c.end_line.ensures ∙ end-same c.args.self.now c.self.inside.machine.state c.self.inside.p c.self.view_is) c.put_line.ensures.got)
    left shows
