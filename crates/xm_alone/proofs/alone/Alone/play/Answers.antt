use Rattle.std.proofs.Common.{subst}
use Rattle.std.proofs.lemmas.Result.{err_from_is_err_and}
use Rattle.xm_outside.specs.Growth.{Writes}
use Rattle.xm_report.specs.Report.{text_of}
use Rattle.xm_alone.specs.Replay.{lone_in}
use Rattle.xm_alone.proofs.PlayLemmas.{cut_short, end_played}
use Rattle.xm_alone.proofs.alone.Alone.play.Goals as goal

pub returns-in_err-play_cues-clause-replay : goal.returns-in_err-play_cues-clause-replay
returns-in_err-play_cues-clause-replay g c =
    let p = err_from_is_err_and c.from_residual.result c.from_residual.ensures.1 in
    rw (p.1, ← c.self.view_is) (cut_short c.args.upsets.now c.args.script.now (lone_in c.self.inside.machine.state c.self.inside.p) (lone_in c.play_cues.new.machine.state c.self.inside.p) (g.O.Sink.got c.args.out.now) (g.O.Sink.got c.play_cues.new.out)
    (record { places = _; marks = _ }) (record { places = _; marks = _ }) c.in_err-play_cues.ensures.replay)

pub returns-clause-replay : goal.returns-clause-replay
returns-clause-replay g c =
    rw (← c.self.view_is) (end_played c.put_line.result c.args.upsets.now c.self.inside.p c.args.script.now c.self.inside.machine.state c.play_cues.new.machine.state (g.O.Sink.got c.args.out.now) (g.O.Sink.got c.play_cues.new.out) (g.O.Sink.got c.put_line.new.out)
    (record { places = _; marks = _ }) (record { places = _; marks = _ }) c.in_ok-play_cues.ensures.replay
    (subst (λ line. Writes c.put_line.result (g.O.Sink.got c.play_cues.new.out) (text_of line) (g.O.Sink.got c.put_line.new.out)) c.end_line.ensures c.put_line.ensures.got))
