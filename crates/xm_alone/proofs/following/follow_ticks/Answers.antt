use Rattle.std.proofs.Common.{arith}
use Rattle.xm_alone.proofs.NextLemmas.{alike_follows, other_follows}
use Rattle.xm_alone.proofs.following.follow_ticks.Goals as goal

pub returns-in-Alike-clause-follows : goal.returns-in-Alike-clause-follows
returns-in-Alike-clause-follows g c =
    rw c.in-Alike.is (alike_follows c.span_alone.result.ended c.span_alone.result.ticks c.args.p c.in-Alike.count c.in-Alike.own c.args.machine.now.state c.span_alone.new.self.state
    (g.O.Sink.got c.args.out.now) (g.O.Sink.got c.span_alone.new.out) (record { places = _; marks = _ }) (record { places = _; marks = _ }) c.span_alone.new.self.said
    c.span_alone.ensures.some (omega (arith, c.span_alone.ensures.within, c.from.ensures)) c.span_alone.ensures.span c.span_alone.ensures.said)

pub returns-in-Other-clause-follows : goal.returns-in-Other-clause-follows
returns-in-Other-clause-follows g c =
    rw c.in-Other.is (other_follows c.step_alone-ended.result c.args.p c.in-Other.cue c.args.machine.now.state c.step_alone-ended.new.self.state
    (g.O.Sink.got c.args.out.now) (g.O.Sink.got c.step_alone-ended.new.out) (record { places = _; marks = _ }) (record { places = _; marks = _ }) c.step_alone-ended.new.self.said
    c.requires.running c.step_alone-ended.ensures.step c.step_alone-ended.ensures.heard c.step_alone-ended.ensures.said)
