use Rattle.std.proofs.Common.{refl, ◌∙◌}
use Rattle.std.proofs.lemmas.Result.{err_from_is_err_and}
use Rattle.xm_alone.proofs.ShownLemmas.{none_shown, sized_later, tick_cut, tick_shown}
use Rattle.xm_alone.proofs.shown.Shown.play.Goals as goal

pub loop-tick-init : goal.loop-tick-init
loop-tick-init g c = record {
  sized = c.rest-rest.ensures.sized;
  showing = none_shown c.args.console c.args.self.now _ (g.O.Sink.got c.args.out.now) (record { places = _; marks = _ }) c.rest-rest.ensures.all;
  faults = refl;
}

pub returns-in_err-put_tick-clause-played : goal.returns-in_err-put_tick-clause-played
returns-in_err-put_tick-clause-played g c =
    let p = err_from_is_err_and c.from_residual.result c.from_residual.ensures.1 in
    rw p.1
    (tick_cut c.loop-tick.rest.ticks.now c.in-Some.tick.now c.in-Some.ticks.now c.loop-tick.rest.text.now c.loop-tick.rest.said.now c.in-Some.ensures.cases.0 c.loop-tick.invariant.sized
    _ _ _ _ c.split_at-in-Some.ensures.front c.split_at.ensures.front c.split_at-in-Some.ensures.back c.split_at.ensures.back
    c.args.console c.args.self.now (g.O.Sink.got c.args.out.now) (g.O.Sink.got c.loop-tick.out) (g.O.Sink.got c.put_tick.new.out) (record { places = _; marks = _ }) (record { places = _; marks = _ }) (record { places = _; marks = _ })
    c.loop-tick.invariant.showing c.in_err-put_tick.ensures.got c.put_tick.ensures.heard)

pub loop-tick-preserved : goal.loop-tick-preserved
loop-tick-preserved g c = record {
  sized = sized_later c.loop-tick.rest.ticks.now c.in-Some.tick.now c.in-Some.ticks.now c.loop-tick.rest.text.now c.loop-tick.rest.said.now c.in-Some.ensures.cases.0 c.loop-tick.invariant.sized
      _ _ _ _ c.split_at-in-Some.ensures.front c.split_at.ensures.front c.split_at-in-Some.ensures.back c.split_at.ensures.back;
  showing = tick_shown c.loop-tick.rest.ticks.now c.in-Some.tick.now c.in-Some.ticks.now c.loop-tick.rest.text.now c.loop-tick.rest.said.now c.in-Some.ensures.cases.0 c.loop-tick.invariant.sized
      _ _ _ _ c.split_at-in-Some.ensures.front c.split_at.ensures.front c.split_at-in-Some.ensures.back c.split_at.ensures.back
      c.args.console c.args.self.now (g.O.Sink.got c.args.out.now) (g.O.Sink.got c.loop-tick.out) (g.O.Sink.got c.put_tick.new.out) (record { places = _; marks = _ }) (record { places = _; marks = _ }) (record { places = _; marks = _ })
      c.loop-tick.invariant.showing c.in_ok-put_tick.ensures.got c.put_tick.ensures.heard;
  faults = c.in_ok-put_tick.ensures.cause ∙ c.loop-tick.invariant.faults;
}
