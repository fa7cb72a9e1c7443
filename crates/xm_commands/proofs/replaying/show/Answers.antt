use Rattle.std.proofs.Common.{List, Option, subst}
use Rattle.replay_setup.specs.Readied.{IsBootedOrLeft}
use Rattle.recording_model.specs.Replayed.{replay_lines}
use Rattle.recording_model.specs.Lone.{booted_alone, own_view}
use Rattle.xm_alone.specs.Shown.{ShownTick}
use Rattle.xm_commands.proofs.ReplayLemmas.{played_from}
use Rattle.xm_commands.proofs.replaying.show.Goals as goal

pub returns-in-Some-clause-replay : goal.returns-in-Some-clause-replay
returns-in-Some-clause-replay g c =
    let stands = subst (λ (shown : Option (List ShownTick)). IsBootedOrLeft shown c.args.alone.now c.args.script.now c.args.upsets.now) c.in-Some.is c.requires.stands in
    c.show.ensures.replay c.args.upsets.now (booted_alone c.args.alone.now.system c.args.alone.now.p) c.args.script.now stands.left stands.shows

pub returns-in-None-clause-replay : goal.returns-in-None-clause-replay
returns-in-None-clause-replay g c =
    played_from c.play.result c.args.upsets.now c.args.script.now (replay_lines c.args.upsets.now (own_view c.args.alone.now) c.args.script.now) c.args.alone.now (booted_alone c.args.alone.now.system c.args.alone.now.p) c.play.new.self
    (g.O.Sink.got c.args.out.now) (g.O.Sink.got c.play.new.out) (record { places = _; marks = _ }) (record { places = _; marks = _ })
    (subst (λ (shown : Option (List ShownTick)). IsBootedOrLeft shown c.args.alone.now c.args.script.now c.args.upsets.now) c.in-None.is c.requires.stands) c.play.ensures.replay
