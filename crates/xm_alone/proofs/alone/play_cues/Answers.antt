use Rattle.std.proofs.Common.{arith, refl, subst, ◌∙◌}
use Rattle.machine_model.specs.Facts.{IsComplete}
use Rattle.machine_model.specs.View.{view_of}
use Rattle.upset_model.specs.lemmas.Segments.{from}
use Rattle.xm_alone.specs.lemmas.Cues.{cues_left}
use Rattle.xm_alone.specs.lemmas.Struck.{own_at}
use Rattle.xm_alone.proofs.ComingLemmas.{all_coming, coming_on, coming_strike, own_later, own_now}
use Rattle.xm_alone.proofs.NextLemmas.{next_cut, next_is, next_number, next_played, next_runs, next_shorter, next_ticks, next_unwritten, rose_from}
use Rattle.xm_alone.proofs.PlayLemmas.{none_played}
use Rattle.xm_alone.proofs.alone.play_cues.Goals as goal

pub loop-next-init : goal.loop-next-init
loop-next-init g c = record {
  playing = none_played c.args.upsets.now c.args.p c.args.script.now _ c.args.machine.now.state (g.O.Sink.got c.args.out.now) (record { places = _; marks = _ }) c.of-rest.ensures c.requires.fresh;
  coming = all_coming c.args.machine.now.state.system.conf _ c.args.upsets.now _ c.new-coming.ensures c.requires.upsets;
  faults = refl;
}

pub due_at-now-requires-clause-below : goal.due_at-now-requires-clause-below
due_at-now-requires-clause-below g c = omega (arith, c.loop-next.invariant.playing.count, next_number c.args.upsets.now c.args.p c.args.script.now c.loop-next.invariant.playing.before (cues_left c.loop-next.rest) c.in-Some.later c.args.machine.now.state c.loop-next.machine.state c.requires.script c.loop-next.invariant.playing.following c.in-Some.next c.in-Some.ensures)

pub follow-done-requires-clause-running : goal.follow-done-requires-clause-running
follow-done-requires-clause-running g c =
    next_runs c.args.upsets.now c.args.p c.args.script.now c.loop-next.invariant.playing.before (cues_left c.loop-next.rest) c.in-Some.later c.args.machine.now.state c.loop-next.machine.state c.requires.script c.loop-next.invariant.playing.following c.in-Some.next c.in-Some.ensures

pub follow-done-requires-clause-more : goal.follow-done-requires-clause-more
follow-done-requires-clause-more g c =
    next_ticks c.args.upsets.now c.args.p c.args.script.now c.loop-next.invariant.playing.before (cues_left c.loop-next.rest) c.in-Some.later c.args.machine.now.state c.loop-next.machine.state c.requires.script c.loop-next.invariant.playing.following c.in-Some.next c.in-Some.ensures

pub follow-done-requires-clause-next : goal.follow-done-requires-clause-next
follow-done-requires-clause-next g c =
    next_is c.args.upsets.now c.args.p c.args.script.now c.loop-next.invariant.playing.before (cues_left c.loop-next.rest) c.in-Some.later c.args.machine.now.state c.loop-next.machine.state c.requires.script c.loop-next.invariant.playing.following c.in-Some.next c.in-Some.ensures

pub follow-done-requires-clause-strike : goal.follow-done-requires-clause-strike
follow-done-requires-clause-strike g c =
    coming_strike c.places_are_spelled.ensures.strike c.args.upsets.now _ c.loop-next.tick c.loop-next.coming c.due_at-now.result.lines.now c.args.machine.now.state c.loop-next.machine.state
    (subst IsComplete c.sys-now.ensures.machine c.sys-now.ensures.kept.complete) c.requires.upsets c.loop-next.invariant.playing.following.system c.loop-next.invariant.coming c.due_at-now.ensures.these

pub unwritten-requires : goal.unwritten-requires
unwritten-requires g c =
    let own = from c.loop-next.tick (own_at c.args.upsets.now (view_of c.args.machine.now.state.system c.args.p)) in
    let now = own_now c.args.upsets.now c.args.machine.now.state.system c.args.p c.loop-next.tick c.loop-next.coming c.loop-next.invariant.coming c.due_at-now.result.lines.now c.due_at-now.ensures.these in
    let rest = own_later c.args.upsets.now c.args.machine.now.state.system c.args.p c.loop-next.tick c.loop-next.coming c.loop-next.invariant.coming c.due_at-now.result.most c.due_at-now.ensures.none in
    let failed = rw c.in-Err.is at c.follow-done.ensures.follows own now rest in
    next_unwritten c.args.upsets.now c.args.p c.loop-next.tick c.follow-done.result.ticks c.args.script.now (cues_left c.loop-next.rest) c.in-Some.next c.in-Some.later c.args.machine.now.state c.loop-next.machine.state c.follow-done.new.machine.state own c.requires.script c.in-Some.ensures c.follow-done.ensures.system refl
    (g.O.Sink.got c.args.out.now) (g.O.Sink.got c.loop-next.out) (g.O.Sink.got c.follow-done.new.out) (record { places = _; marks = _ }) (record { places = _; marks = _ }) (record { places = _; marks = _ }) c.follow-done.new.machine.said c.in-Err.fault c.loop-next.invariant.playing failed c.requires.fits

pub returns-in-Err-clause-replay : goal.returns-in-Err-clause-replay
returns-in-Err-clause-replay g c =
    let own = from c.loop-next.tick (own_at c.args.upsets.now (view_of c.args.machine.now.state.system c.args.p)) in
    let now = own_now c.args.upsets.now c.args.machine.now.state.system c.args.p c.loop-next.tick c.loop-next.coming c.loop-next.invariant.coming c.due_at-now.result.lines.now c.due_at-now.ensures.these in
    let rest = own_later c.args.upsets.now c.args.machine.now.state.system c.args.p c.loop-next.tick c.loop-next.coming c.loop-next.invariant.coming c.due_at-now.result.most c.due_at-now.ensures.none in
    let failed = rw c.in-Err.is at c.follow-done.ensures.follows own now rest in
    next_cut c.args.upsets.now c.args.p c.loop-next.tick c.follow-done.result.ticks c.args.script.now (cues_left c.loop-next.rest) c.in-Some.next c.in-Some.later c.args.machine.now.state c.loop-next.machine.state c.follow-done.new.machine.state own c.requires.script c.in-Some.ensures c.follow-done.ensures.system refl
    (g.O.Sink.got c.args.out.now) (g.O.Sink.got c.loop-next.out) (g.O.Sink.got c.follow-done.new.out) (record { places = _; marks = _ }) (record { places = _; marks = _ }) (record { places = _; marks = _ }) c.follow-done.new.machine.said _ c.in-Err.fault
    (next_unwritten c.args.upsets.now c.args.p c.loop-next.tick c.follow-done.result.ticks c.args.script.now (cues_left c.loop-next.rest) c.in-Some.next c.in-Some.later c.args.machine.now.state c.loop-next.machine.state c.follow-done.new.machine.state own c.requires.script c.in-Some.ensures c.follow-done.ensures.system refl
    (g.O.Sink.got c.args.out.now) (g.O.Sink.got c.loop-next.out) (g.O.Sink.got c.follow-done.new.out) (record { places = _; marks = _ }) (record { places = _; marks = _ }) (record { places = _; marks = _ }) c.follow-done.new.machine.said c.in-Err.fault c.loop-next.invariant.playing failed c.requires.fits) c.loop-next.invariant.playing failed

pub returns-in-Err-clause-cause : goal.returns-in-Err-clause-cause
returns-in-Err-clause-cause g c =
    let own = from c.loop-next.tick (own_at c.args.upsets.now (view_of c.args.machine.now.state.system c.args.p)) in
    let now = own_now c.args.upsets.now c.args.machine.now.state.system c.args.p c.loop-next.tick c.loop-next.coming c.loop-next.invariant.coming c.due_at-now.result.lines.now c.due_at-now.ensures.these in
    let rest = own_later c.args.upsets.now c.args.machine.now.state.system c.args.p c.loop-next.tick c.loop-next.coming c.loop-next.invariant.coming c.due_at-now.result.most c.due_at-now.ensures.none in
    let failed = rw c.in-Err.is at c.follow-done.ensures.follows own now rest in
    let cause = rw c.in-Err.is at c.follow-done.ensures.cause in
    rose_from (Unit {0}) c.in-Err.fault (g.O.Sink.faults c.args.out.now) (g.O.Sink.faults c.loop-next.out) (g.O.Sink.faults c.follow-done.new.out)
    (next_unwritten c.args.upsets.now c.args.p c.loop-next.tick c.follow-done.result.ticks c.args.script.now (cues_left c.loop-next.rest) c.in-Some.next c.in-Some.later c.args.machine.now.state c.loop-next.machine.state c.follow-done.new.machine.state own c.requires.script c.in-Some.ensures c.follow-done.ensures.system refl
    (g.O.Sink.got c.args.out.now) (g.O.Sink.got c.loop-next.out) (g.O.Sink.got c.follow-done.new.out) (record { places = _; marks = _ }) (record { places = _; marks = _ }) (record { places = _; marks = _ }) c.follow-done.new.machine.said c.in-Err.fault c.loop-next.invariant.playing failed c.requires.fits) cause c.loop-next.invariant.faults

pub loop-next-preserved : goal.loop-next-preserved
loop-next-preserved g c =
    let own = from c.loop-next.tick (own_at c.args.upsets.now (view_of c.args.machine.now.state.system c.args.p)) in
    let now = own_now c.args.upsets.now c.args.machine.now.state.system c.args.p c.loop-next.tick c.loop-next.coming c.loop-next.invariant.coming c.due_at-now.result.lines.now c.due_at-now.ensures.these in
    let rest = own_later c.args.upsets.now c.args.machine.now.state.system c.args.p c.loop-next.tick c.loop-next.coming c.loop-next.invariant.coming c.due_at-now.result.most c.due_at-now.ensures.none in
    let done = rw c.in-Ok.is at c.follow-done.ensures.follows own now rest in
    let cause = rw c.in-Ok.is at c.follow-done.ensures.cause in
    record {
      playing = rw c.after-rest.ensures (next_played c.args.upsets.now c.args.p c.loop-next.tick c.follow-done.result.ticks c.args.script.now (cues_left c.loop-next.rest) c.in-Some.next c.in-Some.later c.args.machine.now.state c.loop-next.machine.state c.follow-done.new.machine.state own c.requires.script c.in-Some.ensures c.follow-done.ensures.system refl
          (g.O.Sink.got c.args.out.now) (g.O.Sink.got c.loop-next.out) (g.O.Sink.got c.follow-done.new.out) (record { places = _; marks = _ }) (record { places = _; marks = _ }) (record { places = _; marks = _ }) c.follow-done.new.machine.said c.in-Ok.field-0 c.loop-next.invariant.playing done);
      coming = coming_on c.args.upsets.now c.loop-next.tick c.follow-done.result.ticks c.due_at-now.result.most c.loop-next.coming c.due_at-now.new.coming c.loop-next.invariant.coming
          c.follow-done.ensures.some c.follow-done.ensures.most c.due_at-now.ensures.later c.due_at-now.ensures.ordered;
      faults = cause ∙ c.loop-next.invariant.faults;
    }

pub loop-next-smaller : goal.loop-next-smaller
loop-next-smaller g c =
    rw c.after-rest.ensures (next_shorter (cues_left c.loop-next.rest) c.in-Some.next c.in-Some.later c.follow-done.result.ticks c.in-Some.ensures c.follow-done.ensures.some)
