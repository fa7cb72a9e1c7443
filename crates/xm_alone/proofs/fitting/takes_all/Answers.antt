use Rattle.std.proofs.Common.{Some, sym, ap, refl, subst, ◌∙◌, arith}
use Rattle.machine_model.specs.Facts.{IsComplete}
use Rattle.machine_model.specs.View.{view_of}
use Rattle.upset_model.specs.lemmas.Segments.{from}
use Rattle.xm_alone.specs.lemmas.Cues.{cues_left}
use Rattle.xm_alone.specs.lemmas.Struck.{own_at}
use Rattle.xm_alone.proofs.ComingLemmas.{all_coming, coming_on, coming_strike, own_later, own_now}
use Rattle.xm_alone.proofs.KeptLemmas.{all_left, all_shown, none_kept}
use Rattle.xm_alone.proofs.NextLemmas.{next_is, next_kept, next_number, next_refused, next_runs, next_shorter, next_ticks}
use Rattle.xm_alone.proofs.fitting.takes_all.Goals as goal

pub due_at-now-requires-clause-below : goal.due_at-now-requires-clause-below
due_at-now-requires-clause-below c = omega (arith, c.loop-next.invariant.keeping.fitting.count, next_number c.args.upsets.now c.args.p c.args.script.now c.loop-next.invariant.keeping.fitting.before (cues_left c.loop-next.rest) c.in-Some.later c.args.machine.now.state c.loop-next.machine.state c.requires.script c.loop-next.invariant.keeping.fitting.following c.in-Some.next c.in-Some.ensures)

pub follow_kept-keeping-requires-clause-running : goal.follow_kept-keeping-requires-clause-running
follow_kept-keeping-requires-clause-running c =
    next_runs c.args.upsets.now c.args.p c.args.script.now c.loop-next.invariant.keeping.fitting.before (cues_left c.loop-next.rest) c.in-Some.later c.args.machine.now.state c.loop-next.machine.state c.requires.script c.loop-next.invariant.keeping.fitting.following c.in-Some.next c.in-Some.ensures

pub follow_kept-keeping-requires-clause-more : goal.follow_kept-keeping-requires-clause-more
follow_kept-keeping-requires-clause-more c =
    next_ticks c.args.upsets.now c.args.p c.args.script.now c.loop-next.invariant.keeping.fitting.before (cues_left c.loop-next.rest) c.in-Some.later c.args.machine.now.state c.loop-next.machine.state c.requires.script c.loop-next.invariant.keeping.fitting.following c.in-Some.next c.in-Some.ensures

pub follow_kept-keeping-requires-clause-next : goal.follow_kept-keeping-requires-clause-next
follow_kept-keeping-requires-clause-next c =
    next_is c.args.upsets.now c.args.p c.args.script.now c.loop-next.invariant.keeping.fitting.before (cues_left c.loop-next.rest) c.in-Some.later c.args.machine.now.state c.loop-next.machine.state c.requires.script c.loop-next.invariant.keeping.fitting.following c.in-Some.next c.in-Some.ensures

pub follow_kept-keeping-requires-clause-strike : goal.follow_kept-keeping-requires-clause-strike
follow_kept-keeping-requires-clause-strike c =
    coming_strike c.places_are_spelled.ensures.strike c.args.upsets.now _ c.loop-next.tick c.loop-next.coming c.due_at-now.result.lines.now c.args.machine.now.state c.loop-next.machine.state
    (subst IsComplete c.sys-now.ensures.machine c.sys-now.ensures.kept.complete) c.requires.upsets c.loop-next.invariant.keeping.fitting.following.system c.loop-next.invariant.coming c.due_at-now.ensures.these

pub returns-then-is_refused-clause-fits : goal.returns-then-is_refused-clause-fits
returns-then-is_refused-clause-fits c =
    let own = from c.loop-next.tick (own_at c.args.upsets.now (view_of c.args.machine.now.state.system c.args.p)) in
    let now = own_now c.args.upsets.now c.args.machine.now.state.system c.args.p c.loop-next.tick c.loop-next.coming c.loop-next.invariant.coming c.due_at-now.result.lines.now c.due_at-now.ensures.these in
    let rest = own_later c.args.upsets.now c.args.machine.now.state.system c.args.p c.loop-next.tick c.loop-next.coming c.loop-next.invariant.coming c.due_at-now.result.most c.due_at-now.ensures.none in
    let f = c.follow_kept-keeping.ensures.follows own now rest in
    let untaken = next_refused c.args.upsets.now c.args.p c.loop-next.tick c.follow_kept-keeping.result.0.ticks c.args.script.now (cues_left c.loop-next.rest) c.in-Some.next c.in-Some.later c.args.machine.now.state c.loop-next.machine.state c.follow_kept-keeping.new.machine.state own c.requires.script c.in-Some.ensures c.follow_kept-keeping.ensures.system refl
    c.follow_kept-keeping.result.0.ended f.had f.got f.begun f.board f.said (sym c.is_refused.ensures ∙ c.if-is_refused.true) c.loop-next.invariant.keeping.fitting f.follows in
    untaken ∙ ap Some (omega arith)

pub loop-next-preserved : goal.loop-next-preserved
loop-next-preserved c =
    let own = from c.loop-next.tick (own_at c.args.upsets.now (view_of c.args.machine.now.state.system c.args.p)) in
    let now = own_now c.args.upsets.now c.args.machine.now.state.system c.args.p c.loop-next.tick c.loop-next.coming c.loop-next.invariant.coming c.due_at-now.result.lines.now c.due_at-now.ensures.these in
    let rest = own_later c.args.upsets.now c.args.machine.now.state.system c.args.p c.loop-next.tick c.loop-next.coming c.loop-next.invariant.coming c.due_at-now.result.most c.due_at-now.ensures.none in
    let f = c.follow_kept-keeping.ensures.follows own now rest in
    record {
      keeping = rw c.after-rest.ensures (next_kept c.args.upsets.now c.args.p c.loop-next.tick c.follow_kept-keeping.result.0.ticks c.args.script.now (cues_left c.loop-next.rest) c.in-Some.next c.in-Some.later c.args.machine.now.state c.loop-next.machine.state c.follow_kept-keeping.new.machine.state own c.requires.script c.in-Some.ensures c.follow_kept-keeping.ensures.system refl
          c.follow_kept-keeping.result.0.ended f.had f.got f.begun f.board f.said c.loop-next.kept c.follow_kept-keeping.result.1 (sym c.is_refused.ensures ∙ c.if-is_refused.false) c.loop-next.invariant.keeping f.follows f.kept);
      coming = coming_on c.args.upsets.now c.loop-next.tick c.follow_kept-keeping.result.0.ticks c.due_at-now.result.most c.loop-next.coming c.due_at-now.new.coming c.loop-next.invariant.coming
          c.follow_kept-keeping.ensures.some c.follow_kept-keeping.ensures.most c.due_at-now.ensures.later c.due_at-now.ensures.ordered;
    }

pub loop-next-init : goal.loop-next-init
loop-next-init c = record {
  keeping = none_kept c.args.upsets.now c.args.p c.args.script.now _ c.args.machine.now.state c.args.kept c.of-rest.ensures c.requires.fresh c.requires.kept c.requires.empty;
  coming = all_coming c.args.machine.now.state.system.conf _ c.args.upsets.now _ c.new-coming.ensures c.requires.upsets;
}

pub returns-clause-left : goal.returns-clause-left
returns-clause-left c = all_left c.args.upsets.now c.args.p c.loop-next.tick c.args.script.now (cues_left c.loop-next.rest) c.args.machine.now.state c.loop-next.machine.state c.loop-next.kept c.in_default.ensures c.loop-next.invariant.keeping

pub returns-clause-shown : goal.returns-clause-shown
returns-clause-shown c = all_shown c.args.upsets.now c.args.p c.loop-next.tick c.args.script.now (cues_left c.loop-next.rest) c.args.machine.now.state c.loop-next.machine.state c.loop-next.kept c.in_default.ensures c.loop-next.invariant.keeping

pub loop-next-smaller : goal.loop-next-smaller
loop-next-smaller c =
    rw c.after-rest.ensures (next_shorter (cues_left c.loop-next.rest) c.in-Some.next c.in-Some.later c.follow_kept-keeping.result.0.ticks c.in-Some.ensures c.follow_kept-keeping.ensures.some)
