use Rattle.std.proofs.Common.{refl, sym, ◌∙◌}
use Rattle.span_engine.proofs.TakeLemmas.{awake_keeps, done_from, is_idle, is_met, met_keeps, none_left, take_put, turns_met, woken}
use Rattle.span_engine.proofs.slot.take_slot.Goals as goal

pub goes_on-requires-clause-turns : goal.goes_on-requires-clause-turns
goes_on-requires-clause-turns c = turns_met c.args.p c.args.first c.args.sys.now c.meet.new.sys c.requires.take.partition c.meet.ensures.value c.requires.turns

pub go_on-requires-clause-take : goal.go_on-requires-clause-take
go_on-requires-clause-take c =
    take_put c.args.p c.args.most _ c.args.sys.now c.wake.new.sys c.requires.take (woken c.args.p c.args.first c.args.sys.now c.meet.new.sys c.wake.new.sys c.requires.take.partition c.meet.ensures.value c.wake.ensures.value)
    (awake_keeps _ _ _)

pub go_on-requires-clause-timers : goal.go_on-requires-clause-timers
go_on-requires-clause-timers c =
    none_left c.next_deadline_is_least.ensures.law c.args.p c.args.first _ c.args.sys.now c.wake.new.sys c.requires.take.partition
    (woken c.args.p c.args.first c.args.sys.now c.meet.new.sys c.wake.new.sys c.requires.take.partition c.meet.ensures.value c.wake.ensures.value) refl

pub stay_idle-requires-clause-take : goal.stay_idle-requires-clause-take
stay_idle-requires-clause-take c = take_put c.args.p c.args.most _ c.args.sys.now c.meet.new.sys c.requires.take c.meet.ensures.value (met_keeps _ _ _)

pub stay_idle-requires-clause-timers : goal.stay_idle-requires-clause-timers
stay_idle-requires-clause-timers c = none_left c.next_deadline_is_least.ensures.law c.args.p c.args.first _ c.args.sys.now c.meet.new.sys c.requires.take.partition c.meet.ensures.value refl

pub returns-then-goes_on : goal.returns-then-goes_on
returns-then-goes_on c =
    let awake = woken c.args.p c.args.first c.args.sys.now c.meet.new.sys c.wake.new.sys c.requires.take.partition c.meet.ensures.value c.wake.ensures.value in
    record {
      done = done_from c.go_on.new.span c.args.most c.args.sys.now.machine _ c.args.sys.now c.wake.new.sys c.go_on.new.sys c.go_on.new.lines awake
          (c.go_on.ensures.done c.args.sys.now.machine c.args.first _
          (is_met c.args.p c.args.most c.args.first c.args.sys.now c.meet.new.sys c.wake.new.sys c.requires.take c.requires.slot c.requires.stretch c.meet.ensures.value (sym c.goes_on.ensures ∙ c.if-goes_on.true) awake));
    }

pub returns-else-goes_on : goal.returns-else-goes_on
returns-else-goes_on c = record {
  done = done_from c.stay_idle.new.span c.args.most c.args.sys.now.machine _ c.args.sys.now c.meet.new.sys c.stay_idle.new.sys c.stay_idle.new.lines c.meet.ensures.value
      (c.stay_idle.ensures.done c.args.sys.now.machine _
      (is_idle c.args.p c.args.most c.args.first c.args.sys.now c.meet.new.sys c.requires.take c.requires.slot c.requires.stretch c.meet.ensures.value c.requires.turns (sym c.goes_on.ensures ∙ c.if-goes_on.false)));
}
