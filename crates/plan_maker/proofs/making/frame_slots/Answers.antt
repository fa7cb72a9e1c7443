-- Each turn leads to a later moment of the plan, up to the end of the frame.
use Rattle.std.proofs.Common.{◌-◌, ◌<◌, ◌≤◌, List, length, ap, sym, ◌∙◌, subst, arith}
use Rattle.xm_conf.specs.declared.plan.Slot.{Slot}
use Rattle.plan_maker.specs.Course.{Course, slots_so_far}
use Rattle.plan_maker.specs.lemmas.Turns.{IsMoment, Moment}
use Rattle.plan_maker.proofs.TurnLemmas.{begun_moment, frame_done, frame_few, moment_going, turned_next}
use Rattle.plan_maker.proofs.making.frame_slots.Goals as goal

pub loop-moment-init : goal.loop-moment-init
loop-moment-init c =
    subst (λ (moment : Moment). IsMoment c.args.frame c.args.requirements.now moment × (moment.tick ≤ c.args.frame)) (sym c.in_ok-moment.ensures)
    (begun_moment c.args.frame c.args.requirements.now, omega arith)

pub turn-requires : goal.turn-requires
turn-requires c =
    moment_going 0 c.args.frame c.args.requirements.now c.loop-moment.moment c.requires.possible c.loop-moment.invariant.0 c.requires.short (omega arith)

pub loop-moment-preserved : goal.loop-moment-preserved
loop-moment-preserved c =
    let next = turned_next 0 c.args.frame c.args.requirements.now c.loop-moment.moment c.requires.possible c.loop-moment.invariant.0 (omega arith) in
    subst (λ (moment : Moment). IsMoment c.args.frame c.args.requirements.now moment × (moment.tick ≤ c.args.frame)) (sym c.in_ok-turn.ensures) (next.moment, next.inside)

pub loop-moment-smaller : goal.loop-moment-smaller
loop-moment-smaller c =
    let next = turned_next 0 c.args.frame c.args.requirements.now c.loop-moment.moment c.requires.possible c.loop-moment.invariant.0 (omega arith) in
    subst (λ (moment : Moment). c.args.frame - moment.tick < c.args.frame - c.loop-moment.moment.tick) (sym c.in_ok-turn.ensures)
    (omega (arith, next.later, next.inside))

pub returns-clause-value : goal.returns-clause-value
returns-clause-value c =
    c.in_ok-slots.ensures
    ∙ ap (λ (course : Course). slots_so_far course) c.course.ensures
    ∙ frame_done c.args.requirements.now c.args.frame c.loop-moment.moment c.loop-moment.invariant.0 (omega (arith, c.loop-moment.invariant.1))

pub returns-clause-few : goal.returns-clause-few
returns-clause-few c =
    subst (λ (slots : List Slot). length slots ≤ c.args.frame)
    (sym (c.in_ok-slots.ensures
    ∙ ap (λ (course : Course). slots_so_far course) c.course.ensures
    ∙ frame_done c.args.requirements.now c.args.frame c.loop-moment.moment c.loop-moment.invariant.0 (omega (arith, c.loop-moment.invariant.1))))
    (frame_few c.args.requirements.now c.args.frame)
