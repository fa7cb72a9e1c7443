use Rattle.std.proofs.Common.{Option, ap, subst, ◌∙◌}
use Rattle.std.specs.Prelude.{IfSome}
use Rattle.xm_conf.specs.Configuration.{Plan}
use Rattle.span_engine.specs.Place.{IsPlace}
use Rattle.span_engine.specs.declared.place.Place.{Place}
use Rattle.span_engine.specs.lemmas.PlaceLemmas.{near_is}
use Rattle.span_engine.proofs.place.near.Goals as goal

pub returns-in-Some : goal.returns-in-Some
returns-in-Some c =
    let slots = c.deref.ensures.value ∙ ap (λ (plan : Plan). plan.slots) c.plan.view_is ∙ c.plan_here-plan.ensures in
    subst (λ (found : Option Place). IfSome found (λ place. IsPlace place c.args.sys.now.machine)) c.in-Some.is
    (near_is c.args.sys.now.machine c.moment-moment.result c.args.one c.deref.result.now c.in_slot.result c.requires.fits c.requires.clocked.in_frame c.moment-moment.ensures slots c.in_slot.ensures)

pub returns-in-None : goal.returns-in-None
returns-in-None c =
    let slots = c.deref-in-None.ensures.value ∙ ap (λ (plan : Plan). plan.slots) c.plan.view_is ∙ c.plan_here-plan.ensures in
    near_is c.args.sys.now.machine c.moment-moment.result c.args.other c.deref-in-None.result.now c.in_slot-in-None.result c.requires.fits c.requires.clocked.in_frame c.moment-moment.ensures slots c.in_slot-in-None.ensures
