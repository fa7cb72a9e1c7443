use Rattle.std.proofs.Common.{◌≡◌, ◌∙◌, sym, ap, ◌++◌, List, Some}
use Rattle.std.specs.Prelude.{slice_get}
use Rattle.xm_base.specs.Options.{on}
use Rattle.xm_conf.specs.Configuration.{Plan}
use Rattle.xmcf_reader.specs.declared.draft.Entry.{Entry}
use Rattle.xmcf_check.specs.lemmas.Capped.{capped_slot}
use Rattle.xmcf_check.specs.Described.{among, with_parent}
use Rattle.xmcf_check.specs.Elements.{element_frame, element_slot}
use Rattle.xmcf_check.specs.lemmas.Families.{picked}
use Rattle.xmcf_check.proofs.PlanLemmas.{plan_gathered}
use Rattle.xmcf_check.proofs.gathering.plans.push_plan.Goals as goal

pub returns-in_ok-push-in-Some : goal.returns-in_ok-push-in-Some
returns-in_ok-push-in-Some c =
    let found : picked element_frame (slice_get c.args.entries.now c.args.number) ≡ Some c.in-Some.frame = sym c.frame_at.ensures ∙ c.in-Some.is in
    let slots = c.in_ok-slots-in-Some.ensures ∙ ap (λ (inside : List Entry). among (λ element. on capped_slot (element_slot element)) (with_parent c.args.number inside)) c.within.ensures in
    rw found (c.in_ok-push-in-Some.ensures.items ∙ ap (λ (more : List Plan). c.args.plans.now.items ++ more) (plan_gathered c.args.number c.in-Some.frame c.args.entries.now _ c.requires.draft slots))
