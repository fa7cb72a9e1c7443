use Rattle.std.proofs.Common.{◌≡◌, ◌∙◌, sym, ap, ◌++◌, List, Some}
use Rattle.std.specs.Prelude.{slice_get}
use Rattle.xm_conf.specs.Description.{PlanIds}
use Rattle.xmcf_reader.specs.declared.draft.Entry.{Entry}
use Rattle.xmcf_check.specs.Described.{among, with_parent}
use Rattle.xmcf_check.specs.Elements.{plan_id_of, slot_id_of}
use Rattle.xmcf_check.specs.lemmas.Families.{picked}
use Rattle.xmcf_check.proofs.PlanLemmas.{plan_ids_gathered}
use Rattle.xmcf_check.proofs.gathering.id_lists.push_plan_ids.Goals as goal

pub returns-in_ok-push-in-Some : goal.returns-in_ok-push-in-Some
returns-in_ok-push-in-Some c =
    let found : picked plan_id_of (slice_get c.args.entries.now c.args.number) ≡ Some c.in-Some.plan = sym c.plan_id_at.ensures ∙ c.in-Some.is in
    let slots = c.in_ok-slots-in-Some.ensures ∙ ap (λ (inside : List Entry). among slot_id_of (with_parent c.args.number inside)) c.within.ensures in
    rw found (c.in_ok-push-in-Some.ensures.items ∙ ap (λ (more : List PlanIds). c.args.plans.now.items ++ more) (plan_ids_gathered c.args.number c.in-Some.plan c.args.entries.now _ c.requires.draft slots))
