use Rattle.std.proofs.Common.{◌≡◌, ◌∙◌, sym, rules, Some}
use Rattle.std.specs.Prelude.{slice_get}
use Rattle.xmcf_check.specs.Elements.{element_answer, part_id_of}
use Rattle.xmcf_check.specs.lemmas.Families.{picked}
use Rattle.xmcf_check.proofs.PassLemmas.{seen_more}
use Rattle.xmcf_check.proofs.WholeLemmas.{monitor_gathered}
use Rattle.xmcf_check.proofs.gathering.monitors.push_monitor.Goals as goal

pub returns-in_ok-push-in-Some : goal.returns-in_ok-push-in-Some
returns-in_ok-push-in-Some c =
    let found : picked part_id_of (slice_get c.args.entries.now c.args.number) ≡ Some c.in-Some.field-0 = sym c.part_id_at.ensures ∙ c.in-Some.is in
    let given = c.in_ok-given-in-Some.ensures element_answer (λ element found called. search rules) in
    rw found
    (seen_more (λ answers. answers.items) c.args.monitors.now.items c.push.new.self.items c.in_ok-answers-in-Some.answers _ c.in_ok-push-in-Some.ensures.items
    (monitor_gathered c.args.number c.in-Some.field-0 c.args.entries.now c.within-inside.result.now c.in_ok-given-in-Some.given.items c.deref.result.now c.in_ok-answers-in-Some.answers.items c.requires.draft c.within-inside.ensures given
    c.deref.ensures.value c.in_ok-answers-in-Some.ensures))
