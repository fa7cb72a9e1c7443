-- What is lacking shows whether the time in the window is too little.
use Rattle.std.proofs.Common.{◌≡◌, ◌+◌, ◌-◌, ◌*◌, List, sum_by, ap, ◌∙◌, rules}
use Rattle.xm_conf.specs.declared.plan.Slot.{Slot}
use Rattle.plan_maker.specs.lemmas.ServedTerms.{shared}
use Rattle.plan_maker.proofs.SharedLemmas.{lacks_window}
use Rattle.plan_maker.proofs.meeting.lacks.Goals as goal

pub returns : goal.returns
returns c =
    let start = c.args.window * c.args.need.period in
    let same : c.deref.result.now ≡ c.args.plan.now.slots = first_of (search rules, cc) in
    lacks_window c.args.part c.args.plan.now.frame c.args.window c.args.need.period c.args.need.duration c.lacking.result c.args.plan.now.slots c.requires.inside c.requires.in_turn
    (c.lacking.ensures ∙ ap (λ (slots : List Slot). c.args.need.duration - sum_by (shared c.args.part start (start + c.args.need.period)) slots) same)
