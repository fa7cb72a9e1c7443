use Rattle.std.proofs.Common.{Some, None, length, map, sym, ◌∙◌}
use Rattle.std.proofs.lemmas.List.{length-map}
use Rattle.xmcf_check.proofs.JudgeLemmas.{reported_is, few_reported, none_kept}
use Rattle.xmcf_check.proofs.judging.judged.Goals as goal

pub first_reported-requires : goal.first_reported-requires
first_reported-requires c =
    few_reported c.args.raw c.args.ids.now (map (λ list. list.items) c.args.answers.now) (length c.args.answers.now) None
    (sym (length-map c.args.answers.now (λ list. list.items))) c.requires (sym c.in-Ok.ensures.none)

pub first_with-requires : goal.first_with-requires
first_with-requires c =
    few_reported c.args.raw c.args.ids.now (map (λ list. list.items) c.args.answers.now) (length c.args.answers.now) (Some c.in-Err.broken)
    (sym (length-map c.args.answers.now (λ list. list.items))) c.requires (sym c.in-Err.ensures.broken)

pub returns-in-Some : goal.returns-in-Some
returns-in-Some c = λ d gathers.
    sym (reported_is c.args.raw c.args.ids.now (map (λ list. list.items) c.args.answers.now) c.plan_count-plans.result None (Some c.in-Some.broken)
    c.plan_count-plans.ensures (sym c.in-Ok.ensures.none) c.in-Some.ensures d gathers)

pub returns-in-None : goal.returns-in-None
returns-in-None c = λ d gathers.
    let none = sym (reported_is c.args.raw c.args.ids.now (map (λ list. list.items) c.args.answers.now) c.plan_count-plans.result None None
    c.plan_count-plans.ensures (sym c.in-Ok.ensures.none) c.in-None.ensures d gathers) in
    (none, c.in-Ok.ensures.kept ∙ gathers.conf ∙ none_kept d none)

pub returns-in-Err : goal.returns-in-Err
returns-in-Err c = λ d gathers.
    sym (reported_is c.args.raw c.args.ids.now (map (λ list. list.items) c.args.answers.now) c.plan_count-plans.result (Some c.in-Err.broken) (Some c.first_with.result)
    c.plan_count-plans.ensures (sym c.in-Err.ensures.broken) c.first_with.ensures d gathers)
