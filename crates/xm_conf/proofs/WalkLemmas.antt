-- The rules along a configuration are the rules of what it describes.
use Rattle.std.proofs.Common.{◌≡◌, ℕ, ◌++◌, length, map, sym, ◌∙◌, ap}
use Rattle.std.proofs.lemmas.List.{append-nil}
use Rattle.xm_conf.specs.Along.{head_of}
use Rattle.xm_conf.specs.Configuration.{Conf}
use Rattle.xm_conf.specs.Description.{described, monitor_of}
use Rattle.xm_conf.specs.Rules.{rule_1, rule_3, memory_rules, plan_rules, chan_rules, rule_19, rule_20, link_rules, all_broken, first_broken}
use Rattle.xm_conf.specs.lemmas.Walks.{walk_broken}
use Rattle.xm_conf.proofs.AnswerLemmas.{rule_2-ids_of}

-- the first of what breaks a rule is the first rule that is broken
pub walk_first : (most : ℕ) (conf : Conf) → head_of (walk_broken most conf) ≡ first_broken most (described conf)
unfolding walk_broken first_broken all_broken described
walk_first most conf =
    ap (λ front. head_of (front ++ rule_3 conf ++ memory_rules conf ++ plan_rules conf ++ chan_rules conf ++ rule_19 (length conf.plans) (map monitor_of conf.parts) ++ rule_20 conf ++ link_rules conf))
    (sym (append-nil (rule_1 most conf)) ∙ ap (λ ids. rule_1 most conf ++ ids) (sym (rule_2-ids_of conf)))
