-- What is reported of a description is its first broken rule.
use Rattle.std.proofs.Common.{◌≡◌, ℕ, ◌+◌, ◌<◌, ◌≤◌, if◌then◌else◌, nat_le, Bool, true, false, List, [], ◌∷◌, ◌++◌, length, map, Option, Some, None, refl, sym, ap, ◌∙◌, arith}
use Rattle.std.specs.Prelude.{◌==◌, All}
use Rattle.std.proofs.lemmas.List.{length-map}
use Rattle.std.proofs.lemmas.List.Elements.{All-nil, All-cons, All-head, All-tail}
use Rattle.std.proofs.lemmas.Bool.Decides.{nat_tests}
use Rattle.xm_conf.specs.Along.{head_of, added_by_each, each_from}
use Rattle.xm_conf.specs.Configuration.{Plan, Conf}
use Rattle.xm_conf.specs.Description.{PlanIds, Ids, HealthAnswer, Description, ids_of, plan_ids, monitor_of, described}
use Rattle.xm_conf.specs.Limits.{most_parts}
use Rattle.xm_conf.specs.Rules as rules
use Rattle.xm_conf.specs.declared.item.Item.{Item}
use Rattle.xm_conf.specs.declared.item.Item.TheVariants as item
use Rattle.xm_conf.specs.declared.item.Broken.{Broken}
use Rattle.xmcf_check.specs.lemmas.Answered.{answers_broken}
use Rattle.xmcf_check.specs.lemmas.Capped.{capped_plan, capped_part, capped_conf}
use Rattle.xmcf_check.specs.lemmas.Judged.{HasSizes, Gathers, gathered_of, health_table_of}
use Rattle.xmcf_check.specs.lemmas.Reported.{first_there, is_within, reported_among, first_reported, HasFew}
use Rattle.xmcf_check.proofs.ListLemmas.{both, front_none, back_none, back_first}
use Rattle.xmcf_check.proofs.BoundLemmas.{IsBounded, bounded, few_of}
use Rattle.xmcf_check.proofs.CappedLemmas.{rule_1-capped, rule_3-capped, memory_rules-capped, plan_rules-capped, rule_20-capped}
use Rattle.xmcf_check.proofs.CappedChanLemmas.{chan_rules-capped}
use Rattle.xmcf_check.proofs.HeadLemmas.{Begins, rule_1-begins, middle-begins, rule_19-begins, last-begins}
use Rattle.xmcf_check.proofs.KeptLemmas.{conf_kept}
use Rattle.xmcf_check.proofs.LinkLemmas.{link_rules-capped}
use Rattle.xmcf_check.proofs.OrderLemmas.{middle, last, first_broken-parts, IsFrom, order}
use Rattle.xmcf_check.proofs.TableLemmas.{tables_none, answers_reported}

-- the places themselves are in order
misplaced-numbers : {X : Type 0} (numbered : ℕ → Item) (n : ℕ) (xs : List X) → each_from (rules.misplaced numbered) n (each_from (λ k x. k ∷ []) n xs) ≡ []
misplaced-numbers numbered n [] = refl
misplaced-numbers numbered n (x ∷ xs) = let same : (n == n) ≡ true = grind (arith, nat_tests) in rw same (misplaced-numbers numbered (n + 1) xs)

-- the places of plans and slots are in order
misplaced-plans : (n : ℕ) (plans : List Plan) → each_from rules.plan_misplaced n (each_from plan_ids n plans) ≡ []
unfolding rules.plan_misplaced
misplaced-plans n [] = refl
misplaced-plans n (plan ∷ plans) =
    let same : (n == n) ≡ true = grind (arith, nat_tests) in
    rw (same, misplaced-numbers (item.Slot n) 0 plan.slots) (misplaced-plans (n + 1) plans)

-- a configuration's ids are its places
rule_2-ids_of : (conf : Conf) → rules.rule_2 (ids_of conf) ≡ []
unfolding rules.rule_2 ids_of
rule_2-ids_of conf = rw (misplaced-numbers item.Uart 0 conf.uarts, misplaced-plans 0 conf.plans, misplaced-numbers item.Part 0 conf.parts) refl

-- a list without a first element is empty
no_head : {X : Type 0} (xs : List X) → head_of xs ≡ None → xs ≡ []
no_head [] none = refl
no_head (x ∷ xs) none = absurd (let no : ⊥ = cc in no)

-- what comes after matters where nothing comes first
first_same : {X : Type 0} (a : List X) (x y : Option X) → (a ≡ [] → x ≡ y) → first_there (head_of a) x ≡ first_there (head_of a) y
first_same [] x y same = same refl
first_same (z ∷ a) x y same = refl

-- of two, one that is there is from the one to the other
first_from : (low high : ℕ) (x y : Option Broken) → IsFrom low high x → IsFrom low high y → IsFrom low high (first_there x y)
first_from low high None y one other = other
first_from low high (Some x) y one other = one

-- the first of the rules from 3 to 18
middle-capped : (conf : Conf) → IsBounded conf → head_of (middle (capped_conf conf)) ≡ head_of (middle conf)
middle-capped conf bound =
    ap (λ front. head_of (front ++ rules.chan_rules (capped_conf conf)))
    (both (both (rule_3-capped conf) (memory_rules-capped conf)) (plan_rules-capped conf (few_of conf bound).parts_few (omega (arith, bound.uarts))))
    ∙ back_first (rules.rule_3 conf ++ rules.memory_rules conf ++ rules.plan_rules conf) (rules.chan_rules (capped_conf conf)) (rules.chan_rules conf)
    (chan_rules-capped conf (few_of conf bound))

-- the first of the rules from 20 on
last-capped : (conf : Conf) → IsBounded conf → head_of (last (capped_conf conf)) ≡ head_of (last conf)
last-capped conf bound =
    ap (λ front. head_of (front ++ rules.link_rules (capped_conf conf))) (rule_20-capped conf)
    ∙ back_first (rules.rule_20 conf) (rules.link_rules (capped_conf conf)) (rules.link_rules conf) (link_rules-capped conf (few_of conf bound).parts_few)

-- what partitions' tables of health events break
abbrev tables_broken : Conf → Option Broken
tables_broken conf = head_of (rules.rule_19 (length conf.plans) (map monitor_of (map capped_part conf.parts)))

-- the first rule that a configuration with capped numbers breaks, of the rules before
front-parts : (conf : Conf) → rules.first_broken most_parts (described conf) ≡ first_there (head_of (rules.rule_1 most_parts conf)) (first_there (head_of (middle conf))
    (first_there (head_of (rules.rule_19 (length conf.plans) (map monitor_of conf.parts))) (head_of (last conf))))
unfolding described
front-parts conf =
    first_broken-parts (described conf)
    ∙ ap (λ ids. first_there (head_of (rules.rule_1 most_parts conf)) (first_there (head_of ids) (first_there (head_of (middle conf))
    (first_there (head_of (rules.rule_19 (length conf.plans) (map monitor_of conf.parts))) (head_of (last conf))))))
    (rule_2-ids_of conf)

-- rule 19 of a configuration whose numbers are capped
tables-capped : (conf : Conf) → head_of (rules.rule_19 (length (capped_conf conf).plans) (map monitor_of (capped_conf conf).parts)) ≡ tables_broken conf
unfolding capped_conf
tables-capped conf = ap (λ n. head_of (rules.rule_19 n (map monitor_of (map capped_part conf.parts)))) (length-map conf.plans capped_plan)

-- the first rule that a configuration with capped numbers breaks
capped-parts : (conf : Conf) → rules.first_broken most_parts (described (capped_conf conf))
    ≡ first_there (head_of (rules.rule_1 most_parts conf)) (first_there (head_of (middle conf)) (first_there (tables_broken conf) (head_of (last conf))))
capped-parts conf =
    front-parts (capped_conf conf)
    ∙ ap (λ counts. first_there (head_of counts) (first_there (head_of (middle (capped_conf conf)))
    (first_there (head_of (rules.rule_19 (length (capped_conf conf).plans) (map monitor_of (capped_conf conf).parts))) (head_of (last (capped_conf conf))))))
    (rule_1-capped conf)
    ∙ ap (λ tables. first_there (head_of (rules.rule_1 most_parts conf)) (first_there (head_of (middle (capped_conf conf)))
    (first_there tables (head_of (last (capped_conf conf))))))
    (tables-capped conf)
    ∙ first_same (rules.rule_1 most_parts conf) _ _
    (λ none.
    ap (λ others. first_there others (first_there (tables_broken conf) (head_of (last (capped_conf conf))))) (middle-capped conf (bounded conf none))
    ∙ ap (λ more. first_there (head_of (middle conf)) (first_there (tables_broken conf) more)) (last-capped conf (bounded conf none)))

-- what is reported of a description's parts
reported_parts : (d : Description) → All (λ monitor. monitor.logged < 4096) d.monitors → map (λ part. part.hm) d.conf.parts ≡ map health_table_of d.monitors
    → first_reported (length d.conf.plans) d.ids (map (λ monitor. monitor.answers) d.monitors) (rules.first_broken most_parts (described (capped_conf d.conf))) ≡ rules.first_broken most_parts d
unfolding first_reported
reported_parts d small tables =
    ap (λ found. reported_among (head_of (rules.rule_2 d.ids)) (head_of (added_by_each (answers_broken (length d.conf.plans)) (map (λ monitor. monitor.answers) d.monitors))) found)
    (capped-parts d.conf)
    ∙ order (head_of (rules.rule_1 most_parts d.conf)) (head_of (rules.rule_2 d.ids)) (head_of (middle d.conf))
    (head_of (added_by_each (answers_broken (length d.conf.plans)) (map (λ monitor. monitor.answers) d.monitors))) (tables_broken d.conf) (head_of (last d.conf))
    (rule_1-begins d.conf).first (middle-begins d.conf).first
    (first_from 19 22 (tables_broken d.conf) (head_of (last d.conf))
    (rule_19-begins (length d.conf.plans) (map monitor_of (map capped_part d.conf.parts))).first (last-begins d.conf).first)
    (λ none. ap head_of (tables_none (length d.conf.plans) d.monitors d.conf.parts small tables (no_head _ none)))
    ∙ ap (λ answers. first_there (head_of (rules.rule_1 most_parts d.conf)) (first_there (head_of (rules.rule_2 d.ids)) (first_there (head_of (middle d.conf))
    (first_there (head_of answers) (head_of (last d.conf))))))
    (answers_reported (length d.conf.plans) d.monitors small)
    ∙ sym (first_broken-parts d)

-- how many plans there are
plans-capped : (conf : Conf) → length (capped_conf conf).plans ≡ length conf.plans
unfolding capped_conf
plans-capped conf = length-map conf.plans capped_plan

-- what is reported of what is gathered is the description's first broken rule
pub reported_first : (raw : Conf) (ids : Ids) (answers : List (List HealthAnswer)) (d : Description) → Gathers (gathered_of raw ids answers) d
    → first_reported (length raw.plans) ids answers (rules.first_broken most_parts (described raw)) ≡ rules.first_broken most_parts d
reported_first raw ids answers d gathers =
    ap (λ r. first_reported (length r.plans) ids answers (rules.first_broken most_parts (described r))) gathers.conf
    ∙ ap (λ n. first_reported n ids answers (rules.first_broken most_parts (described (capped_conf d.conf)))) (plans-capped d.conf)
    ∙ ap (λ i. first_reported (length d.conf.plans) i answers (rules.first_broken most_parts (described (capped_conf d.conf)))) gathers.ids
    ∙ ap (λ a. first_reported (length d.conf.plans) d.ids a (rules.first_broken most_parts (described (capped_conf d.conf)))) gathers.answers
    ∙ reported_parts d gathers.logged gathers.tables

-- a description that breaks no rule keeps its numbers
pub none_kept : (d : Description) → rules.first_broken most_parts d ≡ None → capped_conf d.conf ≡ d.conf
unfolding rules.first_broken rules.all_broken
none_kept d none =
    let all = no_head _ none in
    let chans = front_none _ _ (front_none _ _ (front_none _ _ all)) in
    let plans = front_none _ _ chans in
    let counts : rules.rule_1 most_parts d.conf ≡ [] = front_none _ _ (front_none _ _ (front_none _ _ (front_none _ _ plans))) in
    let bound = bounded d.conf counts in
    let uarts : length d.conf.uarts ≤ 255 = omega (arith, bound.uarts) in
    conf_kept d.conf uarts (few_of d.conf bound) (back_none _ (rules.plan_rules d.conf) plans) (back_none _ (rules.chan_rules d.conf) chans) (back_none _ (rules.link_rules d.conf) all)

-- where rule 1 is not what is reported, it holds
counts_hold : (counts : List Broken) (rest : Option Broken) → Begins 1 1 counts → is_within 1 (first_there (head_of counts) rest) ≡ false → counts ≡ []
counts_hold [] rest begins past = refl
counts_hold (b ∷ counts) rest begins past =
    let small : b.rule ≤ 1 = begins.first.1 in
    let within : nat_le b.rule 1 ≡ true = grind (arith, nat_tests) in
    absurd (let no : ⊥ = cc in no)

-- as many slots' ids as slots
few_slots : (ids : List PlanIds) (plans : List Plan) → map (λ plan. length plan.slots) ids ≡ map (λ plan. length plan.slots) plans
    → All (λ plan. length plan.slots ≤ 64) plans → All (λ plan. length plan.slots ≤ 64) ids
few_slots [] plans same few = All-nil (λ plan. length plan.slots ≤ 64)
few_slots (i ∷ ids) [] same few = absurd (let no : ⊥ = cc in no)
few_slots (i ∷ ids) (plan ∷ plans) same few =
    let count : length i.slots ≡ length plan.slots = cc in
    let rest : map (λ plan. length plan.slots) ids ≡ map (λ plan. length plan.slots) plans = cc in
    let small : length plan.slots ≤ 64 = All-head (λ plan. length plan.slots ≤ 64) plan plans few in
    All-cons (λ plan. length plan.slots ≤ 64) i ids (omega arith) (few_slots ids plans rest (All-tail (λ plan. length plan.slots ≤ 64) plan plans few))

-- where rule 1 is not what is found, there are few ids and answers
pub few_reported : (raw : Conf) (ids : Ids) (answers : List (List HealthAnswer)) (lists : ℕ) (found : Option Broken) → lists ≡ length answers
    → HasSizes (gathered_of raw ids answers) → found ≡ rules.first_broken most_parts (described raw) → is_within 1 found ≡ false → HasFew ids lists
few_reported raw ids answers lists found all sizes is past =
    let parts : found ≡ first_there (head_of (rules.rule_1 most_parts raw)) (first_there (head_of (middle raw))
    (first_there (head_of (rules.rule_19 (length raw.plans) (map monitor_of raw.parts))) (head_of (last raw)))) = is ∙ front-parts raw in
    let counts : rules.rule_1 most_parts raw ≡ [] = counts_hold (rules.rule_1 most_parts raw) _ (rule_1-begins raw) (ap (is_within 1) (sym parts) ∙ past) in
    let bound = bounded raw counts in
    let plans : length ids.plans ≡ length raw.plans =
    sym (length-map ids.plans (λ plan. length plan.slots)) ∙ ap length sizes.slots ∙ length-map raw.plans (λ plan. length plan.slots) in
    record {
      uarts = omega (arith, sizes.uarts, bound.uarts);
      plans = omega (arith, plans, bound.plans);
      slots = few_slots ids.plans raw.plans sizes.slots bound.slots;
      parts = omega (arith, sizes.parts, bound.parts);
      answers = omega (arith, all, sizes.answers, bound.parts);
    }

-- what is found is reported, where nothing else is
pub reported_some : (plans : ℕ) (ids : Ids) (answers : List (List HealthAnswer)) (b : Broken) → first_reported plans ids answers (Some b) ≡ None → ⊥
unfolding first_reported reported_among
reported_some plans ids answers b none = at (nat_le b.rule 1) (head_of (rules.rule_2 ids)) (nat_le b.rule 18) (head_of (added_by_each (answers_broken plans) answers)) none
  where
    at : (first : Bool) (id : Option Broken) (middle : Bool) (answer : Option Broken)
        → (if first then Some b else first_there id (if middle then Some b else first_there answer (Some b))) ≡ None → ⊥
    at true id middle answer none = cc
    at false (Some i) middle answer none = cc
    at false None true answer none = cc
    at false None false (Some a) none = cc
    at false None false None none = cc

-- what is reported of what is gathered is the description's first broken rule
pub reported_is : (raw : Conf) (ids : Ids) (answers : List (List HealthAnswer)) (plans : ℕ) (found reported : Option Broken) → plans ≡ length raw.plans
    → found ≡ rules.first_broken most_parts (described raw) → reported ≡ first_reported plans ids answers found
    → (d : Description) → Gathers (gathered_of raw ids answers) d → reported ≡ rules.first_broken most_parts d
reported_is raw ids answers plans found reported count is value d gathers =
    value
    ∙ ap (λ n. first_reported n ids answers found) count
    ∙ ap (λ f. first_reported (length raw.plans) ids answers f) is
    ∙ reported_first raw ids answers d gathers
