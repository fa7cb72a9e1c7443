-- What a table of actions answers: each event once.
use Rattle.std.proofs.Common.{◌≡◌, ℕ, zero, suc, ◌+◌, ◌<◌, ◌≤◌, true, false, nat_lt, List, [], ◌∷◌, ◌++◌, length, map, None, refl, sym, ◌∙◌, ap, subst, arith, length-append}
use Rattle.std.specs.Prelude.{◌==◌}
use Rattle.std.specs.List.{position_from}
use Rattle.std.proofs.lemmas.List.{append-nil}
use Rattle.std.proofs.lemmas.Bool.Decides.{nat_tests}
use Rattle.xm_conf.specs.Along.{added_by_each, each_from, along_from, unless}
use Rattle.xm_conf.specs.Configuration.{Part, Plan, Conf}
use Rattle.xm_conf.specs.Description.{event_numbered, answer_of, monitor_of, plan_ids, ids_of}
use Rattle.xm_conf.specs.Health.{event_row, is_allowed}
use Rattle.xm_conf.specs.Rules as rules
use Rattle.xm_conf.specs.lemmas.Walks.{action_broken, part_monitor}
use Rattle.xm_conf.specs.declared.health.Action.{Action}
use Rattle.xm_conf.specs.declared.item.Item.TheVariants as item
use Rattle.xm_conf.specs.declared.item.Item.{Item}
use Rattle.xm_conf.proofs.MeetLemmas.{each-push}

-- the number of the event of a number
pub number-event_numbered : (n : ℕ) → n < 12 → (event_row (event_numbered n)).number ≡ n
unfolding event_numbered
number-event_numbered zero below = refl
number-event_numbered (suc zero) below = refl
number-event_numbered (suc (suc zero)) below = refl
number-event_numbered (suc (suc (suc zero))) below = refl
number-event_numbered (suc (suc (suc (suc zero)))) below = refl
number-event_numbered (suc (suc (suc (suc (suc zero))))) below = refl
number-event_numbered (suc (suc (suc (suc (suc (suc zero)))))) below = refl
number-event_numbered (suc (suc (suc (suc (suc (suc (suc zero))))))) below = refl
number-event_numbered (suc (suc (suc (suc (suc (suc (suc (suc zero)))))))) below = refl
number-event_numbered (suc (suc (suc (suc (suc (suc (suc (suc (suc zero))))))))) below = refl
number-event_numbered (suc (suc (suc (suc (suc (suc (suc (suc (suc (suc zero)))))))))) below = refl
number-event_numbered (suc (suc (suc (suc (suc (suc (suc (suc (suc (suc (suc zero))))))))))) below = refl
number-event_numbered (suc (suc (suc (suc (suc (suc (suc (suc (suc (suc (suc (suc n)))))))))))) below = absurd (omega arith)

-- the events of different numbers differ
pub same_event-numbered : (k n : ℕ) (a b : Action) → k < n → n < 12
    → rules.same_event (record { event = event_numbered k; action = a }) (record { event = event_numbered n; action = b }) ≡ false
unfolding rules.same_event
same_event-numbered k n a b before below =
    let first = number-event_numbered k (omega arith) in
    let later = number-event_numbered n below in
    rw (first, later) (grind (arith, nat_tests))

-- how many answers there are
pub length-answers : (k : ℕ) (actions : List Action) → length (each_from answer_of k actions) ≡ length actions
length-answers k [] = refl
length-answers k (a ∷ actions) = ap suc (length-answers (k + 1) actions)

-- no earlier answer is to the event of a later number
pub none-earlier : (from k n : ℕ) (b : Action) (actions : List Action) → k + length actions ≤ n → n < 12
    → position_from (λ earlier. rules.same_event earlier (record { event = event_numbered n; action = b })) from (each_from answer_of k actions) ≡ None
none-earlier from k n b [] room below = refl
none-earlier from k n b (a ∷ actions) room below =
    rw (same_event-numbered k n a b (omega arith) below) (none-earlier (from + 1) (k + 1) n b actions (omega arith) below)

-- an answer breaks the rule by its action alone
pub answer_broken-numbered : (plans p : ℕ) (before : List Action) (a : Action) → length before < 12
    → rules.answer_broken plans p (added_by_each answer_of before) (record { event = event_numbered (length before); action = a }) ≡ action_broken plans p (length before) a
unfolding rules.answer_broken action_broken
answer_broken-numbered plans p before a below =
    rw (none-earlier 0 0 (length before) a before (omega arith) below, length-answers 0 before)
    (ap (λ more. more ++ unless (rules.has_plan plans a) (rules.alone 19 (item.Event p (length before))))
    (append-nil (unless (is_allowed (event_numbered (length before)) a) (rules.alone 19 (item.Event p (length before))))))

-- the answers of a table break the rule by their actions alone
pub along-answers : (plans p : ℕ) (before actions : List Action) → length before + length actions ≤ 12
    → along_from (rules.answer_broken plans p) (added_by_each answer_of before) (each_from answer_of (length before) actions) ≡ each_from (action_broken plans p) (length before) actions
along-answers plans p before [] room = refl
along-answers plans p before (a ∷ actions) room =
    let next : length (before ++ a ∷ []) ≡ length before + 1 = omega (arith, length-append before (a ∷ [])) in
    ap (λ first. first ++ along_from (rules.answer_broken plans p) (added_by_each answer_of before ++ answer_of (length before) a) (each_from answer_of (length before + 1) actions))
    (answer_broken-numbered plans p before a (omega arith))
    ∙ ap (λ more. action_broken plans p (length before) a ++ more)
    (ap (λ front. along_from (rules.answer_broken plans p) front (each_from answer_of (length before + 1) actions)) (sym (each-push answer_of before a))
    ∙ subst (λ (n : ℕ). along_from (rules.answer_broken plans p) (added_by_each answer_of (before ++ a ∷ [])) (each_from answer_of n actions) ≡ each_from (action_broken plans p) n actions) next
    (along-answers plans p (before ++ a ∷ []) actions (omega (arith, next))))

-- what a list of what others say adds
pub each_from-map : {X Y Z : Type 0} (f : ℕ → Y → List Z) (g : X → Y) (n : ℕ) (xs : List X) → each_from f n (map g xs) ≡ each_from (λ k x. f k (g x)) n xs
each_from-map f g n [] = refl
each_from-map f g n (x ∷ xs) = ap (λ more. f n (g x) ++ more) (each_from-map f g (n + 1) xs)

-- a partition's table breaks the rule by its flags and its actions
pub monitor_broken_table : (plans p : ℕ) (part : Part) → length part.hm.actions ≤ 12
    → rules.monitor_broken plans p (monitor_of part) ≡ unless (nat_lt part.hm.logged 4096) (rules.alone 19 (item.Part p)) ++ added_by_each (action_broken plans p) part.hm.actions
unfolding rules.monitor_broken monitor_of
monitor_broken_table plans p part room =
    ap (λ more. unless (nat_lt part.hm.logged 4096) (rules.alone 19 (item.Part p)) ++ more) (along-answers plans p [] part.hm.actions (omega arith))

-- the places themselves are in order
pub misplaced-numbers : {X : Type 0} (numbered : ℕ → Item) (n : ℕ) (xs : List X) → each_from (rules.misplaced numbered) n (each_from (λ k x. k ∷ []) n xs) ≡ []
misplaced-numbers numbered n [] = refl
misplaced-numbers numbered n (x ∷ xs) = let same : (n == n) ≡ true = grind (arith, nat_tests) in rw same (misplaced-numbers numbered (n + 1) xs)

-- the places of plans and slots are in order
pub misplaced-plans : (n : ℕ) (plans : List Plan) → each_from rules.plan_misplaced n (each_from plan_ids n plans) ≡ []
unfolding rules.plan_misplaced
misplaced-plans n [] = refl
misplaced-plans n (plan ∷ plans) =
    let same : (n == n) ≡ true = grind (arith, nat_tests) in
    rw (same, misplaced-numbers (item.Slot n) 0 plan.slots) (misplaced-plans (n + 1) plans)

-- a configuration's ids are its places
pub rule_2-ids_of : (conf : Conf) → rules.rule_2 (ids_of conf) ≡ []
unfolding rules.rule_2 ids_of
rule_2-ids_of conf = rw (misplaced-numbers item.Uart 0 conf.uarts, misplaced-plans 0 conf.plans, misplaced-numbers item.Part 0 conf.parts) refl

-- the rule on health events is broken along the partitions
pub rule_19_tables : (plans : ℕ) (parts : List Part) → rules.rule_19 plans (map monitor_of parts) ≡ added_by_each (part_monitor plans) parts
unfolding rules.rule_19 part_monitor
rule_19_tables plans parts = each_from-map (rules.monitor_broken plans) monitor_of 0 parts
