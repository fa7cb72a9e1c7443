-- The order of the rules: ids after the counts, and answers after channels.
use Rattle.std.proofs.Common.{◌≡◌, ℕ, ◌≤◌, nat_le, true, false, List, [], ◌∷◌, ◌++◌, length, Option, Some, None, refl, arith}
use Rattle.std.specs.Prelude.{IfSome}
use Rattle.std.proofs.lemmas.Bool.Decides.{nat_tests}
use Rattle.xm_conf.specs.Along.{head_of}
use Rattle.xm_conf.specs.Configuration.{Conf}
use Rattle.xm_conf.specs.Description.{Description}
use Rattle.xm_conf.specs.Limits.{most_parts}
use Rattle.xm_conf.specs.Rules as rules
use Rattle.xm_conf.specs.declared.item.Broken.{Broken}
use Rattle.xmcf_check.specs.lemmas.Reported.{first_there, reported_among}

-- what breaks the rules from 3 to 18
abbrev pub middle : Conf → List Broken
middle conf = rules.rule_3 conf ++ rules.memory_rules conf ++ rules.plan_rules conf ++ rules.chan_rules conf

-- what breaks the rules from 20 on
abbrev pub last : Conf → List Broken
last conf = rules.rule_20 conf ++ rules.link_rules conf

-- the first of lists one after another
first-nine : {X : Type 0} (a b c1 c2 c3 c4 d e1 e2 : List X) → head_of (a ++ b ++ c1 ++ c2 ++ c3 ++ c4 ++ d ++ e1 ++ e2)
    ≡ first_there (head_of a) (first_there (head_of b) (first_there (head_of (c1 ++ c2 ++ c3 ++ c4)) (first_there (head_of d) (head_of (e1 ++ e2)))))
first-nine [] [] [] [] [] [] [] e1 e2 = refl
first-nine [] [] [] [] [] [] (x ∷ d) e1 e2 = refl
first-nine [] [] [] [] [] (x ∷ c4) d e1 e2 = refl
first-nine [] [] [] [] (x ∷ c3) c4 d e1 e2 = refl
first-nine [] [] [] (x ∷ c2) c3 c4 d e1 e2 = refl
first-nine [] [] (x ∷ c1) c2 c3 c4 d e1 e2 = refl
first-nine [] (x ∷ b) c1 c2 c3 c4 d e1 e2 = refl
first-nine (x ∷ a) b c1 c2 c3 c4 d e1 e2 = refl

-- the first rule that is broken, part by part
pub first_broken-parts : (d : Description) → rules.first_broken most_parts d
    ≡ first_there (head_of (rules.rule_1 most_parts d.conf))
    (first_there (head_of (rules.rule_2 d.ids)) (first_there (head_of (middle d.conf))
    (first_there (head_of (rules.rule_19 (length d.conf.plans) d.monitors)) (head_of (last d.conf)))))
unfolding rules.first_broken rules.all_broken
first_broken-parts d =
    first-nine (rules.rule_1 most_parts d.conf) (rules.rule_2 d.ids) (rules.rule_3 d.conf) (rules.memory_rules d.conf) (rules.plan_rules d.conf)
    (rules.chan_rules d.conf) (rules.rule_19 (length d.conf.plans) d.monitors) (rules.rule_20 d.conf) (rules.link_rules d.conf)

-- a broken rule, where there is one, has a number from one to another
abbrev pub IsFrom : ℕ → ℕ → Option Broken → Type 0
IsFrom low high found = IfSome found (λ b. (low ≤ b.rule) × (b.rule ≤ high))

-- what is found after the answers, where a table's action breaks a rule only if an answer does
order_last : (id answer table need : Option Broken) → IsFrom 19 22 (first_there table need) → (answer ≡ None → table ≡ None)
    → reported_among id answer (first_there table need) ≡ first_there id (first_there answer need)
unfolding reported_among
order_last id answer None None from none = refl
order_last id answer None (Some b) from none =
    let above : 19 ≤ b.rule = from.0 in
    let past_first : nat_le b.rule 1 ≡ false = grind (arith, nat_tests) in
    let past_middle : nat_le b.rule 18 ≡ false = grind (arith, nat_tests) in
    rw (past_first, past_middle) refl
order_last id None (Some b) need from none = absurd (let same : Some b ≡ None = none refl in let no : ⊥ = cc in no)
order_last id (Some a) (Some b) need from none =
    let above : 19 ≤ b.rule = from.0 in
    let past_first : nat_le b.rule 1 ≡ false = grind (arith, nat_tests) in
    let past_middle : nat_le b.rule 18 ≡ false = grind (arith, nat_tests) in
    rw (past_first, past_middle) refl

-- what is found in the order of the rules
pub order : (count id other answer table need : Option Broken) → IsFrom 1 1 count → IsFrom 3 18 other → IsFrom 19 22 (first_there table need)
    → (answer ≡ None → table ≡ None)
    → reported_among id answer (first_there count (first_there other (first_there table need))) ≡ first_there count (first_there id (first_there other (first_there answer need)))
unfolding reported_among
order (Some a) id other answer table need counted from last none =
    let is : a.rule ≤ 1 = counted.1 in
    let within : nat_le a.rule 1 ≡ true = grind (arith, nat_tests) in
    rw within refl
order None id (Some c) answer table need counted from last none =
    let above : 3 ≤ c.rule = from.0 in
    let below : c.rule ≤ 18 = from.1 in
    let past_first : nat_le c.rule 1 ≡ false = grind (arith, nat_tests) in
    let within : nat_le c.rule 18 ≡ true = grind (arith, nat_tests) in
    rw (past_first, within) refl
order None id None answer table need counted from last none = order_last id answer table need last none
