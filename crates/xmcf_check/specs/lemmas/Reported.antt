-- Which broken rule is reported, where one is found among those of the configuration alone.
use Rattle.std.specs.Prelude.{ℕ, ◌≤◌, if◌then◌else◌, Bool, false, nat_le, List, length, All, Option, Some, None}
use Rattle.xm_conf.specs.Along.{head_of, added_by_each}
use Rattle.xm_conf.specs.Description.{Ids, HealthAnswer}
use Rattle.xm_conf.specs.Limits.{most_parts}
use Rattle.xm_conf.specs.Rules.{rule_2}
use Rattle.xm_conf.specs.declared.item.Broken.{Broken}
use Rattle.xmcf_check.specs.lemmas.Answered.{answers_broken}

-- the first of two, where it is there, or else the second
abbrev pub first_there : {X : Type 0} → Option X → Option X → Option X
first_there None later = later
first_there (Some x) later = Some x

-- whether a broken rule, where there is one, has at most such a number
abbrev pub is_within : ℕ → Option Broken → Bool
is_within last None = false
is_within last (Some broken) = nat_le broken.rule last

-- the first of an id, an answer and what is found: ids come after rule 1, and answers after rule 18
unfoldable pub reported_among : Option Broken → Option Broken → Option Broken → Option Broken
reported_among id answer found = if is_within 1 found then found else first_there id (if is_within 18 found then found else first_there answer found)

-- the first of the ids, the answers and what is found
unfoldable pub first_reported : ℕ → Ids → List (List HealthAnswer) → Option Broken → Option Broken
first_reported plans ids answers found = reported_among (head_of (rule_2 ids)) (head_of (added_by_each (answers_broken plans) answers)) found

-- no more ids and lists of answers than the counts allow
pub record HasFew (ids : Ids) (lists : ℕ) : Type 0 where
  pub uarts : length ids.uarts ≤ 8
  pub plans : length ids.plans ≤ 8
  pub slots : All (λ plan. length plan.slots ≤ 64) ids.plans
  pub parts : length ids.parts ≤ most_parts
  pub answers : lists ≤ most_parts
