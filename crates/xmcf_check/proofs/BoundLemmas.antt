-- How many there are of each, where the counts are kept.
use Rattle.std.proofs.Common.{◌≡◌, ℕ, ◌+◌, ◌<◌, ◌≤◌, nat_lt, nat_le, true, List, [], ◌∷◌, ◌++◌, length, arith}
use Rattle.std.specs.Prelude.{All}
use Rattle.std.proofs.lemmas.List.Elements.{All-nil, All-cons, All-weaker}
use Rattle.std.proofs.lemmas.Bool.Decides.{nat_tests}
use Rattle.xm_conf.specs.Along.{added_by_each, each_from, unless}
use Rattle.xm_conf.specs.Configuration.{Plan, Part, Conf}
use Rattle.xm_conf.specs.Limits.{most_parts}
use Rattle.xm_conf.specs.Rules as rules
use Rattle.xm_conf.specs.declared.item.Item.{Item}
use Rattle.xm_conf.specs.declared.item.Item.TheVariants as item
use Rattle.xmcf_check.proofs.ListLemmas.{front_none, back_none}
use Rattle.xmcf_check.proofs.CappedChanLemmas.{HasFewPorts, AreFew, unless_none}

-- how many there are of each
pub record IsBounded (conf : Conf) : Type 0 where
  pub uarts : length conf.uarts ≤ 8
  pub plans : length conf.plans ≤ 8
  pub slots : All (λ plan. length plan.slots ≤ 64) conf.plans
  pub parts : length conf.parts ≤ most_parts
  pub ports : All (λ part. length part.ports ≤ 32) conf.parts

-- elements that add nothing below a limit are no more
few_from : {X Y : Type 0} (f : ℕ → X → List Y) (limit : ℕ) → ((n : ℕ) (x : X) → f n x ≡ [] → n < limit) → (n : ℕ) (xs : List X) → n ≤ limit
    → each_from f n xs ≡ [] → n + length xs ≤ limit
few_from f limit small n [] within none = omega arith
few_from f limit small n (x ∷ xs) within none =
    let below : n < limit = small n x (front_none _ _ none) in
    let next : n + 1 ≤ limit = omega arith in
    let rest : n + 1 + length xs ≤ limit = few_from f limit small (n + 1) xs next (back_none (f n x) (each_from f (n + 1) xs) none) in
    omega arith

-- what holds of each element that adds nothing
all_from : {X Y : Type 0} (f : ℕ → X → List Y) (P : X → Type 0) → ((n : ℕ) (x : X) → f n x ≡ [] → P x) → (n : ℕ) (xs : List X)
    → each_from f n xs ≡ [] → All P xs
all_from f P holds n [] none = All-nil P
all_from f P holds n (x ∷ xs) none = All-cons P x xs (holds n x (front_none _ _ none)) (all_from f P holds (n + 1) xs (back_none _ _ none))

-- a list within its limit
past_none : {X : Type 0} (limit : ℕ) (numbered : ℕ → Item) (xs : List X) → rules.past_limit limit numbered xs ≡ [] → length xs ≤ limit
past_none limit numbered xs none =
    let passes : nat_le (length xs) limit ≡ true = unless_none _ (rules.alone 1 (numbered limit)) none in
    grind (arith, nat_tests)

-- a place within its limit
place_none : (n limit : ℕ) (it : Item) → unless (nat_lt n limit) (rules.alone 1 it) ≡ [] → n < limit
place_none n limit it none =
    let passes : nat_lt n limit ≡ true = unless_none _ (rules.alone 1 it) none in
    grind (arith, nat_tests)

-- a plan's place
plan_below : (n : ℕ) (plan : Plan) → rules.plan_counts n plan ≡ [] → n < 8
unfolding rules.plan_counts
plan_below n plan none = place_none n 8 (item.Plan n) (front_none _ _ (front_none _ _ none))

-- a plan's slots
plan_slots : (n : ℕ) (plan : Plan) → rules.plan_counts n plan ≡ [] → length plan.slots ≤ 64
unfolding rules.plan_counts
plan_slots n plan none = past_none 64 (item.Slot n) plan.slots (back_none _ _ none)

-- a partition's place
part_below : (n : ℕ) (part : Part) → rules.part_counts most_parts n part ≡ [] → n < most_parts
unfolding rules.part_counts
part_below n part none = place_none n most_parts (item.Part n) (front_none _ _ (front_none _ _ (front_none _ _ none)))

-- a partition's ports
part_ports : (n : ℕ) (part : Part) → rules.part_counts most_parts n part ≡ [] → length part.ports ≤ 32
unfolding rules.part_counts
part_ports n part none = past_none 32 (item.Port n) part.ports (back_none _ _ none)

-- a configuration that keeps its counts
pub bounded : (conf : Conf) → rules.rule_1 most_parts conf ≡ [] → IsBounded conf
unfolding rules.rule_1 rules.list_counts
bounded conf none =
    let lists : unless (rules.has_some conf) (rules.alone 1 item.Whole) ++ rules.past_limit 8 item.Region conf.regions ++ rules.past_limit 8 item.Uart conf.uarts ≡ [] =
    front_none _ _ (front_none _ _ (front_none _ _ (front_none _ _ none))) in
    let plans : added_by_each rules.plan_counts conf.plans ≡ [] = back_none (rules.list_counts conf) _ (front_none _ _ (front_none _ _ (front_none _ _ none))) in
    let parts : added_by_each (rules.part_counts most_parts) conf.parts ≡ [] = back_none _ (added_by_each (rules.part_counts most_parts) conf.parts) (front_none _ _ (front_none _ _ none)) in
    record {
      uarts = past_none 8 item.Uart conf.uarts (back_none _ _ lists);
      plans = omega (arith, few_from rules.plan_counts 8 plan_below 0 conf.plans (omega arith) plans);
      slots = all_from rules.plan_counts (λ plan. length plan.slots ≤ 64) plan_slots 0 conf.plans plans;
      parts = omega (arith, few_from (rules.part_counts most_parts) most_parts part_below 0 conf.parts (omega arith) parts);
      ports = all_from (rules.part_counts most_parts) (λ part. length part.ports ≤ 32) part_ports 0 conf.parts parts;
    }

-- no more partitions and ports than fields hold
pub few_of : (conf : Conf) → IsBounded conf → AreFew conf.parts
few_of conf bound = record {
  parts_few = omega (arith, bound.parts);
  ports_few = All-weaker (λ part. length part.ports ≤ 32) HasFewPorts (λ part small. omega arith) conf.parts bound.ports;
}
