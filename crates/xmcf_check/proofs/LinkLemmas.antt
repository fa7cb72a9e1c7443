-- The rules on links say the same of a configuration whose numbers are capped, and one that breaks none keeps its numbers.
use Rattle.std.proofs.Common.{◌≡◌, ℕ, ◌<◌, ◌≤◌, ◌&&◌, not, nat_lt, Bool, true, false, [], ◌++◌, length, map, refl, ap, ◌∙◌, arith}
use Rattle.std.specs.Prelude.{◌==◌}
use Rattle.std.proofs.lemmas.List.{length-map}
use Rattle.std.proofs.lemmas.Bool.Decides.{nat_tests}
use Rattle.xm_conf.specs.Along.{head_of, added_by_each, along, unless}
use Rattle.xm_conf.specs.Configuration.{Conf}
use Rattle.xm_conf.specs.Limits.{link_numbers}
use Rattle.xm_conf.specs.Rules as rules
use Rattle.xm_conf.specs.declared.item.Item.TheVariants as item
use Rattle.xm_conf.specs.declared.link.Link.{Link}
use Rattle.xmcf_check.specs.lemmas.Capped.{capped, capped_link, capped_part, capped_conf}
use Rattle.xmcf_check.proofs.ListLemmas.{each-made, last_first, made_kept}
use Rattle.xmcf_check.proofs.CappedLemmas.{capped-below, capped-kept}
use Rattle.xmcf_check.proofs.CappedChanLemmas.{unless_none, and_first, and_second}

-- a last test matters where the two before it pass
last_test : (a b c d e : Bool) → (b ≡ true → c ≡ true → d ≡ e) → (a && b && c && d) ≡ (a && b && c && e)
last_test true true true d e same = same refl refl
last_test true true false d e same = refl
last_test true false c d e same = refl
last_test false b c d e same = refl

-- whether two partitions that exist differ
differ-capped : (parts source dest : ℕ) → parts ≤ 255 → rules.exists parts source ≡ true → rules.exists parts dest ≡ true
    → not (capped 255 source == capped 255 dest) ≡ not (source == dest)
differ-capped parts source dest few from to =
    let source_below : source < parts = grind (arith, nat_tests) in
    let dest_below : dest < parts = grind (arith, nat_tests) in
    ap (λ n. not (n == capped 255 dest)) (capped-kept 255 source (omega arith)) ∙ ap (λ n. not (source == n)) (capped-kept 255 dest (omega arith))

-- whether a link may stand
is_link-capped : (parts : ℕ) (link : Link) → parts ≤ 255 → rules.is_link parts (capped_link link) ≡ rules.is_link parts link
unfolding rules.is_link capped_link
is_link-capped parts link few =
    ap (λ t. t && rules.exists parts (capped 255 link.source) && rules.exists parts (capped 255 link.dest) && not (capped 255 link.source == capped 255 link.dest))
    (capped-below 255 link.number link_numbers (omega arith))
    ∙ ap (λ t. nat_lt link.number link_numbers && t && rules.exists parts (capped 255 link.dest) && not (capped 255 link.source == capped 255 link.dest))
    (capped-below 255 link.source parts few)
    ∙ ap (λ t. nat_lt link.number link_numbers && rules.exists parts link.source && t && not (capped 255 link.source == capped 255 link.dest))
    (capped-below 255 link.dest parts few)
    ∙ last_test (nat_lt link.number link_numbers) (rules.exists parts link.source) (rules.exists parts link.dest) _ _
    (λ from to. differ-capped parts link.source link.dest few from to)

-- a link that may not stand
unfit_link-capped : (parts n : ℕ) (link : Link) → parts ≤ 255 → rules.unfit_link parts n (capped_link link) ≡ rules.unfit_link parts n link
unfolding rules.unfit_link
unfit_link-capped parts n link few = ap (λ t. unless t (rules.alone 21 (item.Link n))) (is_link-capped parts link few)

-- rule 21
rule_21-capped : (conf : Conf) → length conf.parts ≤ 255 → rules.rule_21 (capped_conf conf) ≡ rules.rule_21 conf
unfolding rules.rule_21 capped_conf
rule_21-capped conf few =
    ap (λ parts. added_by_each (rules.unfit_link parts) (map capped_link conf.links)) (length-map conf.parts capped_part)
    ∙ each-made (rules.unfit_link (length conf.parts)) (rules.unfit_link (length conf.parts)) capped_link
    (λ n link. unfit_link-capped (length conf.parts) n link few) conf.links

-- a link that may stand keeps its numbers
link_kept : (parts n : ℕ) (link : Link) → parts ≤ 255 → rules.unfit_link parts n link ≡ [] → capped_link link ≡ link
unfolding rules.unfit_link rules.is_link capped_link
link_kept parts n link few none =
    let passes = unless_none _ (rules.alone 21 (item.Link n)) none in
    let front = and_first (nat_lt link.number link_numbers && rules.exists parts link.source && rules.exists parts link.dest) _ passes in
    let first = and_first (nat_lt link.number link_numbers && rules.exists parts link.source) (rules.exists parts link.dest) front in
    let to : rules.exists parts link.dest ≡ true = and_second (nat_lt link.number link_numbers && rules.exists parts link.source) (rules.exists parts link.dest) front in
    let numbered : nat_lt link.number link_numbers ≡ true = and_first (nat_lt link.number link_numbers) (rules.exists parts link.source) first in
    let from : rules.exists parts link.source ≡ true = and_second (nat_lt link.number link_numbers) (rules.exists parts link.source) first in
    let number : link.number < link_numbers = grind (arith, nat_tests) in
    let source : link.source < parts = grind (arith, nat_tests) in
    let dest : link.dest < parts = grind (arith, nat_tests) in
    ap (λ n. record { number = n; source = capped 255 link.source; dest = capped 255 link.dest }) (capped-kept 255 link.number (omega arith))
    ∙ ap (λ n. record { number = link.number; source = n; dest = capped 255 link.dest }) (capped-kept 255 link.source (omega arith))
    ∙ ap (λ n. record { number = link.number; source = link.source; dest = n }) (capped-kept 255 link.dest (omega arith))

-- links that may stand keep their numbers
pub links_kept : (conf : Conf) → length conf.parts ≤ 255 → rules.rule_21 conf ≡ [] → map capped_link conf.links ≡ conf.links
unfolding rules.rule_21
links_kept conf few none =
    made_kept (rules.unfit_link (length conf.parts)) capped_link (λ n link. link_kept (length conf.parts) n link few) 0 conf.links none

-- rule 22, where rule 21 holds
rule_22-capped : (conf : Conf) → length conf.parts ≤ 255 → rules.rule_21 conf ≡ [] → rules.rule_22 (capped_conf conf) ≡ rules.rule_22 conf
unfolding rules.rule_22 capped_conf
rule_22-capped conf few none = ap (λ links. along (rules.repeated 22 item.Link rules.same_link) links) (links_kept conf few none)

-- the first that breaks a rule on links
pub link_rules-capped : (conf : Conf) → length conf.parts ≤ 255 → head_of (rules.link_rules (capped_conf conf)) ≡ head_of (rules.link_rules conf)
unfolding rules.link_rules
link_rules-capped conf few =
    ap (λ front. head_of (front ++ rules.rule_22 (capped_conf conf))) (rule_21-capped conf few)
    ∙ last_first (rules.rule_21 conf) (rules.rule_22 (capped_conf conf)) (rules.rule_22 conf) (λ none. rule_22-capped conf few none)
