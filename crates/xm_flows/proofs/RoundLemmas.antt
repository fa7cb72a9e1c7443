-- As many rounds as there are partitions reach every member of a group: a round that adds nothing is the last, and each other one adds a partition.
use Rattle.std.proofs.Common.{◌≡◌, ℕ, zero, suc, ◌<◌, ◌≤◌, ◌+◌, Bool, true, false, List, length, refl, sym, ap, ◌∙◌, arith}
use Rattle.std.specs.Prelude.{◌==◌, nat_lt}
use Rattle.std.specs.Int.{bit_at}
use Rattle.std.proofs.lemmas.Bool.{eqb-true}
use Rattle.std.proofs.lemmas.Bool.Decides.{nat_tests}
use Rattle.std.proofs.lemmas.Nat.Bits.{bit_at-lt, same_from_bits}
use Rattle.xm_conf.specs.Configuration.{Chan, Conf}
use Rattle.xm_conf.specs.Description.{described}
use Rattle.xm_conf.specs.Fits.{Fits}
use Rattle.xm_conf.specs.declared.link.Link.{Link}
use Rattle.xm_flows.specs.declared.answer.Group.{Group}
use Rattle.xm_flows.specs.Groups.{KeepsRules, Members}
use Rattle.xm_flows.specs.Laws.{RoundsFindGroups}
use Rattle.xm_flows.specs.lemmas.MasksTerms.{AreAllLow, IsClosureOf}
use Rattle.xm_flows.specs.Masks.{after_rounds, group_mask, group_of, members_of, widened_all, with_member}
use Rattle.xm_flows.proofs.ClosureLemmas.{IsPartOf, added, all_low, all_peers, all_widens, closed_is, group_within, is_group, low_part, plain_is}
use Rattle.xm_flows.proofs.MaskLemmas.{none_member}

-- how many a test counts
abbrev one_if : Bool → ℕ
one_if true = 1
one_if false = 0

-- how many partitions below a number are in a set
abbrev count_in : Members → ℕ → ℕ
count_in set zero = 0
count_in set (suc n) = count_in set n + one_if (set n)

-- a part has no more
one_less : (a b : Bool) → (a ≡ true → b ≡ true) → one_if a ≤ one_if b
one_less true true more = omega arith
one_less true false more = absurd (let fails = more refl in cc)
one_less false true more = omega arith
one_less false false more = omega arith

count_part : (one other : Members) → IsPartOf one other → (n : ℕ) → count_in one n ≤ count_in other n
count_part one other part zero = omega arith
count_part one other part (suc n) =
    let further : count_in one n ≤ count_in other n = count_part one other part n in
    let here : one_if (one n) ≤ one_if (other n) = one_less (one n) (other n) (part n) in
    omega (arith, further, here)

count_most : (set : Members) (n : ℕ) → count_in set n ≤ n
count_most set zero = omega arith
count_most set (suc n) =
    let further : count_in set n ≤ n = count_most set n in
    let here : one_if (set n) ≤ 1 = by (set n) in
    omega (arith, further, here)
  where
    by : (b : Bool) → one_if b ≤ 1
    by true = omega arith
    by false = omega arith

-- and where it has as many it is the same
one_same : (a b : Bool) → one_if a ≡ one_if b → a ≡ b
one_same true true e = refl
one_same true false e = absurd (omega (arith, e))
one_same false true e = absurd (omega (arith, e))
one_same false false e = refl

count_same : (one other : Members) → IsPartOf one other → (n : ℕ) → count_in one n ≡ count_in other n → (q : ℕ) → q < n → one q ≡ other q
count_same one other part zero same q below = absurd (omega (arith, below))
count_same one other part (suc n) same q below =
    let further : count_in one n ≤ count_in other n = count_part one other part n in
    let here : one_if (one n) ≤ one_if (other n) = one_less (one n) (other n) (part n) in
    let rest : count_in one n ≡ count_in other n = omega (arith, further, here, same) in
    let last : one_if (one n) ≡ one_if (other n) = omega (arith, further, here, same) in
    by (q == n) refl (one_same (one n) (other n) last) (count_same one other part n rest q)
  where
    by : (b : Bool) → (q == n) ≡ b → one n ≡ other n → (q < n → one q ≡ other q) → one q ≡ other q
    by true is at further = let place : q ≡ n = eqb-true q n is in ap one place ∙ at ∙ ap other (sym place)
    by false is at further = further (grind (arith, nat_tests))

-- two sets that are part of each other are the same
same_truth : (a b : Bool) → (a ≡ true → b ≡ true) → (b ≡ true → a ≡ true) → a ≡ b
same_truth true true there back = refl
same_truth true false there back = absurd (let fails = there refl in cc)
same_truth false true there back = absurd (let fails = back refl in cc)
same_truth false false there back = refl

-- masks with the same members are the same
same_bits : (a b : ℕ) → a < 2 → b < 2 → (a == 1) ≡ (b == 1) → a ≡ b
same_bits a b low low_too same = by (a == 1) (b == 1) refl refl same
  where
    by : (s t : Bool) → (a == 1) ≡ s → (b == 1) ≡ t → s ≡ t → a ≡ b
    by true true is is_too e = eqb-true a 1 is ∙ sym (eqb-true b 1 is_too)
    by true false is is_too e = absurd cc
    by false true is is_too e = absurd cc
    by false false is is_too e = grind (arith, nat_tests)

same_masks : (a b : ℕ) → ((q : ℕ) → members_of a q ≡ members_of b q) → a ≡ b
unfolding members_of
same_masks a b same = same_from_bits a b (λ i. same_bits (bit_at a i) (bit_at b i) (bit_at-lt a i) (bit_at-lt b i) (same i))

-- after a round that adds nothing no round does
all_rounds : (count : ℕ) (chans : List Chan) (joins : List Link) (mask : ℕ) → widened_all chans joins mask ≡ mask → after_rounds count chans joins mask ≡ mask
all_rounds zero chans joins mask same = refl
all_rounds (suc count) chans joins mask same = ap (after_rounds count chans joins) same ∙ all_rounds count chans joins mask same

-- a mask has partitions below a number alone
abbrev IsBelow : ℕ → ℕ → Type 0
IsBelow parts mask = (q : ℕ) → members_of mask q ≡ true → q < parts

-- masks of partitions below a number that have as many of them, of which one is part of the other, are the same
same_count : (parts one other : ℕ) → IsBelow parts one → IsBelow parts other → IsPartOf (members_of one) (members_of other) → count_in (members_of one) parts ≡ count_in (members_of other) parts
    → one ≡ other
same_count parts one other below below_too part same = same_masks one other (λ q. at q (nat_lt q parts) refl)
  where
    at : (q : ℕ) (b : Bool) → nat_lt q parts ≡ b → members_of one q ≡ members_of other q
    at q true is = count_same (members_of one) (members_of other) part parts same q (grind (arith, nat_tests))
    at q false is = same_truth (members_of one q) (members_of other q) (part q)
        (λ its. absurd (let inside : q < parts = below_too q its in let past : parts ≤ q = grind (arith, nat_tests) in omega (arith, inside, past)))

-- what a round leaves is below the number where the ends of channels are
abbrev KeepsBelow : ℕ → List Chan → List Link → Type 0
KeepsBelow parts chans joins = KeepsRules (λ q. nat_lt q parts) chans joins

round_below : (parts : ℕ) (chans : List Chan) (joins : List Link) (mask : ℕ) → AreAllLow chans joins → KeepsBelow parts chans joins → IsBelow parts mask → IsBelow parts (widened_all chans joins mask)
round_below parts chans joins mask low keeps below q is =
    let inside : nat_lt q parts ≡ true =
    (all_widens chans joins mask low).forced (λ r. nat_lt r parts) keeps (λ r its. let at : r < parts = below r its in grind (arith, nat_tests)) q is
    in
    grind (arith, nat_tests)

-- where a round has as many partitions as before, no round adds any
ended : (count parts : ℕ) (chans : List Chan) (joins : List Link) (mask : ℕ) → AreAllLow chans joins → KeepsBelow parts chans joins → IsBelow parts mask
    → count_in (members_of mask) parts ≡ count_in (members_of (widened_all chans joins mask)) parts → widened_all chans joins (after_rounds count chans joins mask) ≡ after_rounds count chans joins mask
ended count parts chans joins mask low keeps below as_many =
    let same : mask ≡ widened_all chans joins mask =
    same_count parts mask (widened_all chans joins mask) below (round_below parts chans joins mask low keeps below) (all_widens chans joins mask low).has as_many
    in
    let rounds : after_rounds count chans joins mask ≡ mask = all_rounds count chans joins mask (sym same) in
    ap (widened_all chans joins) rounds ∙ sym same ∙ sym rounds

-- else it has more
rises : (parts : ℕ) (chans : List Chan) (joins : List Link) (mask : ℕ) → AreAllLow chans joins → (count_in (members_of mask) parts == count_in (members_of (widened_all chans joins mask)) parts) ≡ false
    → count_in (members_of mask) parts < count_in (members_of (widened_all chans joins mask)) parts
rises parts chans joins mask low other =
    let least : count_in (members_of mask) parts ≤ count_in (members_of (widened_all chans joins mask)) parts =
    count_part (members_of mask) (members_of (widened_all chans joins mask)) (all_widens chans joins mask low).has parts
    in
    grind (arith, nat_tests)

-- so the rounds end
rounds_end : (count parts : ℕ) (chans : List Chan) (joins : List Link) (mask : ℕ) → AreAllLow chans joins → KeepsBelow parts chans joins → IsBelow parts mask → parts ≤ count_in (members_of mask) parts + count
    → widened_all chans joins (after_rounds count chans joins mask) ≡ after_rounds count chans joins mask
rounds_end zero parts chans joins mask low keeps below left = by (count_in (members_of mask) parts == count_in (members_of (widened_all chans joins mask)) parts) refl
  where
    by : (b : Bool) → (count_in (members_of mask) parts == count_in (members_of (widened_all chans joins mask)) parts) ≡ b → widened_all chans joins mask ≡ mask
    by true is = ended 0 parts chans joins mask low keeps below (eqb-true (count_in (members_of mask) parts) (count_in (members_of (widened_all chans joins mask)) parts) is)
    by false is =
        let more : count_in (members_of mask) parts < count_in (members_of (widened_all chans joins mask)) parts = rises parts chans joins mask low is in
        let most : count_in (members_of (widened_all chans joins mask)) parts ≤ parts = count_most (members_of (widened_all chans joins mask)) parts in
        absurd (omega (arith, more, most, left))
rounds_end (suc count) parts chans joins mask low keeps below left =
    by (count_in (members_of mask) parts == count_in (members_of (widened_all chans joins mask)) parts) refl
    (rounds_end count parts chans joins (widened_all chans joins mask) low keeps (round_below parts chans joins mask low keeps below))
  where
    by : (b : Bool) → (count_in (members_of mask) parts == count_in (members_of (widened_all chans joins mask)) parts) ≡ b
        → (parts ≤ count_in (members_of (widened_all chans joins mask)) parts + count → widened_all chans joins (after_rounds count chans joins (widened_all chans joins mask)) ≡ after_rounds count chans joins (widened_all chans joins mask))
        → widened_all chans joins (after_rounds count chans joins (widened_all chans joins mask)) ≡ after_rounds count chans joins (widened_all chans joins mask)
    by true is further = ended (suc count) parts chans joins mask low keeps below (eqb-true (count_in (members_of mask) parts) (count_in (members_of (widened_all chans joins mask)) parts) is)
    by false is further =
        let more : count_in (members_of mask) parts < count_in (members_of (widened_all chans joins mask)) parts = rises parts chans joins mask low is in
        further (omega (arith, more, left))

-- what the rounds leave has what was there, and is part of each set that has it and keeps the rules
rounds_have : (count : ℕ) (chans : List Chan) (joins : List Link) (mask : ℕ) → AreAllLow chans joins → IsPartOf (members_of mask) (members_of (after_rounds count chans joins mask))
rounds_have zero chans joins mask low q is = is
rounds_have (suc count) chans joins mask low q is = rounds_have count chans joins (widened_all chans joins mask) low q ((all_widens chans joins mask low).has q is)

rounds_forced : (count : ℕ) (chans : List Chan) (joins : List Link) (mask : ℕ) → AreAllLow chans joins → (other : Members) → KeepsRules other chans joins → IsPartOf (members_of mask) other
    → IsPartOf (members_of (after_rounds count chans joins mask)) other
rounds_forced zero chans joins mask low other keeps part q is = part q is
rounds_forced (suc count) chans joins mask low other keeps part q is = rounds_forced count chans joins (widened_all chans joins mask) low other keeps ((all_widens chans joins mask low).forced other keeps part) q is

rounds_closure : (parts : ℕ) (chans : List Chan) (joins : List Link) (mask : ℕ) → AreAllLow chans joins → KeepsBelow parts chans joins → IsBelow parts mask → IsClosureOf chans joins mask (after_rounds parts chans joins mask)
rounds_closure parts chans joins mask low keeps below = record {
  has = rounds_have parts chans joins mask low;
  kept = (all_widens chans joins (after_rounds parts chans joins mask) low).done (rounds_end parts parts chans joins mask low keeps below (omega arith));
  least = λ other others part. rounds_forced parts chans joins mask low other others part;
}

-- there is one such set
one_closure : (chans : List Chan) (joins : List Link) (mask one other : ℕ) → IsClosureOf chans joins mask one → IsClosureOf chans joins mask other → one ≡ other
one_closure chans joins mask one other is is_too =
    same_masks one other (λ q. same_truth (members_of one q) (members_of other q)
    (is.least (members_of other) is_too.kept is_too.has q)
    (is_too.least (members_of one) is.kept is.has q))

-- a partition alone is below the number of partitions
one_below : (parts p : ℕ) → p < parts → p < 32 → IsBelow parts (with_member 0 p)
one_below parts p below low q is =
    let inside : nat_lt q parts ≡ true = added 0 p low (λ r. nat_lt r parts) (λ r fails. absurd (none_member r fails)) (grind (arith, nat_tests)) q is in
    grind (arith, nat_tests)

-- what the rounds leave of a partition's bit
group_closure : (conf : Conf) (p : ℕ) → Fits (described conf) → p < length conf.parts → p < 32 → IsClosureOf conf.chans conf.links (with_member 0 p) (group_mask conf p)
unfolding group_mask
group_closure conf p fits below low =
    rounds_closure (length conf.parts) conf.chans conf.links (with_member 0 p) (all_low conf fits) (all_peers conf fits) (one_below (length conf.parts) p below low)

pub group_mask_is : (conf : Conf) (p members : ℕ) → Fits (described conf) → p < length conf.parts → p < 32 → IsClosureOf conf.chans conf.links (with_member 0 p) members → members ≡ group_mask conf p
group_mask_is conf p members fits below low closure =
    one_closure conf.chans conf.links (with_member 0 p) members (group_mask conf p) closure (group_closure conf p fits below low)

-- so what is found is the group
pub rounds_find : RoundsFindGroups
unfolding group_of
rounds_find conf p fits below =
    let group = is_group conf p (group_mask conf p) (low_part conf p fits below) (group_closure conf p fits below (low_part conf p fits below)) in
    let plain = plain_is conf (group_mask conf p) in
    let closed = closed_is conf p (members_of (group_mask conf p)) group in
    record {
      members = group;
      within = group_within conf p (members_of (group_mask conf p)) fits below group;
      closed = (λ is. closed.0 (plain.0 is), λ is. plain.1 (closed.1 is));
    }

-- what is found of a group, by its parts
abbrev pub group_with : ℕ → Bool → Group
group_with members covered = record { members = members; covered = covered }
