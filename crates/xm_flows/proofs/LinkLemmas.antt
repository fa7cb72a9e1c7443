-- Links of a configuration: where each goes, and that a partition has one of a number.
use Rattle.std.proofs.Common.{◌≡◌, ℕ, zero, suc, Bool, true, false, cond, List, [], ◌∷◌, Option, None, Some, refl, sym, ap, ◌∙◌, arith, inl, inr, subst}
use Rattle.std.specs.Prelude.{slice_get, ◌==◌, ◌&&◌, if◌then◌else◌, AllPairs}
use Rattle.std.specs.List.{find}
use Rattle.std.proofs.lemmas.Bool.{eqb-true}
use Rattle.std.proofs.lemmas.Bool.Decides.{nat_tests}
use Rattle.std.proofs.lemmas.Option.{get_or_from_slice_get, same_Some, slice_get_within}
use Rattle.xm_base.specs.Options.{on}
use Rattle.xm_conf.specs.Configuration.{Conf}
use Rattle.xm_conf.specs.Description.{described}
use Rattle.xm_conf.specs.Fits.{DifferLinks, Fits}
use Rattle.xm_conf.specs.View.{is_link_of, link_of}
use Rattle.xm_conf.specs.declared.link.Link.{Link}
use Rattle.machine_model.specs.lemmas.NameLemmas.{number_is}
use Rattle.machine_model.specs.Lists.{is_number}
use Rattle.machine_model.specs.Emission.{OwnSignals, OwnStill}
use Rattle.machine_model.specs.Traffic.{Signals, heard_as, own_signals_at}
use Rattle.machine_model.specs.View.{linked, unless_itself}
use Rattle.xm_flows.specs.Alike.{HasLinksOf}
use Rattle.xm_flows.specs.Groups.{Members}

-- a partition's link of a number, and where it goes
pub record IsItsLink (links : List Link) (q number dest : ℕ) : Type 0 where
  pub place : ℕ
  pub link : Link
  pub there : slice_get links place ≡ Some link
  pub source_is : link.source ≡ q
  pub number_is : link.number ≡ number
  pub dest_is : link.dest ≡ dest

link_tested : (q number : ℕ) (link : Link) → is_link_of q number link ≡ true → (link.source ≡ q) × (link.number ≡ number)
unfolding is_link_of
link_tested q number link is = by (link.source == q) (link.number == number) refl refl is
  where
    by : (a b : Bool) → (link.source == q) ≡ a → (link.number == number) ≡ b → (a && b) ≡ true → (link.source ≡ q) × (link.number ≡ number)
    by true true source same said = (eqb-true link.source q source, eqb-true link.number number same)
    by true false source same said = absurd cc
    by false b source same said = absurd cc

found_link : (q number dest : ℕ) (links : List Link) → on (λ link. link.dest) (find (is_link_of q number) links) ≡ Some dest → IsItsLink links q number dest
found_link q number dest [] is = absurd cc
found_link q number dest (link ∷ links) is = by (is_link_of q number link) refl is (found_link q number dest links)
  where
    by : (b : Bool) → is_link_of q number link ≡ b → on (λ (one : Link). one.dest) (cond b (Some link) (find (is_link_of q number) links)) ≡ Some dest
        → (on (λ (one : Link). one.dest) (find (is_link_of q number) links) ≡ Some dest → IsItsLink links q number dest) → IsItsLink (link ∷ links) q number dest
    by true its said further =
        let same = link_tested q number link its in
        record { place = 0; link = link; there = refl; source_is = same.0; number_is = same.1; dest_is = same_Some link.dest dest said }
    by false its said further =
        let found = further said in
        record { place = suc found.place; link = found.link; there = found.there; source_is = found.source_is; number_is = found.number_is; dest_is = found.dest_is }

its_link : (conf : Conf) (q number dest : ℕ) → link_of conf q number ≡ Some dest → IsItsLink conf.links q number dest
unfolding link_of
its_link conf q number dest is = found_link q number dest conf.links is

-- of links that differ the one of a partition and a number is the one that is found
itself_tested : (link : Link) → is_link_of link.source link.number link ≡ true
unfolding is_link_of
itself_tested link = grind (arith, nat_tests)

other_tested : (one link : Link) → DifferLinks one link → is_link_of link.source link.number one ≡ false
unfolding is_link_of
other_tested one link differ = by (one.source == link.source) (one.number == link.number) refl refl differ
  where
    by : (a b : Bool) → (one.source == link.source) ≡ a → (one.number == link.number) ≡ b → DifferLinks one link → (a && b) ≡ false
    by true true source number (inl other) = absurd (other (eqb-true one.source link.source source))
    by true true source number (inr other) = absurd (other (eqb-true one.number link.number number))
    by true false source number differ = refl
    by false b source number differ = refl

tail_differ : (one : Link) (links : List Link) → AllPairs DifferLinks (one ∷ links) → AllPairs DifferLinks links
tail_differ one links pairs i j d before within = pairs (suc i) (suc j) d (omega (arith, before)) (omega (arith, within))

head_differs : (one : Link) (links : List Link) (k : ℕ) (link : Link) → AllPairs DifferLinks (one ∷ links) → slice_get links k ≡ Some link → DifferLinks one link
head_differs one links k link pairs there =
    let within = slice_get_within links k link there in
    subst (DifferLinks one) (get_or_from_slice_get links k link one there) (pairs 0 (suc k) one (omega arith) (omega (arith, within)))

finds_link : (links : List Link) (k : ℕ) (link : Link) → AllPairs DifferLinks links → slice_get links k ≡ Some link
    → on (λ (one : Link). one.dest) (find (is_link_of link.source link.number) links) ≡ Some link.dest
finds_link [] k link pairs there = absurd cc
finds_link (one ∷ links) zero link pairs there =
    let same : one ≡ link = same_Some one link there in
    ap (λ (b : Bool). on (λ (x : Link). x.dest) (cond b (Some one) (find (is_link_of link.source link.number) links))) (ap (is_link_of link.source link.number) same ∙ itself_tested link)
    ∙ ap (λ (x : Link). Some x.dest) same
finds_link (one ∷ links) (suc k) link pairs there =
    ap (λ (b : Bool). on (λ (x : Link). x.dest) (cond b (Some one) (find (is_link_of link.source link.number) links))) (other_tested one link (head_differs one links k link pairs there))
    ∙ finds_link links k link (tail_differ one links pairs) there

link_is : (conf : Conf) → Fits (described conf) → (k : ℕ) (link : Link) → slice_get conf.links k ≡ Some link → link_of conf link.source link.number ≡ Some link.dest
unfolding described link_of
link_is conf fits k link there = finds_link conf.links k link fits.links_differ there

-- a link to another partition
linked_found : (conf : Conf) (q number dest : ℕ) → linked conf q number ≡ Some dest → (link_of conf q number ≡ Some dest) × ((dest == q) ≡ false)
unfolding linked
linked_found conf q number dest is = by (link_of conf q number) is
  where
    at : (one : ℕ) (b : Bool) → (one == q) ≡ b → (if b then None else Some one) ≡ Some dest → (Some one ≡ Some dest) × ((dest == q) ≡ false)
    at one true itself said = absurd cc
    at one false other said = (said, ap (λ n. n == q) (sym (same_Some one dest said)) ∙ other)

    by : (o : Option ℕ) → unless_itself q o ≡ Some dest → (o ≡ Some dest) × ((dest == q) ≡ false)
    by None said = absurd cc
    by (Some one) said = at one (one == q) refl said

linked_is : (conf : Conf) (q number dest : ℕ) → link_of conf q number ≡ Some dest → (dest == q) ≡ false → linked conf q number ≡ Some dest
unfolding linked
linked_is conf q number dest is other = ap (unless_itself q) is ∙ ap (λ (b : Bool). if b then None else Some dest) other

-- who hears of a signal: the partition at the other end of the link
its_signal : (conf : Conf) (p q number : ℕ) → linked conf q number ≡ Some p → heard_as conf p (Signals q number) ≡ OwnSignals number
its_signal conf p q number is = ap (λ o. own_signals_at (is_number o p) number) is ∙ ap (λ b. own_signals_at b number) itself
  where
    itself : (p == p) ≡ true
    itself = grind (arith)

pub no_signal : (conf : Conf) (p q number : ℕ) → (linked conf q number ≡ Some p → ⊥) → heard_as conf p (Signals q number) ≡ OwnStill
no_signal conf p q number none = by (linked conf q number) refl
  where
    at : (dest : ℕ) (b : Bool) → (dest == p) ≡ b → linked conf q number ≡ Some dest → own_signals_at b number ≡ OwnStill
    at dest true same is = absurd (none (is ∙ ap Some (eqb-true dest p same)))
    at dest false other is = refl

    by : (o : Option ℕ) → linked conf q number ≡ o → own_signals_at (is_number o p) number ≡ OwnStill
    by None is = refl
    by (Some dest) is = at dest (dest == p) refl is

-- a link to a member is the same in another configuration that has it
same_link : (members : Members) (one other : Conf) → Fits (described other) → HasLinksOf members other one → (p q number : ℕ) → members p ≡ true → linked one q number ≡ Some p
    → linked other q number ≡ Some p
same_link members one other fits links p q number member is =
    let found = linked_found one q number p is in
    let its = its_link one q number p found.0 in
    let there = links its.place its.link its.there (ap members its.dest_is ∙ member) in
    let goes : link_of other its.link.source its.link.number ≡ Some its.link.dest = link_is other fits there.place its.link there.there in
    linked_is other q number p
    (ap (λ source. link_of other source number) (sym its.source_is) ∙ ap (link_of other its.link.source) (sym its.number_is) ∙ goes ∙ ap Some its.dest_is)
    found.1

-- so a member hears the same of a signal in both
pub signals_alike : (members : Members) (one other : Conf) → Fits (described one) → Fits (described other) → HasLinksOf members other one → HasLinksOf members one other
    → (p q number : ℕ) → members p ≡ true → heard_as one p (Signals q number) ≡ heard_as other p (Signals q number)
signals_alike members one other fits fits_too links links_back p q number member = by (is_number (linked one q number) p) refl
  where
    by : (b : Bool) → is_number (linked one q number) p ≡ b → heard_as one p (Signals q number) ≡ heard_as other p (Signals q number)
    by true is =
        let its : linked one q number ≡ Some p = number_is (linked one q number) p is in
        its_signal one p q number its ∙ sym (its_signal other p q number (same_link members one other fits_too links p q number member its))
    by false apart =
        no_signal one p q number (λ its. fails its)
        ∙ sym (no_signal other p q number (λ its. fails (same_link members other one fits links_back p q number member its)))
      where
        fails : linked one q number ≡ Some p → ⊥
        fails its =
            let no : (p == p) ≡ false = sym (ap (λ o. is_number o p) its) ∙ apart in
            let yes_it_is : (p == p) ≡ true = grind (arith) in
            cc

-- a signal to a member comes over a link to it
pub its_source : (conf : Conf) (p q number : ℕ) → linked conf q number ≡ Some p → IsItsLink conf.links q number p
its_source conf p q number is = its_link conf q number p (linked_found conf q number p is).0
