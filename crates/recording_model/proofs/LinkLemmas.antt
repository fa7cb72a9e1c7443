-- The partition that a signal of another one goes to: a link goes to it, of the number that it receives.
use Rattle.std.proofs.Common.{◌≡◌, ℕ, ◌<◌, Bool, true, false, List, [], ◌∷◌, length, None, Some, refl, arith, subst}
use Rattle.std.specs.Prelude.{◌==◌, ◌&&◌, ◌||◌, if◌then◌else◌, nat_lt, All}
use Rattle.std.specs.List.{find, list_any}
use Rattle.std.proofs.lemmas.Bool.{eqb-true}
use Rattle.std.proofs.lemmas.Bool.Decides.{nat_tests}
use Rattle.std.proofs.lemmas.List.Elements.{All-head, All-tail}
use Rattle.xm_base.specs.Options.{on}
use Rattle.xm_conf.specs.Configuration.{Conf}
use Rattle.xm_conf.specs.Description.{described}
use Rattle.xm_conf.specs.Fits.{Fits, IsLink}
use Rattle.xm_conf.specs.View.{is_link_of, link_of}
use Rattle.xm_conf.specs.declared.link.Link.{Link}
use Rattle.machine_model.specs.Lists.{is_number}
use Rattle.machine_model.specs.Emission.{OwnSignals}
use Rattle.machine_model.specs.Traffic.{heard_as, own_signals_at, traffic_as}
use Rattle.machine_model.specs.View.{linked, unless_itself}
use Rattle.cue_scripts.specs.Script.{CanHear, signals}

-- a link of this number goes to partition p
abbrev goes_to : ℕ → ℕ → Link → Bool
goes_to p number link = link.dest == p && link.number == number

record Reaches (p number : ℕ) (links : List Link) : Type 0 where
  small : number < 8
  among : list_any (goes_to p number) links ≡ true

-- where the first link of a partition and a number goes
dest_reached : (p other dest : ℕ) → is_number (unless_itself other (Some dest)) p ≡ true → (dest == p) ≡ true
dest_reached p other dest is = at (dest == other) is
  where
    at : (b : Bool) → is_number (if b then None else Some dest) p ≡ true → (dest == p) ≡ true
    at true said = absurd cc
    at false said = said

later_goes : (p number : ℕ) (link : Link) (links : List Link) → list_any (goes_to p number) links ≡ true → list_any (goes_to p number) (link ∷ links) ≡ true
later_goes p number link links is = at (goes_to p number link)
  where
    at : (b : Bool) → (b || list_any (goes_to p number) links) ≡ true
    at true = refl
    at false = is

reached_among : (parts p other number : ℕ) (links : List Link) → All (IsLink parts) links
    → is_number (unless_itself other (on (λ link. link.dest) (find (is_link_of other number) links))) p ≡ true → Reaches p number links
unfolding is_link_of
reached_among parts p other number [] each is = absurd cc
reached_among parts p other number (link ∷ links) each is =
    by (link.source == other) (link.number == number) refl refl is (reached_among parts p other number links (All-tail (IsLink parts) link links each))
  where
    by : (a b : Bool) → (link.source == other) ≡ a → (link.number == number) ≡ b
        → is_number (unless_itself other (on (λ one. one.dest) (if a && b then Some link else find (is_link_of other number) links))) p ≡ true
        → (is_number (unless_itself other (on (λ one. one.dest) (find (is_link_of other number) links))) p ≡ true → Reaches p number links) → Reaches p number (link ∷ links)
    by true true source same said further =
        let low : link.number < 8 = (All-head (IsLink parts) link links each).number in
        let goes : (link.dest == p) ≡ true = dest_reached p other link.dest said in
        record { small = subst (λ (n : ℕ). n < 8) (eqb-true link.number number same) low; among = rw (goes, same) refl }
    by true false source differ said further = let more = further said in record { small = more.small; among = later_goes p number link links more.among }
    by false b source same said further = let more = further said in record { small = more.small; among = later_goes p number link links more.among }

signals_so : (conf : Conf) (p number : ℕ) → Reaches p number conf.links → signals conf p number ≡ true
unfolding signals
signals_so conf p number its =
    let small : number < 8 = its.small in
    let low : nat_lt number 8 ≡ true = grind (arith, nat_tests, small) in
    rw low its.among

link_reached : (conf : Conf) (p other number : ℕ) → Fits (described conf) → is_number (linked conf other number) p ≡ true → Reaches p number conf.links
unfolding described link_of linked
link_reached conf p other number fits is = reached_among (length conf.parts) p other number conf.links fits.links_suit is

-- a signal of another partition that a partition hears came over a link to it
pub signal_heard : (conf : Conf) (p other number : ℕ) → Fits (described conf) → CanHear conf p (heard_as conf p (traffic_as conf other (OwnSignals number)))
signal_heard conf p other number fits = at (is_number (linked conf other number) p) refl
  where
    at : (b : Bool) → is_number (linked conf other number) p ≡ b → CanHear conf p (own_signals_at b number)
    at true is = let its = link_reached conf p other number fits is in (its.small, signals_so conf p number its)
    at false is = tt
