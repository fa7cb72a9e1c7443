-- A partition's links in its view and in the configuration, and its own signals.
use Rattle.std.specs.Prelude.{◌≡◌, ℕ, ◌==◌, ◌&&◌, Bool, true, false, if◌then◌else◌, List, [], ◌∷◌, Option, Some, None, is_some}
use Rattle.std.specs.List.{find}
use Rattle.std.proofs.Common.{refl, ap}
use Rattle.xm_base.specs.Options.{on}
use Rattle.xm_conf.specs.Configuration.{Conf}
use Rattle.xm_conf.specs.View.{is_link_of, link_of}
use Rattle.xm_conf.specs.declared.link.Link.{Link}
use Rattle.machine_model.specs.Lists.{is_number}
use Rattle.machine_model.specs.Emission.{OwnSignals, OwnStill}
use Rattle.machine_model.specs.Traffic.{heard_as, own_signals_at, traffic_as}
use Rattle.machine_model.specs.View.{System, has_number, linked, numbers_of, unless_itself, view_of}

-- a number is one of the partition's exactly where a link of the partition has it
found_number : (p number : ℕ) (links : List Link) → has_number (numbers_of p links) number ≡ is_some (on (λ link. link.dest) (find (is_link_of p number) links))
unfolding is_link_of
found_number p number [] = refl
found_number p number (link ∷ links) = by (link.source == p) (link.number == number) refl refl (found_number p number links)
  where
    by : (a b : Bool) → (link.source == p) ≡ a → (link.number == number) ≡ b
        → has_number (numbers_of p links) number ≡ is_some (on (λ link. link.dest) (find (is_link_of p number) links))
        → has_number (if link.source == p then link.number ∷ numbers_of p links else numbers_of p links) number
        ≡ is_some (on (λ link. link.dest) (if link.source == p && link.number == number then Some link else find (is_link_of p number) links))
    by true true its same further = rw (its, same) refl
    by true false its other further = rw (its, other) further
    by false b others is further = rw (others) further

pub has_link : (system : System) (p number : ℕ) → has_number (view_of system p).links number ≡ is_some (link_of system.conf p number)
unfolding link_of view_of
has_link system p number = found_number p number system.conf.links

-- a partition hears no signal of its own, since its link goes to another one
itself_apart : (p : ℕ) (o : Option ℕ) → is_number (unless_itself p o) p ≡ false
itself_apart p None = refl
itself_apart p (Some dest) = at (dest == p) refl
  where
    at : (b : Bool) → (dest == p) ≡ b → is_number (if b then None else Some dest) p ≡ false
    at true same = refl
    at false other = other

pub own_signal : (conf : Conf) (p number : ℕ) → heard_as conf p (traffic_as conf p (OwnSignals number)) ≡ OwnStill
unfolding linked
own_signal conf p number = ap (λ b. own_signals_at b number) (itself_apart p (link_of conf p number))
