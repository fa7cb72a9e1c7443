-- What is left of a room along a list.
use Rattle.std.proofs.Common.{◌≡◌, ℕ, ◌+◌, ◌-◌, ◌<◌, ◌≤◌, Bool, true, false, nat_le, if◌then◌else◌, List, length, get_or, drop, sum_by, Option, Some, None, is_some, refl, sym, ◌∙◌, ap, arith}
use Rattle.std.proofs.lemmas.Bool.Decides.{nat_tests}
use Rattle.std.proofs.lemmas.List.{at_drop_all}
use Rattle.std.proofs.lemmas.List.Sums.{sum_by-drop_more}
use Rattle.xm_conf.specs.lemmas.Room.{room_after}

-- what two take one after the other
pub room_after-add : (room a b left : ℕ) → Some left ≡ room_after room a → room_after room (a + b) ≡ room_after left b
room_after-add room a b left first = grind (arith, nat_tests)

-- what is too much stays so
pub room_after-none : (room a b : ℕ) → None ≡ room_after room a → None ≡ room_after room (a + b)
room_after-none room a b first = grind (arith, nat_tests)

-- an element for which there is room
pub room_goes_on : {X : Type 0} (f : X → ℕ) (xs : List X) (n : ℕ) (d x : X) (room left : ℕ) (r : Option ℕ) → n < length xs → x ≡ get_or xs n d
    → Some left ≡ room_after room (f x) → room_after room (sum_by f (drop n xs)) ≡ r → room_after left (sum_by f (drop (n + 1) xs)) ≡ r
room_goes_on f xs n d x room left r below is value sofar =
    sym (room_after-add room (f x) (sum_by f (drop (n + 1) xs)) left value)
    ∙ ap (λ y. room_after room (f y + sum_by f (drop (n + 1) xs))) is
    ∙ ap (room_after room) (sym (sum_by-drop_more f xs n d below))
    ∙ sofar

-- an element for which there is none
pub room_stops : {X : Type 0} (f : X → ℕ) (xs : List X) (n : ℕ) (d x : X) (room : ℕ) (r : Option ℕ) → n < length xs → x ≡ get_or xs n d
    → None ≡ room_after room (f x) → room_after room (sum_by f (drop n xs)) ≡ r → None ≡ r
room_stops f xs n d x room r below is value sofar =
    room_after-none room (f x) (sum_by f (drop (n + 1) xs)) value
    ∙ ap (λ y. room_after room (f y + sum_by f (drop (n + 1) xs))) is
    ∙ ap (room_after room) (sym (sum_by-drop_more f xs n d below))
    ∙ sofar

-- nothing takes nothing
pub room_after-zero : (room : ℕ) → Some room ≡ room_after room 0
room_after-zero room = grind (arith, nat_tests)

-- after the last element
pub room_ends : {X : Type 0} (f : X → ℕ) (xs : List X) (n : ℕ) (room : ℕ) (r : Option ℕ) → length xs ≤ n → room_after room (sum_by f (drop n xs)) ≡ r → Some room ≡ r
room_ends f xs n room r past sofar =
    room_after-zero room ∙ sym (at_drop_all (λ rest. room_after room (sum_by f rest)) xs n past) ∙ sofar

-- the outcome of a loop that takes from a room
pub ruleset room_loop = (room_goes_on, room_stops, room_ends)

-- there is something left exactly where there is room
pub has_room : (room taken : ℕ) → is_some (room_after room taken) ≡ nat_le taken room
has_room room taken = at (nat_le taken room)
  where
    at : (b : Bool) → is_some (if b then Some (room - taken) else None) ≡ b
    at true = refl
    at false = refl
