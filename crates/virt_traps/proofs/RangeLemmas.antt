-- Ranges of addresses of which each is allowed.
use Rattle.std.specs.Prelude.{◌≡◌, ℕ, ◌+◌, ◌%◌, ◌^◌, ◌≤◌, ◌==◌, nat_le, Bool, true, false, ◌&&◌, ◌||◌, not, List, [], ◌∷◌}
use Rattle.std.proofs.Common.{refl, arith, ⊎_elim}
use Rattle.std.proofs.lemmas.Bool.{and_parts, cases_lt, leb-true}
use Rattle.std.proofs.lemmas.Bool.Decides.{nat_tests}
use Rattle.guest_bus.specs.Memory.{Area, holds_address, is_readable, is_writable}
use Rattle.guest_bus.specs.Words.{allows}
use Rattle.virt_traps.specs.lemmas.SaveAreaTerms.{allowed_for}
use Rattle.virt_traps.specs.SaveArea.{is_usable}
use Rattle.virt_traps.specs.declared.windows.WindowMove.{WindowMove}
use Rattle.virt_traps.specs.declared.windows.WindowMove.TheVariants.{Spill, Fill}
use Rattle.guest_bus.specs.lemmas.MemoryLemmas.{all_from-each, all_from-true}

-- a part of a range that is allowed is allowed
pub part : (allowed : ℕ → Bool) (address count place size : ℕ) → allows allowed address count ≡ true → address ≤ place → place + size ≤ address + count → allows allowed place size ≡ true
unfolding allows
part allowed address count place size passes over under =
    all_from-true allowed place size (λ q from below. all_from-each allowed address count q passes (omega arith) (omega arith))

-- a range with a part that is not allowed is not
pub refused_part : (allowed : ℕ → Bool) (address count place size : ℕ) → allows allowed place size ≡ false → address ≤ place → place + size ≤ address + count → allows allowed address count ≡ false
refused_part allowed address count place size refused over under = at (allows allowed address count) refl
  where
    at : (passes : Bool) → allows allowed address count ≡ passes → passes ≡ false
    at false is = refl
    at true is = let passes = part allowed address count place size is over under in cc

-- a range that goes on where another ends
pub joined : (allowed : ℕ → Bool) (address count size whole : ℕ) → allows allowed address count ≡ true → allows allowed (address + count) size ≡ true → whole ≡ count + size → allows allowed address whole ≡ true
unfolding allows
joined allowed address count size whole first second is =
    all_from-true allowed address whole (λ q over under. ⊎_elim (λ below. all_from-each allowed address count q first over below) (λ from. all_from-each allowed (address + count) size q second from (omega arith)) (cases_lt q (address + count)))

-- what may be written of one area or of the others may be read
or_readable : (first other : Bool) (area : Bool) (others : Bool) → (first ≡ true → area ≡ true) → (other ≡ true → others ≡ true) → (first || other) ≡ true → (area || others) ≡ true
or_readable true other true others one two is = refl
or_readable true other false others one two is = let e = one refl in absurd (no_false e)
  where
    no_false : false ≡ true → ⊥
    no_false e = cc
or_readable false other true others one two is = refl
or_readable false other false others one two is = two is

-- a byte that may be written may be read
pub readable : (areas : List Area) (q : ℕ) → is_writable areas q ≡ true → is_readable areas q ≡ true
readable [] q is = is
readable (area ∷ areas) q is =
    or_readable (holds_address q area && not area.read_only) (is_writable areas q) (holds_address q area) (is_readable areas q) (λ both. (and_parts (holds_address q area) (not area.read_only) both).0)
    (readable areas q) is

-- bytes that may be written may be read
pub all_readable : (areas : List Area) (address count : ℕ) → allows (is_writable areas) address count ≡ true → allows (is_readable areas) address count ≡ true
unfolding allows
all_readable areas address count writable =
    all_from-true (is_readable areas) address count (λ q over under. readable areas q (all_from-each (is_writable areas) address count q writable over under))

-- bytes that may not be read may not be written
none_writable : (areas : List Area) (address count : ℕ) → allows (is_readable areas) address count ≡ false → allows (is_writable areas) address count ≡ false
none_writable areas address count refused = at (allows (is_writable areas) address count) refl
  where
    at : (passes : Bool) → allows (is_writable areas) address count ≡ passes → passes ≡ false
    at false is = refl
    at true is = let passes = all_readable areas address count is in cc

-- bytes that may not be read may be used for no move of a window
pub none_allowed : (which : WindowMove) (areas : List Area) (address count : ℕ) → allows (is_readable areas) address count ≡ false → allows (allowed_for which areas) address count ≡ false
none_allowed Spill areas address count refused = none_writable areas address count refused
none_allowed Fill areas address count refused = refused

-- no bytes are all allowed
pub allows_none : (allowed : ℕ → Bool) (address : ℕ) → allows allowed address 0 ≡ true
unfolding allows
allows_none allowed address = refl

-- what it is that an address can be that of a save area
pub record Usable (allowed : ℕ → Bool) (address : ℕ) : Type 0 where
  pub aligned : address % 8 ≡ 0
  pub inside : address + 64 ≤ 2 ^ 32
  pub bytes : allows allowed address 64 ≡ true

pub usable : (allowed : ℕ → Bool) (address : ℕ) → is_usable allowed address ≡ true → Usable allowed address
unfolding is_usable
usable allowed address is =
    let parts = and_parts (address % 8 == 0) (nat_le (address + 64) (2 ^ 32) && allows allowed address 64) is in
    let others = and_parts (nat_le (address + 64) (2 ^ 32)) (allows allowed address 64) parts.1 in
    let multiple : (address % 8 == 0) ≡ true = parts.0 in
    record { aligned = grind (arith, nat_tests); inside = leb-true _ _ others.0; bytes = others.1 }
