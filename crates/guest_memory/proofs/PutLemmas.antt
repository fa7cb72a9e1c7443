-- Where a range ends that is in areas.
use Rattle.std.proofs.Common.{◌≡◌, ℕ, zero, suc, ◌+◌, ◌<◌, ◌≤◌, ◌^◌, Bool, true, false, ◌||◌, List, [], ◌∷◌, refl, arith}
use Rattle.std.specs.Prelude.{nat_le, nat_lt}
use Rattle.std.specs.Prelude.{All}
use Rattle.std.proofs.lemmas.Bool.{and_parts}
use Rattle.std.proofs.lemmas.Bool.Decides.{nat_tests}
use Rattle.guest_bus.specs.Memory.{Area, all_from, holds_address, is_readable}
use Rattle.guest_memory.specs.Memories.{ArePlaced, IsPlaced}

-- an address in an area is below the end of all addresses
readable_below : (areas : List Area) (address : ℕ) → All IsPlaced areas → is_readable areas address ≡ true → address < 2 ^ 32
readable_below [] address placed none = absurd cc
readable_below (area ∷ areas) address placed some =
    at (holds_address address area) refl some (readable_below areas address (λ i d below. placed (suc i) d (omega (arith, below))))
  where
    at : (b : Bool) → holds_address address area ≡ b → (b || is_readable areas address) ≡ true → (is_readable areas address ≡ true → address < 2 ^ 32) → address < 2 ^ 32
    at true has is later =
        let parts = and_parts (nat_le area.start address) (nat_lt address (area.start + area.size)) has in
        grind (arith, nat_tests, parts.1, (placed 0 area (omega arith)).ends)
    at false none is later = later is

-- a range in areas ends at or below it
pub range_ends : (areas : List Area) (address count : ℕ) → ArePlaced areas → address ≤ 2 ^ 32 → all_from (is_readable areas) address count ≡ true → address + count ≤ 2 ^ 32
range_ends areas address zero placed low all = omega (arith, low)
range_ends areas address (suc count) placed low all =
    let parts = and_parts (is_readable areas address) (all_from (is_readable areas) (suc address) count) all in
    omega (arith, range_ends areas (suc address) count placed (omega (arith, readable_below areas address placed.each parts.0)) parts.1)
