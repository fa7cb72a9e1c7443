-- What sorting by address keeps.
use Rattle.std.proofs.Common.{◌≡◌, ◌+◌, Bool, true, false, cond, List, [], ◌∷◌, length, refl, arith}
use Rattle.std.specs.Prelude.{nat_le}
use Rattle.std.specs.List.{AllByRecursion}
use Rattle.xef_images.specs.Image.{Segment}
use Rattle.xef_images.specs.Elf.{inserted_by_address, sorted}

-- what holds of a segment and of the others holds of all when it is put among them
pub all_among : (P : Segment → Type 0) (segment : Segment) (others : List Segment) → P segment → AllByRecursion P others → AllByRecursion P (inserted_by_address segment others)
all_among P segment [] one all = (one, tt)
all_among P segment (other ∷ others) one all = at (nat_le segment.address other.address) (all_among P segment others one all.1)
  where
    at : (test : Bool) → AllByRecursion P (inserted_by_address segment others) → AllByRecursion P (cond test (segment ∷ other ∷ others) (other ∷ inserted_by_address segment others))
    at true more = (one, all)
    at false more = (all.0, more)

-- what holds of all segments holds of them when they are sorted
pub all_sorted : (P : Segment → Type 0) (segments : List Segment) → AllByRecursion P segments → AllByRecursion P (sorted segments)
all_sorted P [] all = tt
all_sorted P (segment ∷ others) all = all_among P segment (sorted others) all.0 (all_sorted P others all.1)

-- one more stands among the others
length-among : (segment : Segment) (others : List Segment) → length (inserted_by_address segment others) ≡ length others + 1
length-among segment [] = refl
length-among segment (other ∷ others) = at (nat_le segment.address other.address) (length-among segment others)
  where
    at : (test : Bool) → length (inserted_by_address segment others) ≡ length others + 1 → length (cond test (segment ∷ other ∷ others) (other ∷ inserted_by_address segment others)) ≡ length (other ∷ others) + 1
    at true more = omega arith
    at false more = omega (arith, more)

-- there are as many when they are sorted
pub length-sorted : (segments : List Segment) → length (sorted segments) ≡ length segments
length-sorted [] = refl
length-sorted (segment ∷ others) = omega (arith, length-among segment (sorted others), length-sorted others)
