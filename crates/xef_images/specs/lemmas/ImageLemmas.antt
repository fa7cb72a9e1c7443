-- What an image is, is decided by its tests.
use Rattle.std.specs.Prelude.{◌≡◌, ℕ, ◌%◌, ◌^◌, ◌<◌, ◌≤◌, nat_le, nat_lt, List, [], ◌∷◌, length}
use Rattle.std.specs.Bool.{Decides}
use Rattle.std.specs.List.{AllByRecursion}
use Rattle.std.proofs.Common.{refl, arith}
use Rattle.std.proofs.lemmas.Bool.Decides.{Decides-and, Decides-or, Decides-eqb, Decides-like, nat_tests}
use Rattle.xef_images.specs.Image.{Image, Segment, end_of, IsSegment, SegmentsApart, HasAddress, IsInside, IsImage, xef_length}
use Rattle.xef_images.specs.Tests.{is_covered, is_in_memory, is_entry}
use Rattle.xef_images.specs.lemmas.TestsTerms.{is_placed, are_placed, is_image}

-- the order of numbers is decided
pub Decides-nat_le : (a b : ℕ) → Decides (nat_le a b) (a ≤ b)
Decides-nat_le a b = grind (arith, nat_tests)

-- the strict order of numbers is decided
pub Decides-nat_lt : (a b : ℕ) → Decides (nat_lt a b) (a < b)
Decides-nat_lt a b = grind (arith, nat_tests)

-- segments stand one after the other, the first of them after the floor
abbrev pub SegmentsRiseFrom : ℕ → List Segment → Type 0
SegmentsRiseFrom floor [] = Unit {0}
SegmentsRiseFrom floor (segment ∷ later) = ((floor ≤ segment.address) × IsSegment segment) × SegmentsRiseFrom (end_of segment) later

-- none of them begins before the floor
abbrev pub AreAbove : ℕ → List Segment → Type 0
AreAbove floor segments = AllByRecursion (λ segment. floor ≤ segment.address) segments

-- a lower floor
pub above_lower : (low floor : ℕ) (segments : List Segment) → low ≤ floor → AreAbove floor segments → AreAbove low segments
above_lower low floor [] lower above = tt
above_lower low floor (segment ∷ later) lower above = (omega (arith, above.0), above_lower low floor later lower above.1)

-- segments that are apart stand one after the other
pub rise_from_apart : (floor : ℕ) (segments : List Segment) → AllByRecursion IsSegment segments → SegmentsApart segments → AreAbove floor segments → SegmentsRiseFrom floor segments
rise_from_apart floor [] each apart above = tt
rise_from_apart floor (segment ∷ later) each apart above =
    ((above.0, each.0), rise_from_apart (end_of segment) later each.1 apart.1 apart.0)

-- what rises
pub record Risen (floor : ℕ) (segments : List Segment) : Type 0 where
  pub each : AllByRecursion IsSegment segments
  pub apart : SegmentsApart segments
  pub above : AreAbove floor segments

-- segments that stand one after the other are apart
pub apart_from_rise : (floor : ℕ) (segments : List Segment) → SegmentsRiseFrom floor segments → Risen floor segments
apart_from_rise floor [] rise = record { each = tt; apart = tt; above = tt }
apart_from_rise floor (segment ∷ later) rise =
    let rest = apart_from_rise (end_of segment) later rise.1 in
    record {
      each = (rise.0.1, rest.each);
      apart = (rest.above, rest.apart);
      above = (rise.0.0, above_lower floor (end_of segment) later (omega (arith, rise.0.0)) rest.above);
    }

-- no segment begins before address 0
pub above_nothing : (segments : List Segment) → AreAbove 0 segments
above_nothing [] = tt
above_nothing (segment ∷ later) = (omega arith, above_nothing later)

-- whether a segment may stand after the floor is decided
pub is_placed-Decides : (floor : ℕ) (segment : Segment) → Decides (is_placed floor segment) ((floor ≤ segment.address) × IsSegment segment)
is_placed-Decides floor segment =
    Decides-like (is_placed floor segment)
    (λ t. (t.0.0.0.0, record { some = t.0.0.0.1; said = t.0.0.1; ends = t.0.1; fits = t.1 }))
    (λ p. ((((p.0, p.1.some), p.1.said), p.1.ends), p.1.fits))
    (Decides-and _ _ (Decides-and _ _ (Decides-and _ _ (Decides-and _ _ (Decides-nat_le floor segment.address) (Decides-nat_le 1 segment.memory))
    (Decides-nat_lt segment.memory (2 ^ 32))) (Decides-nat_le (end_of segment) (2 ^ 32))) (Decides-nat_le (length segment.bytes) segment.memory))

-- whether segments stand one after the other is decided
pub are_placed-Decides : (floor : ℕ) (segments : List Segment) → Decides (are_placed floor segments) (SegmentsRiseFrom floor segments)
are_placed-Decides floor [] = (λ _. tt, λ _. refl)
are_placed-Decides floor (segment ∷ later) =
    Decides-and _ _ (is_placed-Decides floor segment) (are_placed-Decides (end_of segment) later)

-- whether an address is in the memory of a segment is decided
pub is_covered-Decides : (address : ℕ) (segment : Segment) → Decides (is_covered address segment) (HasAddress address segment)
is_covered-Decides address segment = Decides-and _ _ (Decides-nat_le segment.address address) (Decides-nat_lt address (end_of segment))

-- whether an address is in the memory of one of the segments is decided
pub is_inside-Decides : (address : ℕ) (segments : List Segment) → Decides (is_in_memory address segments) (IsInside address segments)
is_inside-Decides address [] = (λ e. absurd cc, λ e. absurd e)
is_inside-Decides address (segment ∷ others) =
    Decides-or _ _ (is_covered-Decides address segment) (is_inside-Decides address others)

-- whether an image may start at an address is decided
pub is_entry-Decides : (address : ℕ) (segments : List Segment) → Decides (is_entry address segments) ((address % 4 ≡ 0) × IsInside address segments)
is_entry-Decides address segments = Decides-and _ _ (Decides-eqb (address % 4) 0) (is_inside-Decides address segments)

-- an image by the parts that are tested
pub image_from_parts : (image : Image) → 1 ≤ length image.segments → length image.segments ≤ 8 → SegmentsRiseFrom 0 image.segments → (image.entry % 4 ≡ 0) × IsInside image.entry image.segments → xef_length image.segments < 2 ^ 32 → IsImage image
image_from_parts image some most rise entry short =
    let risen = apart_from_rise 0 image.segments rise in
    record { some = some; most = most; each = risen.each; apart = risen.apart; aligned = entry.0; inside = entry.1; short = short }

-- whether this is an image is decided
pub is_image-Decides : (image : Image) → Decides (is_image image) (IsImage image)
is_image-Decides image =
    Decides-like (is_image image)
    (λ t. image_from_parts image t.0.0.0.0 t.0.0.0.1 t.0.0.1 t.0.1 (omega (arith, t.1)))
    (λ i. ((((i.some, i.most), rise_from_apart 0 image.segments i.each i.apart (above_nothing image.segments)), (i.aligned, i.inside)), omega (arith, i.short)))
    (Decides-and _ _ (Decides-and _ _ (Decides-and _ _ (Decides-and _ _ (Decides-nat_le 1 (length image.segments)) (Decides-nat_le (length image.segments) 8))
    (are_placed-Decides 0 image.segments)) (is_entry-Decides image.entry image.segments)) (Decides-nat_le (xef_length image.segments) 4294967295))
