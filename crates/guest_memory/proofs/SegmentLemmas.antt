-- The segments of an image inside the areas of a partition.
use Rattle.std.proofs.Common.{◌≡◌, ℕ, zero, suc, ◌+◌, ◌<◌, ◌≤◌, true, List, [], ◌∷◌, length, get_or, drop, sym, ap, ◌∙◌, subst, arith, add-one, drop-cons}
use Rattle.std.specs.Prelude.{Any}
use Rattle.std.specs.List.{AllByRecursion}
use Rattle.std.proofs.lemmas.List.Folds.{list_any-from_Any}
use Rattle.guest_bus.specs.Memory.{Area, Memory, all_from, holds_address, is_readable, with_bytes}
use Rattle.guest_bus.specs.lemmas.MemoryLemmas.{all_from-true}
use Rattle.xef_images.specs.Image.{Image, IsImage, IsSegment, Segment}
use Rattle.guest_memory.specs.Loading.{HoldsSegment, LiesInAreas, with_segments}
use Rattle.guest_memory.proofs.AreaLemmas.{covers_at}

-- what holds of each segment holds of one
one_of : (xs : List Segment) (i : ℕ) (x : Segment) → AllByRecursion IsSegment xs → i < length xs → x ≡ get_or xs i x → IsSegment x
one_of [] i x all below is = absurd (omega arith)
one_of (y ∷ xs) zero x all below is = rw is all.0
one_of (y ∷ xs) (suc i) x all below is = one_of xs i x all.1 (omega arith) is

-- the bytes of a segment stand in the areas
pub segment_readable : (areas : List Area) (segment : Segment) → Any (HoldsSegment segment) areas → length segment.bytes ≤ segment.memory → all_from (is_readable areas) segment.address (length segment.bytes) ≡ true
segment_readable areas segment some fits =
    all_from-true (is_readable areas) segment.address (length segment.bytes) (λ q from under.
    list_any-from_Any (holds_address q) areas (some.0, some.1, some.2, some.3, covers_at some.1 q (start q from) (end q under)))
  where
    start : (q : ℕ) → segment.address ≤ q → some.1.start ≤ q
    start q from = let has : HoldsSegment segment some.1 = some.4 in omega (arith, has.start)

    end : (q : ℕ) → q < segment.address + length segment.bytes → q < some.1.start + some.1.size
    end q under = let has : HoldsSegment segment some.1 = some.4 in omega (arith, has.end)

-- the segment of a number
pub segment_at : (image : Image) (i : ℕ) (segment : Segment) → IsImage image → i < length image.segments → segment ≡ get_or image.segments i segment → IsSegment segment
segment_at image i segment is below e = one_of image.segments i segment is.each below e

-- one segment more
pub segments_more : (m : Memory) (segments : List Segment) (i : ℕ) (segment : Segment) → i < length segments → segment ≡ get_or segments i segment
    → with_segments m (drop i segments) ≡ with_segments (with_bytes m segment.address segment.bytes) (drop (suc i) segments)
segments_more m segments i segment below is =
    ap (with_segments m) (drop-cons segments i segment below)
    ∙ ap (λ (s : Segment). with_segments (with_bytes m s.address s.bytes) (drop (suc i) segments)) (sym is)

-- the bytes of the segment of a number stand in the areas
pub segment_allowed : (areas : List Area) (image : Image) (segments : List Segment) (i : ℕ) (segment : Segment) → segments ≡ image.segments → LiesInAreas areas image → IsImage image → i < length segments → segment ≡ get_or segments i segment
    → all_from (is_readable areas) segment.address (length segment.bytes) ≡ true
segment_allowed areas image segments i segment same inside is below e =
    let here : segment ≡ get_or image.segments i segment = e ∙ ap (λ (xs : List Segment). get_or xs i segment) same in
    let within : i < length image.segments = rw same at below in
    let some : Any (HoldsSegment segment) areas = subst (λ (s : Segment). Any (HoldsSegment s) areas) (sym here) (inside i segment within) in
    let sized = segment_at image i segment is within here in
    segment_readable areas segment some sized.fits

-- the memory with one segment more
pub segments_on : (segments all : List Segment) (i : ℕ) (segment : Segment) (m n : Memory) (address : ℕ) (bytes : List ℕ) → segments ≡ all → i < length segments → segment ≡ get_or segments i segment
    → address ≡ segment.address → bytes ≡ segment.bytes → n ≡ with_bytes m address bytes → with_segments n (drop (i + 1) all) ≡ with_segments m (drop i all)
segments_on segments all i segment m n address bytes same below e at bytes_are written =
    let here : segment ≡ get_or all i segment = e ∙ ap (λ (xs : List Segment). get_or xs i segment) same in
    let within : i < length all = rw same at below in
    let more = segments_more m all i segment within here in
    let put : n ≡ with_bytes m segment.address segment.bytes = written ∙ ap (λ (a : ℕ). with_bytes m a bytes) at ∙ ap (with_bytes m segment.address) bytes_are in
    ap (λ (k : Memory). with_segments k (drop (i + 1) all)) put ∙ rw add-one (sym more)
