-- What is read of a program file is an image.
use Rattle.std.proofs.Common.{◌≡◌, ℕ, zero, suc, ◌+◌, ◌^◌, ◌<◌, ◌≤◌, Bool, true, false, cond, List, [], ◌∷◌, ◌++◌, length, take, drop, Option, Some, None, Result, Ok, Err, refl, subst, arith}
use Rattle.std.specs.Prelude.{nat_le, nat_lt, ◌==◌, not, ◌||◌}
use Rattle.std.specs.List.{AllByRecursion}
use Rattle.std.proofs.lemmas.Bool.{ltb-false}
use Rattle.std.proofs.lemmas.Bool.Decides.{Decides-and, Decides-eqb, nat_tests}
use Rattle.std.proofs.lemmas.List.{length-append, length-take}
use Rattle.xm_base.specs.Bytes.{AreBytes}
use Rattle.xm_base.specs.declared.limits.TheConstants.{FILE_BYTES}
use Rattle.xef_images.specs.Image.{Image, Segment, end_of, xef_length, IsSegment, IsImage}
use Rattle.xef_images.specs.lemmas.ImageLemmas.{SegmentsRiseFrom, Decides-nat_lt, image_from_parts, is_entry-Decides}
use Rattle.xef_images.specs.Tests.{is_entry}
use Rattle.file_headers.specs.lemmas.FieldLemmas.{AreBytes-drop, AreBytes-take, wide32}
use Rattle.file_headers.specs.lemmas.StepLemmas.{stepped, ok_is, led_on}
use Rattle.xef_images.proofs.SortLemmas.{all_sorted, length-sorted}
use Rattle.file_headers.specs.Steps.{◌>>=◌}
use Rattle.xef_images.specs.Elf.{elf_word, header_count, header_at, is_loaded, is_cut, segment_of, segment_from, load_at, loads, sorted, overlap, overlap_fault, verdict, elf}
use Rattle.xef_images.specs.declared.header.Header.{Header}
use Rattle.fault_messages.specs.declared.fault.ElfFault.{ElfFault}
use Rattle.fault_messages.specs.declared.fault.ElfFault.TheVariants as fault

-- a number of four bytes is a word's
word_below : (bytes : List ℕ) (place : ℕ) → AreBytes bytes → elf_word bytes place < 2 ^ 32
word_below bytes place each = wide32.below (take 4 (drop place bytes)) (AreBytes-take 4 (drop place bytes) (AreBytes-drop place bytes each))

-- neither of two tests
neither : (one two : Bool) → (one || two) ≡ false → (one ≡ false) × (two ≡ false)
neither true two e = absurd cc
neither false two e = (refl, e)

-- what holds of two lists holds of both together
all_both : (P : Segment → Type 0) (xs ys : List Segment) → AllByRecursion P xs → AllByRecursion P ys → AllByRecursion P (xs ++ ys)
all_both P [] ys first second = second
all_both P (x ∷ xs) ys first second = (first.0, all_both P xs ys first.1 second)

-- segments that were loaded after this many others: each may be, and there are 8 together
pub record AreLoaded (before : ℕ) (segments : List Segment) : Type 0 where
  pub each : AllByRecursion IsSegment segments
  pub most : before + length segments ≤ 8

-- what a header loads may be loaded
segment_from_takes : (bytes : List ℕ) (before : ℕ) (header : Header) (segment : Segment) → header.memory < 2 ^ 32 → 0 < header.memory → segment_from bytes before header ≡ Ok segment → IsSegment segment × (before < 8)
unfolding segment_from
segment_from_takes bytes before header segment said some e =
    let a = led_on (nat_lt header.memory header.count) (fault.Size header.place) _ segment e in
    let b = led_on (nat_lt (2 ^ 32) (header.address + header.memory) || nat_le 8 before) (fault.Limit header.place) _ segment a.1 in
    let c = led_on (is_cut bytes header) (fault.Short header.offset) _ segment b.1 in
    let both = neither (nat_lt (2 ^ 32) (header.address + header.memory)) (nat_le 8 before) b.0 in
    let few : before < 8 = grind (arith, nat_tests, both.1) in (
      subst (λ (s : Segment). IsSegment s) (ok_is (segment_of bytes header) segment c.1)
          (record {
            some = some;
            said = said;
            ends = ltb-false (2 ^ 32) (header.address + header.memory) both.0;
            fits = omega (arith, ltb-false header.memory header.count a.0, length-take header.count (drop header.offset bytes));
          }),
      few,
    )

-- what the header at a place loads may be loaded
load_at_takes : (bytes : List ℕ) (before place : ℕ) (first : List Segment) → AreBytes bytes → before ≤ 8 → load_at bytes before place ≡ Ok first → AreLoaded before first
unfolding load_at header_at
load_at_takes bytes before place first each few e =
    let a = led_on (nat_lt (length bytes) (place + 32)) (fault.Short place) _ first e in
    at (is_loaded (header_at bytes place)) refl a.1
  where
    at : (test : Bool) → is_loaded (header_at bytes place) ≡ test → cond test (segment_from bytes before (header_at bytes place) >>= λ segment. Ok (segment ∷ [])) (Ok []) ≡ Ok first → AreLoaded before first
    at true is led =
        let s = stepped (segment_from bytes before (header_at bytes place)) (λ segment. Ok (segment ∷ [])) first led in
        let some = ((Decides-and _ _ (Decides-eqb (header_at bytes place).kind 1) (Decides-nat_lt 0 (header_at bytes place).memory)).0 is).1 in
        let t = segment_from_takes bytes before (header_at bytes place) s.value (word_below bytes (place + 20) each) some s.is in
        let one : length (s.value ∷ []) ≡ 1 = refl in
        subst (λ (x : List Segment). AreLoaded before x) (ok_is (s.value ∷ []) first s.led) (record { each = (t.0, tt); most = omega (arith, t.1, one) })
    at false is led =
        let none : before + 0 ≤ 8 = omega (arith, few) in
        subst (λ (x : List Segment). AreLoaded before x) (ok_is [] first led) (record { each = tt; most = none })

-- what all headers load may be loaded
loads_take : (bytes : List ℕ) (before place count : ℕ) (segments : List Segment) → AreBytes bytes → before ≤ 8 → loads bytes before place count ≡ Ok segments → AreLoaded before segments
unfolding loads
loads_take bytes before place zero segments each few e =
    let none : before + 0 ≤ 8 = omega (arith, few) in
    subst (λ (x : List Segment). AreLoaded before x) (ok_is [] segments e) (record { each = tt; most = none })
loads_take bytes before place (suc count) segments each few e =
    let a = stepped (load_at bytes before place) (λ first. loads bytes (before + length first) (place + 32) count >>= λ others. Ok (first ++ others)) segments e in
    let b = stepped (loads bytes (before + length a.value) (place + 32) count) (λ others. Ok (a.value ++ others)) segments a.led in
    let first = load_at_takes bytes before place a.value each few a.is in
    let others = loads_take bytes (before + length a.value) (place + 32) count b.value each first.most b.is in
    subst (λ (x : List Segment). AreLoaded before x) (ok_is (a.value ++ b.value) segments b.led)
    (record { each = all_both IsSegment a.value b.value first.each others.each; most = omega (arith, length-append a.value b.value, others.most) })

-- segments of which none overlaps the one before it stand one after the other
rise_from_overlap : (floor : ℕ) (segments : List Segment) → AllByRecursion IsSegment segments → overlap floor segments ≡ None → SegmentsRiseFrom floor segments
rise_from_overlap floor [] each none = tt
rise_from_overlap floor (segment ∷ later) each none = at (nat_lt segment.address floor) refl (λ more. rise_from_overlap (end_of segment) later each.1 more) none
  where
    at : (test : Bool) → nat_lt segment.address floor ≡ test → (overlap (end_of segment) later ≡ None → SegmentsRiseFrom (end_of segment) later)
        → cond test (Some segment.address) (overlap (end_of segment) later) ≡ None → SegmentsRiseFrom floor (segment ∷ later)
    at true is following found = absurd cc
    at false is following found = ((ltb-false segment.address floor is, each.0), following found)

-- what is right of an entry and all segments
pub record IsRight (entry : ℕ) (segments : List Segment) : Type 0 where
  pub some : 1 ≤ length segments
  pub apart : overlap 0 segments ≡ None
  pub starts : is_entry entry segments ≡ true
  pub short : xef_length segments ≤ FILE_BYTES

-- an entry and segments that are not refused
verdict_takes : (entry : ℕ) (segments : List Segment) (done : Unit {0}) → verdict entry segments ≡ Ok done → IsRight entry segments
unfolding verdict
verdict_takes entry segments done e =
    let a = led_on (length segments == 0) fault.NoLoad _ done e in
    let last : Unit {0} → Result (Unit {0}) ElfFault = λ _. cond (not (is_entry entry segments)) (Err (fault.Entry entry)) (cond (nat_lt FILE_BYTES (xef_length segments)) (Err (fault.Limit 0)) (Ok tt)) in
    let b = stepped (overlap_fault (overlap 0 segments)) last done a.1 in
    let c = led_on (not (is_entry entry segments)) (fault.Entry entry) _ done b.led in
    let d = led_on (nat_lt FILE_BYTES (xef_length segments)) (fault.Limit 0) _ done c.1 in
    let some : 1 ≤ length segments = grind (arith, nat_tests, a.0) in
    record {
      some = some;
      apart = none (overlap 0 segments) b.value b.is;
      starts = double (is_entry entry segments) c.0;
      short = ltb-false FILE_BYTES (xef_length segments) d.0;
    }
  where
    none : (found : Option ℕ) (value : Unit {0}) → overlap_fault found ≡ Ok value → found ≡ None
    none None value is = refl
    none (Some address) value is = absurd cc

    double : (test : Bool) → not test ≡ false → test ≡ true
    double true is = refl
    double false is = absurd cc

-- what is read of a program file is an image
pub elf_takes : (bytes : List ℕ) (image : Image) → AreBytes bytes → elf bytes ≡ Ok image → IsImage image
unfolding elf
elf_takes bytes image each e =
    let entry = elf_word bytes 24 in
    let a = stepped (header_count bytes) (λ count. loads bytes 0 (elf_word bytes 28) count >>= λ segments. verdict entry (sorted segments) >>= λ _. Ok (record { entry = entry; segments = sorted segments })) image e in
    let b = stepped (loads bytes 0 (elf_word bytes 28) a.value) (λ segments. verdict entry (sorted segments) >>= λ _. Ok (record { entry = entry; segments = sorted segments })) image a.led in
    let made : Image = record { entry = entry; segments = sorted b.value } in
    let c = stepped (verdict entry made.segments) (λ _. Ok made) image b.led in
    let loaded = loads_take bytes 0 (elf_word bytes 28) a.value b.value each (omega arith) b.is in
    let right = verdict_takes entry made.segments c.value c.is in
    subst (λ (i : Image). IsImage i) (ok_is made image c.led)
    (image_from_parts made right.some (omega (arith, length-sorted b.value, loaded.most))
    (rise_from_overlap 0 made.segments (all_sorted IsSegment b.value loaded.each) right.apart)
    ((is_entry-Decides entry made.segments).0 right.starts) (omega (arith, right.short)))
