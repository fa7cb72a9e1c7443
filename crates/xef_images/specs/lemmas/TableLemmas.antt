-- The table of segments: what is read is spelled so, and what is spelled so is read.
use Rattle.std.proofs.Common.{◌≡◌, ℕ, zero, suc, ◌+◌, ◌^◌, ◌<◌, ◌≤◌, List, [], ◌∷◌, ◌++◌, length, map, Ok, refl, sym, ap, subst, ◌∙◌, append_assoc, arith}
use Rattle.std.specs.Prelude.{nat_le, ◌&&◌}
use Rattle.std.specs.List.{flat_map}
use Rattle.std.specs.Int.{w32, to_be_bytes}
use Rattle.std.proofs.lemmas.Bool.Decides.{Decides-and}
use Rattle.std.proofs.lemmas.List.Concat.{flat_map-cons}
use Rattle.xm_base.specs.Bytes.{AreBytes}
use Rattle.xm_base.specs.Cursor.{Place, ahead}
use Rattle.xef_images.specs.Image.{Segment, contents, end_of}
use Rattle.xef_images.specs.lemmas.ImageLemmas.{SegmentsRiseFrom, Decides-nat_le}
use Rattle.xef_images.specs.Spelling.{row_text}
use Rattle.file_headers.specs.lemmas.StepLemmas.{stepped, ok_is}
use Rattle.file_headers.specs.Steps.{◌>>=◌}
use Rattle.file_headers.specs.Fields.{field_bytes}
use Rattle.xef_images.specs.Reading.{xef_field, xef_short, address_at, memory_at, count_at, row_at, rows_at, segment_at, segments_at}
use Rattle.file_headers.specs.lemmas.FieldLemmas.{Takes, takes_both, bytes_take, wide32, listed_takes, Reads, bytes_again, listed_again}
use Rattle.xef_images.specs.declared.row.Row.{Row}

-- the row of a segment
abbrev pub row_of : Segment → Row
row_of segment = record { address = segment.address; memory = segment.memory; count = length segment.bytes }

-- the bytes of a row
abbrev pub row_line : Row → List ℕ
row_line row = to_be_bytes w32 row.address ++ to_be_bytes w32 row.memory ++ to_be_bytes w32 row.count

-- a row of a segment that may stand after the floor
pub record IsRow (floor : ℕ) (row : Row) : Type 0 where
  pub above : floor ≤ row.address
  pub some : 1 ≤ row.memory
  pub said : row.memory < 2 ^ 32
  pub ends : row.address + row.memory ≤ 2 ^ 32
  pub fits : row.count ≤ row.memory

-- rows of segments that stand one after the other
abbrev pub RowsRise : ℕ → List Row → Type 0
RowsRise floor [] = Unit {0}
RowsRise floor (row ∷ later) = IsRow floor row × RowsRise (row.address + row.memory) later

-- a row that is read stands there
pub row_takes : (floor : ℕ) (place : Place) (row : Row) (after : Place) → AreBytes (ahead place) → row_at floor place ≡ Ok (row, after) → Takes place (row_line row) after × IsRow floor row
unfolding row_at address_at memory_at count_at
row_takes floor place row after each e =
    let a = stepped (address_at floor place) (λ address. memory_at address.0 address.1 >>= λ memory. count_at memory.0 memory.1 >>= λ count. Ok (record { address = address.0; memory = memory.0; count = count.0 }, count.1)) (row, after) e in
    let m = stepped (memory_at a.value.0 a.value.1) (λ memory. count_at memory.0 memory.1 >>= λ count. Ok (record { address = a.value.0; memory = memory.0; count = count.0 }, count.1)) (row, after) a.led in
    let n = stepped (count_at m.value.0 m.value.1) (λ count. Ok (record { address = a.value.0; memory = m.value.0; count = count.0 }, count.1)) (row, after) m.led in
    let first = listed_takes xef_short xef_field w32 (2 ^ 32) wide32 (λ address. nat_le floor address) place a.value.0 a.value.1 each a.is in
    let second = listed_takes xef_short xef_field w32 (2 ^ 32) wide32 (λ memory. nat_le 1 memory && nat_le (a.value.0 + memory) (2 ^ 32)) a.value.1 m.value.0 m.value.1 first.0.rest m.is in
    let third = listed_takes xef_short xef_field w32 (2 ^ 32) wide32 (λ count. nat_le count m.value.0) m.value.1 n.value.0 n.value.1 second.0.rest n.is in
    let sizes = (Decides-and _ _ (Decides-nat_le 1 m.value.0) (Decides-nat_le (a.value.0 + m.value.0) (2 ^ 32))).0 second.2 in
    let front = takes_both place (to_be_bytes w32 a.value.0) a.value.1 (to_be_bytes w32 m.value.0) m.value.1 first.0 second.0 in
    let whole = takes_both place (to_be_bytes w32 a.value.0 ++ to_be_bytes w32 m.value.0) m.value.1 (to_be_bytes w32 n.value.0) n.value.1 front third.0 in
    let made : Row × Place = (record { address = a.value.0; memory = m.value.0; count = n.value.0 }, n.value.1) in
    let P : Row × Place → Type 0 = λ x. Takes place (row_line x.0) x.1 × IsRow floor x.0 in
    subst P {x = made} (ok_is made (row, after) n.led) (
      whole,
      record {
        above = (Decides-nat_le floor a.value.0).0 first.2;
        some = sizes.0;
        said = second.1;
        ends = sizes.1;
        fits = (Decides-nat_le n.value.0 m.value.0).0 third.2;
      },
    )

-- rows that are read stand there
pub rows_take : (count floor : ℕ) (place : Place) (rows : List Row) (after : Place) → AreBytes (ahead place) → rows_at count floor place ≡ Ok (rows, after)
    → Takes place (flat_map row_line rows) after × (length rows ≡ count) × RowsRise floor rows
unfolding rows_at
rows_take zero floor place rows after each e =
    let P : List Row × Place → Type 0 = λ x. Takes place (flat_map row_line x.0) x.1 × (length x.0 ≡ 0) × RowsRise floor x.0 in
    subst P (ok_is ([], place) (rows, after) e) (record { parts = refl; rest = each }, refl, tt)
rows_take (suc count) floor place rows after each e =
    let a = stepped (row_at floor place) (λ row. rows_at count (row.0.address + row.0.memory) row.1 >>= λ others. Ok (row.0 ∷ others.0, others.1)) (rows, after) e in
    let b = stepped (rows_at count (a.value.0.address + a.value.0.memory) a.value.1) (λ others. Ok (a.value.0 ∷ others.0, others.1)) (rows, after) a.led in
    let first = row_takes floor place a.value.0 a.value.1 each a.is in
    let others = rows_take count (a.value.0.address + a.value.0.memory) a.value.1 b.value.0 b.value.1 first.0.rest b.is in
    let both = takes_both place (row_line a.value.0) a.value.1 (flat_map row_line b.value.0) b.value.1 first.0 others.0 in
    let P : List Row × Place → Type 0 = λ x. Takes place (flat_map row_line x.0) x.1 × (length x.0 ≡ suc count) × RowsRise floor x.0 in
    subst P {x = (a.value.0 ∷ b.value.0, b.value.1)} (ok_is (a.value.0 ∷ b.value.0, b.value.1) (rows, after) b.led) (rw flat_map-cons both, ap suc others.1, (first.1, others.2))

-- segments that are read are those of the rows, and their bytes stand there
pub segments_take : (rows : List Row) (place : Place) (segments : List Segment) (after : Place) → AreBytes (ahead place) → segments_at rows place ≡ Ok (segments, after)
    → Takes place (contents segments) after × (rows ≡ map row_of segments)
unfolding segments_at segment_at
segments_take [] place segments after each e =
    let P : List Segment × Place → Type 0 = λ x. Takes place (contents x.0) x.1 × ([] ≡ map row_of x.0) in
    subst P (ok_is ([], place) (segments, after) e) (record { parts = refl; rest = each }, refl)
segments_take (row ∷ rows) place segments after each e =
    let a = stepped (segment_at row place) (λ segment. segments_at rows segment.1 >>= λ others. Ok (segment.0 ∷ others.0, others.1)) (segments, after) e in
    let b = stepped (segments_at rows a.value.1) (λ others. Ok (a.value.0 ∷ others.0, others.1)) (segments, after) a.led in
    let s = stepped (field_bytes xef_short row.count place) (λ bytes. Ok (record { address = row.address; memory = row.memory; bytes = bytes.0 }, bytes.1)) a.value a.is in
    let t = bytes_take xef_short row.count place s.value.0 s.value.1 each s.is in
    let made : Segment × Place = (record { address = row.address; memory = row.memory; bytes = s.value.0 }, s.value.1) in
    let Q : Segment × Place → Type 0 = λ x. Takes place x.0.bytes x.1 × (row ≡ row_of x.0) in
    let first = subst Q (ok_is made a.value s.led) (t.0, ap (λ n. record { address = row.address; memory = row.memory; count = n }) (sym t.1)) in
    let others = segments_take rows a.value.1 b.value.0 b.value.1 first.0.rest b.is in
    let both = takes_both place a.value.0.bytes a.value.1 (contents b.value.0) b.value.1 first.0 others.0 in
    let P : List Segment × Place → Type 0 = λ x. Takes place (contents x.0) x.1 × ((row ∷ rows) ≡ map row_of x.0) in
    subst P (ok_is (a.value.0 ∷ b.value.0, b.value.1) (segments, after) b.led)
    (rw flat_map-cons both, ap (λ r. r ∷ rows) first.1 ∙ ap (λ rs. row_of a.value.0 ∷ rs) others.1)

-- the rows of segments are their lines
pub lines_are_rows : (segments : List Segment) → flat_map row_line (map row_of segments) ≡ flat_map row_text segments
unfolding row_text
lines_are_rows [] = refl
lines_are_rows (segment ∷ others) =
    flat_map-cons row_line (row_of segment) (map row_of others)
    ∙ ap (λ rest. row_line (row_of segment) ++ rest) (lines_are_rows others)
    ∙ sym (flat_map-cons row_text segment others)

-- segments stand one after the other as their rows say
pub rise_of_rows : (floor : ℕ) (segments : List Segment) → RowsRise floor (map row_of segments) → SegmentsRiseFrom floor segments
rise_of_rows floor [] rise = tt
rise_of_rows floor (segment ∷ later) rise =
    let row = rise.0 in
    ((row.above, record { some = row.some; said = row.said; ends = row.ends; fits = row.fits }), rise_of_rows (end_of segment) later rise.1)

-- the rows of segments that stand one after the other
pub rows_of_rise : (floor : ℕ) (segments : List Segment) → SegmentsRiseFrom floor segments → RowsRise floor (map row_of segments)
rows_of_rise floor [] rise = tt
rows_of_rise floor (segment ∷ later) rise =
    let is = rise.0.1 in
    (record { above = rise.0.0; some = is.some; said = is.said; ends = is.ends; fits = is.fits }, rows_of_rise (end_of segment) later rise.1)

-- a row that stands there is read
pub row_again : (floor : ℕ) (place : Place) (row : Row) (rest : List ℕ) → IsRow floor row → ahead place ≡ row_line row ++ rest → Reads (row_at floor place) row rest
unfolding row_at address_at memory_at count_at
row_again floor place row rest is stands =
    let regrouped : row_line row ++ rest ≡ to_be_bytes w32 row.address ++ (to_be_bytes w32 row.memory ++ (to_be_bytes w32 row.count ++ rest))
    = append_assoc (to_be_bytes w32 row.address ++ to_be_bytes w32 row.memory) (to_be_bytes w32 row.count) rest
    ∙ append_assoc (to_be_bytes w32 row.address) (to_be_bytes w32 row.memory) (to_be_bytes w32 row.count ++ rest) in
    let a = listed_again xef_short xef_field w32 (2 ^ 32) wide32 (λ address. nat_le floor address) place row.address (to_be_bytes w32 row.memory ++ (to_be_bytes w32 row.count ++ rest))
    (omega (arith, is.ends, is.some)) ((Decides-nat_le floor row.address).1 is.above) (stands ∙ regrouped) in
    let m = listed_again xef_short xef_field w32 (2 ^ 32) wide32 (λ memory. nat_le 1 memory && nat_le (row.address + memory) (2 ^ 32)) a.after row.memory (to_be_bytes w32 row.count ++ rest)
    is.said ((Decides-and _ _ (Decides-nat_le 1 row.memory) (Decides-nat_le (row.address + row.memory) (2 ^ 32))).1 (is.some, is.ends)) a.ahead in
    let n = listed_again xef_short xef_field w32 (2 ^ 32) wide32 (λ count. nat_le count row.memory) m.after row.count rest
    (omega (arith, is.said, is.fits)) ((Decides-nat_le row.count row.memory).1 is.fits) m.ahead in
    record { after = n.after; is = rw (a.is, m.is, n.is) refl; ahead = n.ahead }

-- rows that stand there are read
pub rows_again : (floor : ℕ) (place : Place) (rows : List Row) (rest : List ℕ) → RowsRise floor rows → ahead place ≡ flat_map row_line rows ++ rest → Reads (rows_at (length rows) floor place) rows rest
unfolding rows_at
rows_again floor place [] rest rise stands = record { after = place; is = refl; ahead = stands }
rows_again floor place (row ∷ rows) rest rise stands =
    let regrouped : flat_map row_line (row ∷ rows) ++ rest ≡ row_line row ++ (flat_map row_line rows ++ rest)
    = ap (λ x. x ++ rest) (flat_map-cons row_line row rows) ∙ append_assoc (row_line row) (flat_map row_line rows) rest in
    let first = row_again floor place row (flat_map row_line rows ++ rest) rise.0 (stands ∙ regrouped) in
    let others = rows_again (row.address + row.memory) first.after rows rest rise.1 first.ahead in
    record { after = others.after; is = rw (first.is, others.is) refl; ahead = others.ahead }

-- segments whose bytes stand there are read by their rows
pub segments_again : (place : Place) (segments : List Segment) (rest : List ℕ) → ahead place ≡ contents segments ++ rest → Reads (segments_at (map row_of segments) place) segments rest
unfolding segments_at segment_at
segments_again place [] rest stands = record { after = place; is = refl; ahead = stands }
segments_again place (segment ∷ others) rest stands =
    let regrouped : contents (segment ∷ others) ++ rest ≡ segment.bytes ++ (contents others ++ rest)
    = ap (λ x. x ++ rest) (flat_map-cons (λ s. s.bytes) segment others) ∙ append_assoc segment.bytes (contents others) rest in
    let first = bytes_again xef_short (length segment.bytes) place segment.bytes (contents others ++ rest) refl (stands ∙ regrouped) in
    let more = segments_again first.after others rest first.ahead in
    record { after = more.after; is = rw (first.is, more.is) refl; ahead = more.ahead }
