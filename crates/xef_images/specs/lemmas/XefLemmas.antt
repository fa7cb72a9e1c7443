-- The file of an image: what is read is the image that it spells, and what is spelled is read.
use Rattle.std.proofs.Common.{◌≡◌, ℕ, ◌+◌, ◌-◌, ◌%◌, ◌^◌, ◌<◌, ◌≤◌, true, List, [], ◌∷◌, ◌++◌, length, take, drop, map, codes, sum_by, Ok, refl, sym, ap, subst, ◌∙◌, append_assoc, arith, inl, inr}
use Rattle.std.specs.Prelude.{nat_le, ◌==◌, ◌&&◌}
use Rattle.std.specs.List.{flat_map, AllByRecursion}
use Rattle.std.specs.Int.{w8, w32, to_be_bytes}
use Rattle.std.proofs.lemmas.Bool.Decides.{Decides-and, Decides-eqb}
use Rattle.std.proofs.lemmas.List.{append-nil, nil_from_length, length-append, length-map, take_at, drop_at, take-append-le, take-append-drop, length-drop}
use Rattle.std.proofs.lemmas.List.Concat.{flat_map-cons}
use Rattle.std.proofs.lemmas.List.Sums.{sum_by-cons}
use Rattle.md5.specs.Md5.{md5}
use Rattle.md5.proofs.StandardFacts.{length-md5}
use Rattle.xm_base.specs.Bytes.{AreBytes}
use Rattle.xm_base.specs.Cursor.{Place, ahead, left, past, cursor_start}
use Rattle.xef_images.specs.Image.{Image, Segment, contents, share, xef_length, IsSegment, IsInside, IsImage}
use Rattle.xef_images.specs.lemmas.ImageLemmas.{SegmentsRiseFrom, rise_from_apart, above_nothing, image_from_parts, is_entry-Decides, Decides-nat_le}
use Rattle.xef_images.specs.Tests.{is_entry}
use Rattle.xef_images.specs.Spelling.{image_head_text, row_text, before_text, xef_text, IsSpelledImage}
use Rattle.file_headers.specs.lemmas.StepLemmas.{stepped, ok_is, passed}
use Rattle.file_headers.specs.Steps.{◌>>=◌, unless}
use Rattle.file_headers.specs.lemmas.HeadLemmas.{IsSealed, stated_again, stated_takes_first, unsealed_again, unsealed_takes}
use Rattle.file_headers.specs.lemmas.HeadsTerms.{lead_text}
use Rattle.file_headers.specs.Heads.{stated_length, unsealed}
use Rattle.xef_images.specs.Reading.{xef_field, xef_short, xef_faults, rows_at, segments_at, size_at, segment_table_at, entry_point_at, image_fields, xef}
use Rattle.file_headers.specs.lemmas.FieldLemmas.{Takes, takes_both, wide8, wide32, number_takes, listed_takes, Reads, number_again, listed_again, AreBytes-drop, AreBytes-take}
use Rattle.xef_images.specs.lemmas.TableLemmas.{row_of, row_line, RowsRise, rows_take, segments_take, lines_are_rows, rise_of_rows, rows_of_rise, rows_again, segments_again}
use Rattle.fault_messages.specs.declared.fault.XefFault.TheVariants.{Trailing, Field}

-- the table of segments: their number, their rows and their bytes
abbrev pub table_text : List Segment → List ℕ
table_text segments = to_be_bytes w8 (length segments) ++ (flat_map row_text segments ++ contents segments)

-- segments that are read stand there, 1 to 8 of them, one after the other
pub record IsSegmentTable (segments : List Segment) : Type 0 where
  pub some : 1 ≤ length segments
  pub most : length segments ≤ 8
  pub rise : SegmentsRiseFrom 0 segments

-- a table that is read stands there
pub table_takes : (place : Place) (segments : List Segment) (after : Place) → AreBytes (ahead place) → segment_table_at place ≡ Ok (segments, after) → Takes place (table_text segments) after × IsSegmentTable segments
unfolding segment_table_at size_at
table_takes place segments after each e =
    let a = stepped (size_at place) (λ count. rows_at count.0 0 count.1 >>= λ rows. segments_at rows.0 rows.1) (segments, after) e in
    let b = stepped (rows_at a.value.0 0 a.value.1) (λ rows. segments_at rows.0 rows.1) (segments, after) a.led in
    let first = listed_takes xef_short xef_field w8 256 wide8 (λ count. nat_le 1 count && nat_le count 8) place a.value.0 a.value.1 each a.is in
    let rows = rows_take a.value.0 0 a.value.1 b.value.0 b.value.1 first.0.rest b.is in
    let bytes = segments_take b.value.0 b.value.1 segments after rows.0.rest b.led in
    let size = (Decides-and _ _ (Decides-nat_le 1 a.value.0) (Decides-nat_le a.value.0 8)).0 first.2 in
    let counted : length segments ≡ a.value.0 = sym (length-map segments row_of) ∙ ap length (sym bytes.1) ∙ rows.1 in
    let lines : flat_map row_line b.value.0 ≡ flat_map row_text segments = ap (flat_map row_line) bytes.1 ∙ lines_are_rows segments in
    let following = takes_both a.value.1 (flat_map row_line b.value.0) b.value.1 (contents segments) after rows.0 bytes.0 in
    let whole = takes_both place (to_be_bytes w8 a.value.0) a.value.1 (flat_map row_line b.value.0 ++ contents segments) after first.0 following in
    let same : to_be_bytes w8 a.value.0 ++ (flat_map row_line b.value.0 ++ contents segments) ≡ table_text segments
    = ap (λ n. to_be_bytes w8 n ++ (flat_map row_line b.value.0 ++ contents segments)) (sym counted)
    ∙ ap (λ rs. to_be_bytes w8 (length segments) ++ (rs ++ contents segments)) lines in (
      subst (λ (text : List ℕ). Takes place text after) same whole,
      record {
        some = omega (arith, counted, size.0);
        most = omega (arith, counted, size.1);
        rise = rise_of_rows 0 segments (subst (λ rs. RowsRise 0 rs) bytes.1 rows.2);
      },
    )

-- a table that stands there is read
pub table_again : (place : Place) (segments : List Segment) (rest : List ℕ) → IsSegmentTable segments → ahead place ≡ table_text segments ++ rest → Reads (segment_table_at place) segments rest
unfolding segment_table_at size_at
table_again place segments rest is stands =
    let regrouped : table_text segments ++ rest ≡ to_be_bytes w8 (length segments) ++ (flat_map row_line (map row_of segments) ++ (contents segments ++ rest))
    = append_assoc (to_be_bytes w8 (length segments)) (flat_map row_text segments ++ contents segments) rest
    ∙ ap (λ x. to_be_bytes w8 (length segments) ++ x) (append_assoc (flat_map row_text segments) (contents segments) rest)
    ∙ ap (λ rs. to_be_bytes w8 (length segments) ++ (rs ++ (contents segments ++ rest))) (sym (lines_are_rows segments)) in
    let a = listed_again xef_short xef_field w8 256 wide8 (λ count. nat_le 1 count && nat_le count 8) place (length segments) (flat_map row_line (map row_of segments) ++ (contents segments ++ rest))
    (omega (arith, is.most)) ((Decides-and _ _ (Decides-nat_le 1 (length segments)) (Decides-nat_le (length segments) 8)).1 (is.some, is.most)) (stands ∙ regrouped) in
    let b = rows_again 0 a.after (map row_of segments) (contents segments ++ rest) (rows_of_rise 0 segments is.rise) a.ahead in
    let c = segments_again b.after segments rest b.ahead in
    let counted : rows_at (length segments) 0 a.after ≡ Ok (map row_of segments, b.after) = ap (λ n. rows_at n 0 a.after) (sym (length-map segments row_of)) ∙ b.is in
    record { after = c.after; is = rw (a.is, counted, c.is) refl; ahead = c.ahead }

-- the first 10 bytes of a file
abbrev pub xef_lead : ℕ → List ℕ
xef_lead size = lead_text (codes "XMEF") 1 size

-- the bytes before the digest, after name, version and length
abbrev pub body_text : Image → List ℕ
body_text image = to_be_bytes w32 image.entry ++ table_text image.segments

-- the entry and the segments that are read stand there
pub record IsBody (front : List ℕ) (image : Image) : Type 0 where
  pub parts : drop 10 front ≡ body_text image
  pub long : 10 ≤ length front
  pub table : IsSegmentTable image.segments
  pub entry : (image.entry % 4 ≡ 0) × IsInside image.entry image.segments

-- an entry and segments that are read stand there
image_of_takes : (front : List ℕ) (image : Image) → AreBytes front → image_fields front ≡ Ok image → IsBody front image
unfolding image_fields entry_point_at
image_of_takes front image each e =
    let a = stepped (entry_point_at (cursor_start front)) (λ entry. segment_table_at entry.1 >>= λ segments. unless (is_entry entry.0 segments.0) (Field 10) segments.1 >>= λ tested. unless (left tested == 0) (Trailing tested.at) (record { entry = entry.0; segments = segments.0 })) image e in
    let b = stepped (segment_table_at a.value.1) (λ segments. unless (is_entry a.value.0 segments.0) (Field 10) segments.1 >>= λ tested. unless (left tested == 0) (Trailing tested.at) (record { entry = a.value.0; segments = segments.0 })) image a.led in
    let c = stepped (unless (is_entry a.value.0 b.value.0) (Field 10) b.value.1) (λ tested. unless (left tested == 0) (Trailing tested.at) (record { entry = a.value.0; segments = b.value.0 })) image b.led in
    let p = passed (is_entry a.value.0 b.value.0) (Field 10) b.value.1 c.value c.is in
    let made : Image = record { entry = a.value.0; segments = b.value.0 } in
    let q = passed (left c.value == 0) (Trailing c.value.at) made image c.led in
    let first = number_takes xef_short w32 (2 ^ 32) wide32 (past 10 (cursor_start front)) a.value.0 a.value.1 (AreBytes-drop 10 front each) a.is in
    let second = table_takes a.value.1 b.value.0 b.value.1 first.0.rest b.is in
    let both = takes_both (past 10 (cursor_start front)) (to_be_bytes w32 a.value.0) a.value.1 (table_text b.value.0) b.value.1 first.0 second.0 in
    let ended : ahead b.value.1 ≡ [] = nil_from_length (ahead b.value.1) (ap left p.is ∙ (Decides-eqb (left c.value) 0).0 q.true) in
    let parts : drop 10 front ≡ body_text made = both.parts ∙ ap (λ rest. body_text made ++ rest) ended ∙ append-nil (body_text made) in
    let four : length (to_be_bytes w32 a.value.0) ≡ 4 = refl in
    subst (λ (i : Image). IsBody front i) q.is
    (record {
      parts = parts;
      long = omega (arith, ap length parts, length-append (to_be_bytes w32 a.value.0) (table_text b.value.0), four, length-drop 10 front);
      table = second.1;
      entry = (is_entry-Decides a.value.0 b.value.0).0 p.true;
    })

-- an entry and segments that stand there are read
image_of_again : (front : List ℕ) (image : Image) → image.entry < 2 ^ 32 → IsBody front image → image_fields front ≡ Ok image
unfolding image_fields entry_point_at
image_of_again front image below is =
    let a = number_again xef_short w32 (2 ^ 32) wide32 (past 10 (cursor_start front)) image.entry (table_text image.segments) below is.parts in
    let b = table_again a.after image.segments [] is.table (a.ahead ∙ sym (append-nil (table_text image.segments))) in
    let tested : is_entry image.entry image.segments ≡ true = (is_entry-Decides image.entry image.segments).1 is.entry in
    let none : left b.after ≡ 0 = ap length b.ahead in
    let ended : (left b.after == 0) ≡ true = (Decides-eqb (left b.after) 0).1 none in
    rw (a.is, b.is, tested, ended) refl

-- the rows and bytes of segments take what each segment takes
length-table_text : (segments : List Segment) → length (flat_map row_text segments) + length (contents segments) ≡ sum_by share segments
unfolding row_text
length-table_text [] = refl
length-table_text (segment ∷ others) =
    let rows = ap length (flat_map-cons row_text segment others) ∙ length-append (row_text segment) (flat_map row_text others) in
    let bytes = ap length (flat_map-cons (λ s. s.bytes) segment others) ∙ length-append segment.bytes (contents others) in
    let row : length (row_text segment) ≡ 12 = refl in
    omega (arith, rows, bytes, row, length-table_text others, sum_by-cons share segment others)

-- a number of one byte is that byte
byte_of : (n : ℕ) → n < 256 → to_be_bytes w8 n ≡ n ∷ []
byte_of n below =
    let same : n % 256 ≡ n = omega arith in
    ap (λ b. b ∷ []) same

-- what stands before the digest: name, version and length, and what stands after them
before_regrouped : (image : Image) → length image.segments ≤ 8 → before_text image ≡ xef_lead (xef_length image.segments) ++ body_text image
unfolding before_text image_head_text
before_regrouped image few =
    let segments = image.segments in
    let lead = xef_lead (xef_length segments) in
    let entry = to_be_bytes w32 image.entry in
    ap (λ size. (((lead ++ entry) ++ size) ++ flat_map row_text segments) ++ contents segments) (sym (byte_of (length segments) (omega arith)))
    ∙ regroup lead entry (to_be_bytes w8 (length segments)) (flat_map row_text segments) (contents segments)
  where
    regroup : (a b c d e : List ℕ) → (((a ++ b) ++ c) ++ d) ++ e ≡ a ++ (b ++ (c ++ (d ++ e)))
    regroup a b c d e = simp append_assoc

-- the length of what stands before the digest
length-before : (image : Image) → length image.segments ≤ 8 → length (before_text image) + 16 ≡ xef_length image.segments
length-before image few =
    let segments = image.segments in
    let size = length image.segments in
    let whole = ap length (before_regrouped image few) in
    let lead : length (xef_lead (xef_length segments)) ≡ 10 = refl in
    let entry : length (to_be_bytes w32 image.entry) ≡ 4 = refl in
    let byte : length (to_be_bytes w8 size) ≡ 1 = refl in
    omega (
      arith,
      whole,
      lead,
      entry,
      byte,
      length-append (xef_lead (xef_length segments)) (body_text image),
      length-append (to_be_bytes w32 image.entry) (table_text segments),
      length-append (to_be_bytes w8 size) (flat_map row_text segments ++ contents segments),
      length-append (flat_map row_text segments) (contents segments),
      length-table_text segments,
    )

-- the length of an image's file
pub length-xef_text : (image : Image) → length image.segments ≤ 8 → length (xef_text image) ≡ xef_length image.segments
unfolding xef_text
length-xef_text image few =
    omega (arith, length-append (before_text image) (md5 (before_text image)), length-md5 (before_text image), length-before image few)

-- what is read is the image that the bytes spell
pub xef_takes : (bytes : List ℕ) (image : Image) → AreBytes bytes → xef bytes ≡ Ok image → IsSpelledImage bytes image
unfolding xef xef_text
xef_takes bytes image each e =
    let s = stepped (unsealed xef_faults (codes "XMEF") 1 bytes) image_fields image e in
    let front = s.value in
    let is = unsealed_takes xef_faults (codes "XMEF") 1 bytes front s.is in
    let front_each : AreBytes front = subst (λ (x : List ℕ). AreBytes x) (ap (take (length front)) is.parts ∙ take_at front (md5 front) (length front) refl) (AreBytes-take (length front) bytes each) in
    let body = image_of_takes front image front_each s.led in
    let size = length bytes in
    let head = stated_takes_first xef_faults (codes "XMEF") bytes size refl each is.stated in
    let lead = xef_lead size in
    let first : take 10 bytes ≡ lead = ap (take 10) head.0 ∙ take_at lead (drop 10 bytes) 10 refl in
    let same : take 10 bytes ≡ take 10 front = ap (take 10) is.parts ∙ take-append-le 10 front (md5 front) body.long in
    let parts : front ≡ lead ++ body_text image = sym (take-append-drop 10 front) ∙ ap (λ x. x ++ drop 10 front) (sym same ∙ first) ∙ ap (λ x. lead ++ x) body.parts in
    let few = body.table.most in
    let segments = image.segments in
    let ten : length lead ≡ 10 = refl in
    let stated_ten : length (xef_lead (xef_length segments)) ≡ 10 = refl in
    let sized : size ≡ xef_length segments = omega (
      arith,
      is.count,
      ap length parts,
      length-append lead (body_text image),
      ten,
      stated_ten,
      ap length (before_regrouped image few),
      length-append (xef_lead (xef_length segments)) (body_text image),
      length-before image few,
    ) in
    let spelled : front ≡ before_text image = parts ∙ ap (λ n. xef_lead n ++ body_text image) sized ∙ sym (before_regrouped image few) in
    record {
      loads = image_from_parts image body.table.some few body.table.rise body.entry (omega (arith, head.1, sized));
      text = is.parts ∙ ap (λ x. x ++ md5 x) spelled;
    }

-- the entry of an image is a word's
entry_below : (entry : ℕ) (segments : List Segment) → AllByRecursion IsSegment segments → IsInside entry segments → entry < 2 ^ 32
entry_below entry [] each inside = absurd inside
entry_below entry (segment ∷ others) each (inl covers) = omega (arith, covers, each.0.ends)
entry_below entry (segment ∷ others) each (inr later) = entry_below entry others each.1 later

-- what stands before the digest of an image's file
is_signed : (image : Image) → IsImage image → IsSealed xef_faults (codes "XMEF") 1 (xef_text image) (before_text image)
unfolding xef_text
is_signed image is =
    let size = xef_length image.segments in
    let rest = body_text image ++ md5 (before_text image) in
    let parts : xef_text image ≡ xef_lead size ++ rest
    = ap (λ x. x ++ md5 (before_text image)) (before_regrouped image is.most) ∙ append_assoc (xef_lead size) (body_text image) (md5 (before_text image)) in
    record {
      stated = ap (stated_length xef_faults (codes "XMEF") 1) parts ∙ stated_again xef_faults (codes "XMEF") 1 1 size rest refl refl (omega arith) is.short ∙ ap (λ n. Ok n) (sym (length-xef_text image is.most));
      parts = refl;
      count = length-before image is.most ∙ sym (length-xef_text image is.most);
    }

-- an image is read of its file
pub xef_again : (image : Image) → IsImage image → xef (xef_text image) ≡ Ok image
unfolding xef
xef_again image is =
    let front = before_text image in
    let size = xef_length image.segments in
    let following : drop 10 front ≡ body_text image = ap (drop 10) (before_regrouped image is.most) ∙ drop_at (xef_lead size) (body_text image) 10 refl in
    let body : IsBody front image = record {
      parts = following;
      long = omega (arith, length-before image is.most);
      table = record { some = is.some; most = is.most; rise = rise_from_apart 0 image.segments is.each is.apart (above_nothing image.segments) };
      entry = (is.aligned, is.inside);
    } in
    rw (unsealed_again xef_faults (codes "XMEF") 1 (xef_text image) front (is_signed image is), image_of_again front image (entry_below image.entry image.segments is.each is.inside) body) refl

-- no file of an image is a proper prefix of another
pub xef_ends : (image other : Image) (rest : List ℕ) → IsImage image → IsImage other → xef_text other ≡ xef_text image ++ rest → rest ≡ []
unfolding xef_text
xef_ends image other rest is is_other longer =
    let size = xef_length image.segments in
    let following = (body_text image ++ md5 (before_text image)) ++ rest in
    let parts : xef_text image ++ rest ≡ xef_lead size ++ following
    = ap (λ x. (x ++ md5 (before_text image)) ++ rest) (before_regrouped image is.most)
    ∙ regroup (xef_lead size) (body_text image) (md5 (before_text image)) rest in
    let stated_first : stated_length xef_faults (codes "XMEF") 1 (xef_text other) ≡ Ok size = ap (stated_length xef_faults (codes "XMEF") 1) (longer ∙ parts) ∙ stated_again xef_faults (codes "XMEF") 1 1 size following refl refl (omega arith) is.short in
    let same : length (xef_text other) ≡ size = ok_is (length (xef_text other)) size (sym (is_signed other is_other).stated ∙ stated_first) in
    nil_from_length rest (omega (arith, same, ap length longer, length-append (xef_text image) rest, length-xef_text image is.most))
  where
    regroup : (a b c d : List ℕ) → ((a ++ b) ++ c) ++ d ≡ a ++ ((b ++ c) ++ d)
    regroup a b c d = simp append_assoc

-- the digest at the end of an image's file
pub digest_at_end : (bytes : List ℕ) (image : Image) → bytes ≡ xef_text image → (16 ≤ length bytes) × (drop (length bytes - 16) bytes ≡ md5 (before_text image))
unfolding xef_text
digest_at_end bytes image is =
    let size = ap length is ∙ length-append (before_text image) (md5 (before_text image)) in
    let sixteen = length-md5 (before_text image) in
    let front : length (before_text image) ≡ length bytes - 16 = omega (arith, size, sixteen) in
    (omega (arith, size, sixteen), ap (drop (length bytes - 16)) is ∙ drop_at (before_text image) (md5 (before_text image)) (length bytes - 16) front)
