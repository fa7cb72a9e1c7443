-- Two digests are reported exactly where they differ.
use Rattle.std.proofs.Common.{◌≡◌, ℕ, zero, suc, Bool, List, [], ◌∷◌, codes, Result, Ok, Err}
use Rattle.std.specs.Prelude.{nat_le, ◌==◌, ◌&&◌, ◌+◌, ◌^◌}
use Rattle.std.specs.Int.{Width, w8, w32}
use Rattle.xm_base.specs.Cursor.{Place, left, past, cursor_start}
use Rattle.file_headers.specs.lemmas.DigestLemmas.{IsPlain, fields_report, plain_bytes, plain_cond, plain_fault, plain_number, plain_then, value_is_none}
use Rattle.file_headers.specs.lemmas.FaultsTerms.{AreApart}
use Rattle.file_headers.specs.Fields.{field_bytes, listed_at, number_at}
use Rattle.file_headers.specs.Gives.{Gives}
use Rattle.file_headers.specs.Heads.{ReportsDigests, unsealed}
use Rattle.file_headers.specs.Steps.{◌>>=◌, unless}
use Rattle.xef_images.specs.Gives.{Fails}
use Rattle.xef_images.specs.Image.{Image}
use Rattle.xef_images.specs.Tests.{is_entry}
use Rattle.xef_images.specs.Reading.{xef_field, xef_short, xef_faults, address_at, memory_at, count_at, row_at, rows_at, segment_at, segments_at, size_at, segment_table_at, entry_point_at, image_fields}
use Rattle.xef_images.specs.declared.row.Row.{Row}
use Rattle.fault_messages.specs.declared.fault.XefFault.{XefFault}
use Rattle.fault_messages.specs.declared.fault.XefFault.TheVariants as fault

-- a fault of a field is none of digests
pub apart : AreApart xef_faults
apart = record {
  magic = λ s f e. absurd cc;
  version = λ found s f e. absurd cc;
  short = λ at s f e. absurd cc;
  trailing = λ at s f e. absurd cc;
  stored = λ s f s' f' e. cc;
  found = λ s f s' f' e. cc;
}

-- a fault of a field
plain_field : {A : Type 0} (at : ℕ) → (let failed : Result A XefFault = Err (xef_field at) in IsPlain xef_faults failed)
plain_field {A} at = plain_fault {A = A} xef_faults (xef_field at) (λ s f e. absurd cc)

-- a place where bytes stand that belong to nothing
plain_trailing : {A : Type 0} (at : ℕ) → (let failed : Result A XefFault = Err (fault.Trailing at) in IsPlain xef_faults failed)
plain_trailing {A} at = plain_fault {A = A} xef_faults (fault.Trailing at) (λ s f e. absurd cc)

plain_listed : (width : Width) (test : ℕ → Bool) (place : Place) → IsPlain xef_faults (listed_at xef_short xef_field width test place)
plain_listed width test place =
    plain_then xef_faults (number_at xef_short width place) (λ number. unless (test number.0) (xef_field place.at) number) (plain_number xef_faults apart width place)
    (λ number. plain_cond xef_faults (test number.0) (Ok number) (Err (xef_field place.at)) (value_is_none xef_faults number) (plain_field place.at))

plain_row : (floor : ℕ) (place : Place) → IsPlain xef_faults (row_at floor place)
unfolding row_at address_at memory_at count_at
plain_row floor place =
    plain_then xef_faults (address_at floor place) (λ address. memory_at address.0 address.1 >>= λ memory. count_at memory.0 memory.1 >>= λ count. Ok (record { address = address.0; memory = memory.0; count = count.0 }, count.1))
    (plain_listed w32 (λ address. nat_le floor address) place)
    (λ address. plain_then xef_faults (memory_at address.0 address.1) (λ memory. count_at memory.0 memory.1 >>= λ count. Ok (record { address = address.0; memory = memory.0; count = count.0 }, count.1))
    (plain_listed w32 (λ memory. nat_le 1 memory && nat_le (address.0 + memory) (2 ^ 32)) address.1)
    (λ memory. plain_then xef_faults (count_at memory.0 memory.1) (λ count. Ok (record { address = address.0; memory = memory.0; count = count.0 }, count.1))
    (plain_listed w32 (λ count. nat_le count memory.0) memory.1) (λ count. value_is_none xef_faults _)))

plain_rows : (count floor : ℕ) (place : Place) → IsPlain xef_faults (rows_at count floor place)
unfolding rows_at
plain_rows zero floor place = value_is_none xef_faults _
plain_rows (suc count) floor place =
    plain_then xef_faults (row_at floor place) (λ row. rows_at count (row.0.address + row.0.memory) row.1 >>= λ others. Ok (row.0 ∷ others.0, others.1)) (plain_row floor place)
    (λ row. plain_then xef_faults (rows_at count (row.0.address + row.0.memory) row.1) (λ others. Ok (row.0 ∷ others.0, others.1)) (plain_rows count (row.0.address + row.0.memory) row.1) (λ others. value_is_none xef_faults _))

plain_segments : (rows : List Row) (place : Place) → IsPlain xef_faults (segments_at rows place)
unfolding segments_at segment_at
plain_segments [] place = value_is_none xef_faults _
plain_segments (row ∷ rows) place =
    plain_then xef_faults (segment_at row place) (λ segment. segments_at rows segment.1 >>= λ others. Ok (segment.0 ∷ others.0, others.1))
    (plain_then xef_faults (field_bytes xef_short row.count place) (λ bytes. Ok (record { address = row.address; memory = row.memory; bytes = bytes.0 }, bytes.1)) (plain_bytes xef_faults apart row.count place) (λ bytes. value_is_none xef_faults _))
    (λ segment. plain_then xef_faults (segments_at rows segment.1) (λ others. Ok (segment.0 ∷ others.0, others.1)) (plain_segments rows segment.1) (λ others. value_is_none xef_faults _))

plain_table : (place : Place) → IsPlain xef_faults (segment_table_at place)
unfolding segment_table_at size_at
plain_table place =
    plain_then xef_faults (size_at place) (λ count. rows_at count.0 0 count.1 >>= λ rows. segments_at rows.0 rows.1) (plain_listed w8 (λ count. nat_le 1 count && nat_le count 8) place)
    (λ count. plain_then xef_faults (rows_at count.0 0 count.1) (λ rows. segments_at rows.0 rows.1) (plain_rows count.0 0 count.1) (λ rows. plain_segments rows.0 rows.1))

-- the fields after the head reports no digests
pub plain_image : (front : List ℕ) → IsPlain xef_faults (image_fields front)
unfolding image_fields entry_point_at
plain_image front =
    plain_then xef_faults (entry_point_at (cursor_start front)) (λ entry. segment_table_at entry.1 >>= λ segments. unless (is_entry entry.0 segments.0) (fault.Field 10) segments.1 >>= λ tested. unless (left tested == 0) (fault.Trailing tested.at) (record { entry = entry.0; segments = segments.0 }))
    (plain_number xef_faults apart w32 (past 10 (cursor_start front)))
    (λ entry. plain_then xef_faults (segment_table_at entry.1) (λ segments. unless (is_entry entry.0 segments.0) (fault.Field 10) segments.1 >>= λ tested. unless (left tested == 0) (fault.Trailing tested.at) (record { entry = entry.0; segments = segments.0 })) (plain_table entry.1)
    (λ segments. plain_then xef_faults (unless (is_entry entry.0 segments.0) (fault.Field 10) segments.1) (λ tested. unless (left tested == 0) (fault.Trailing tested.at) (record { entry = entry.0; segments = segments.0 }))
    (plain_cond xef_faults (is_entry entry.0 segments.0) (Ok segments.1) (Err (fault.Field 10)) (value_is_none xef_faults _) (plain_field 10))
    (λ tested. plain_cond xef_faults (left tested == 0) (Ok (record { entry = entry.0; segments = segments.0 })) (Err (fault.Trailing tested.at)) (value_is_none xef_faults _) (plain_trailing tested.at))))

-- what comes of the fields reports no digests
plain_given : {X : Type 0} (view : X → Image) (front : List ℕ) (result : Result X XefFault) → Gives Fails view result (image_fields front) → IsPlain xef_faults result
plain_given view front (Ok value) given = value_is_none xef_faults value
plain_given view front (Err (fault.Digest stored found)) given = absurd ((plain_image front).none stored found given)
plain_given view front (Err other) given = plain_fault xef_faults other (λ s f e. absurd cc)

-- where the first step does not fail, whatever follows
pub reports_given : {X : Type 0} (view : X → Image) (bytes front : List ℕ) (result : Result X XefFault) → unsealed xef_faults (codes "XMEF") 1 bytes ≡ Ok front → Gives Fails view result (image_fields front)
    → ReportsDigests xef_faults (codes "XMEF") 1 bytes result
reports_given view bytes front result is given = fields_report xef_faults apart (codes "XMEF") 1 bytes front result is (plain_given view front result given)
