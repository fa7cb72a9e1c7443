-- The reading of an image's file: the image that the bytes spell, or the first fault from left to right.
use Rattle.std.specs.Prelude.{ℕ, zero, suc, ◌+◌, ◌^◌, ◌==◌, ◌&&◌, nat_le, List, [], ◌∷◌, codes, Result, Ok}
use Rattle.std.specs.Int.{w8, w32}
use Rattle.xm_base.specs.Cursor.{Place, left, past, cursor_start}
use Rattle.fault_messages.specs.OfHeads.{xef_fault}
use Rattle.file_headers.specs.Faults.{HeadFaults}
use Rattle.file_headers.specs.Fields.{field_bytes, listed_at, number_at}
use Rattle.file_headers.specs.Heads.{unsealed}
use Rattle.file_headers.specs.Known.{head_faults}
use Rattle.file_headers.specs.Lifted.{lifted_faults}
use Rattle.file_headers.specs.Steps.{◌>>=◌, unless}
use Rattle.xef_images.specs.Image.{Image, Segment}
use Rattle.xef_images.specs.Tests.{is_entry}
use Rattle.xef_images.specs.declared.row.Row.{Row}
use Rattle.fault_messages.specs.declared.fault.XefFault.{XefFault}
use Rattle.fault_messages.specs.declared.fault.XefFault.TheVariants.{Short, Trailing, Field}

-- how the faults of its head and its digest are made
abbrev pub xef_faults : HeadFaults XefFault
xef_faults = lifted_faults xef_fault head_faults

-- a field that passes the end, and one whose value is not allowed
abbrev pub xef_short : ℕ → XefFault
xef_short at = Short at

abbrev pub xef_field : ℕ → XefFault
xef_field at = Field at

-- an address that is not below the floor
unfoldable pub address_at : ℕ → Place → Result (ℕ × Place) XefFault
address_at floor place = listed_at xef_short xef_field w32 (λ address. nat_le floor address) place

-- a size of memory that is not 0, and does not pass the end of the addresses
unfoldable pub memory_at : ℕ → Place → Result (ℕ × Place) XefFault
memory_at address place = listed_at xef_short xef_field w32 (λ memory. nat_le 1 memory && nat_le (address + memory) (2 ^ 32)) place

-- a number of bytes that fit into the memory
unfoldable pub count_at : ℕ → Place → Result (ℕ × Place) XefFault
count_at memory place = listed_at xef_short xef_field w32 (λ count. nat_le count memory) place

-- the row of a segment that begins at the floor or after it
unfoldable pub row_at : ℕ → Place → Result (Row × Place) XefFault
row_at floor place = do
  address ← address_at floor place
  memory ← memory_at address.0 address.1
  count ← count_at memory.0 memory.1
  Ok (record { address = address.0; memory = memory.0; count = count.0 }, count.1)

-- this many rows, each after the end of the one before it
unfoldable pub rows_at : ℕ → ℕ → Place → Result (List Row × Place) XefFault
rows_at zero floor place = Ok ([], place)
rows_at (suc count) floor place = do
  row ← row_at floor place
  rows ← rows_at count (row.0.address + row.0.memory) row.1
  Ok (row.0 ∷ rows.0, rows.1)

-- the segment of a row, with its bytes
unfoldable pub segment_at : Row → Place → Result (Segment × Place) XefFault
segment_at row place = do
  bytes ← field_bytes xef_short row.count place
  Ok (record { address = row.address; memory = row.memory; bytes = bytes.0 }, bytes.1)

-- the segments of the rows, with their bytes one after the other
unfoldable pub segments_at : List Row → Place → Result (List Segment × Place) XefFault
segments_at [] place = Ok ([], place)
segments_at (row ∷ rows) place = do
  segment ← segment_at row place
  segments ← segments_at rows segment.1
  Ok (segment.0 ∷ segments.0, segments.1)

-- a number of segments, 1 to 8
unfoldable pub size_at : Place → Result (ℕ × Place) XefFault
size_at place = listed_at xef_short xef_field w8 (λ count. nat_le 1 count && nat_le count 8) place

-- the segments: their number, their rows and their bytes
unfoldable pub segment_table_at : Place → Result (List Segment × Place) XefFault
segment_table_at place = do
  count ← size_at place
  rows ← rows_at count.0 0 count.1
  segments_at rows.0 rows.1

-- the entry, after the 10 bytes of name, version and length. A file so short that its head and its digest overlap never has the digest of its other bytes, so what is said here of fewer than 10 bytes is reported for no file
unfoldable pub entry_point_at : Place → Result (ℕ × Place) XefFault
entry_point_at place = number_at xef_short w32 (past 10 place)

-- the image of the bytes before the digest; whether it may start at its entry is tested when all its segments are read
unfoldable pub image_fields : List ℕ → Result Image XefFault
image_fields bytes = do
  entry ← entry_point_at (cursor_start bytes)
  segments ← segment_table_at entry.1
  tested ← unless (is_entry entry.0 segments.0) (Field 10) segments.1
  unless (left tested == 0) (Trailing tested.at) (record { entry = entry.0; segments = segments.0 })

-- the image of a file, or its first fault
unfoldable pub xef : List ℕ → Result Image XefFault
xef bytes = unsealed xef_faults (codes "XMEF") 1 bytes >>= image_fields
