-- The rows.
use Rattle.std.proofs.Common.{refl}
use Rattle.std.specs.Fmt.{digits}
use Rattle.hex.specs.Hex.{encode_with}
use Rattle.sparc_step.specs.Conditions.{holds, holds_below_eight}
use Rattle.run_records.specs.Counts.{counts_text, row_text}
use Rattle.run_records.specs.Use.{slot_use}
use Rattle.run_records.specs.UseText.{part_text}
use Rattle.run_records.specs.rows.RecordRows.{AccessedRows, CountRows, DoingRows, LineRows, StopRows, TakenRows, UseRows, UseTextRows}
use Rattle.xm_report.specs.Report.{escape, moved_text}

pub doing_rows : DoingRows
doing_rows = record { rests = refl; delivers = refl; masked = refl; disabled = refl }

pub taken_rows : TakenRows
unfolding holds holds_below_eight
taken_rows = record { not_zero = refl; zero = refl; always = refl; never = refl; jump = refl }

pub count_rows : CountRows
unfolding counts_text row_text digits encode_with
count_rows = record { rows = refl; text = refl; nothing = refl }

pub stop_rows : StopRows
stop_rows = record { before = refl; after = refl; later = refl; none = refl; changed = refl; same = refl }

pub line_rows : LineRows
unfolding moved_text escape digits encode_with
line_rows = record { made = refl; refused = refl; named = refl; back = refl; unknown = refl; interrupt = refl; trap = refl; accessed = refl; plain = refl; moved = refl }

pub accessed_rows : AccessedRows
accessed_rows = record { own = refl; delivery = refl; halted = refl }

pub use_rows : UseRows
unfolding slot_use
use_rows = record { occurrences = refl; slot = refl; other = refl; figures = refl }

pub use_text_rows : UseTextRows
unfolding part_text digits encode_with
use_text_rows = record { slot = refl; part = refl }
