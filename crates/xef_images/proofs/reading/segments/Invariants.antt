use Rattle.std.proofs.Common.{◌≡◌, drop}
use Rattle.xef_images.specs.Reading.{segments_at}
use Rattle.xef_images.proofs.Fronts.{with_front}
use Rattle.xef_images.proofs.reading.segments.Given as goal

abbrev pub invariant-loop-row : goal.invariant-loop-row
invariant-loop-row l = with_front l.segments.items (segments_at (drop l.row-index l.rows) l.cursor) ≡ segments_at l.rows l.fn.cursor
