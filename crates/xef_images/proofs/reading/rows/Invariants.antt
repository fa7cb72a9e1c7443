use Rattle.std.proofs.Common.{◌≡◌, ◌-◌}
use Rattle.xef_images.specs.Reading.{rows_at}
use Rattle.xef_images.proofs.Fronts.{with_front}
use Rattle.xef_images.proofs.reading.rows.Given as goal

abbrev pub invariant-loop : goal.invariant-loop
invariant-loop l = with_front l.rows.items (rows_at (l.count - l.counter) l.floor l.cursor) ≡ rows_at l.count 0 l.fn.cursor
