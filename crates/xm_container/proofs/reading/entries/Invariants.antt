use Rattle.std.proofs.Common.{◌≡◌, ◌-◌}
use Rattle.xm_container.specs.Reading.{image_entries_at}
use Rattle.xm_container.proofs.Fronts.{with_front}
use Rattle.xm_container.proofs.reading.entries.Given as goal

abbrev pub invariant-loop : goal.invariant-loop
invariant-loop l = with_front l.ids.items l.images.items (image_entries_at (l.count - l.counter) l.floor l.cursor) ≡ image_entries_at l.count 0 l.fn.cursor
