use Rattle.std.proofs.Common.{◌≡◌, ◌-◌, length, take}
use Rattle.bin_config.specs.Reading as reading
use Rattle.bin_config.specs.lemmas.GivesTerms.{with_front}
use Rattle.bin_config.proofs.reading.fill.Given as goal

abbrev pub invariant-loop-n : goal.invariant-loop-n
invariant-loop-n l = with_front (take l.n l.places) (reading.elements_at reading.action_at (length l.places - l.n) l.cursor) ≡ reading.elements_at reading.action_at (length l.fn.places) l.fn.cursor
