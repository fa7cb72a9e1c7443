use Rattle.std.proofs.Common.{◌≡◌, ◌-◌}
use Rattle.xm_base.specs.Cursor.{Place}
use Rattle.file_headers.specs.lemmas.GivesTerms.{GivesAt}
use Rattle.bin_config.specs.Reading.{Read, elements_at}
use Rattle.bin_config.specs.Gives.{Fails}
use Rattle.bin_config.specs.lemmas.GivesTerms.{with_front}
use Rattle.bin_config.proofs.reading.each.Given as goal

abbrev pub invariant-loop : goal.invariant-loop
invariant-loop g l =
    (read : Place → Read g.row.T.Denot) → ((old : _) (found : _) (new : _) → goal.F-post g l.element old found new → GivesAt Fails (λ value. value) found new.now (read old.now))
    → with_front l.elements.items (elements_at read (l.count - l.counter) l.cursor) ≡ elements_at read l.count l.fn.cursor
