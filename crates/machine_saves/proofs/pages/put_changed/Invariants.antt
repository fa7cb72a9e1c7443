use Rattle.std.proofs.Common.{◌≡◌, ◌-◌, ◌/◌, ◌++◌, length}
use Rattle.std.specs.List.{flat_map}
use Rattle.machine_saves.specs.lemmas.SaveTerms.{changed_from, page_text}
use Rattle.machine_saves.proofs.pages.put_changed.Given as goal

abbrev pub invariant-loop-number : goal.invariant-loop-number
invariant-loop-number l =
    l.out.items ++ flat_map page_text (changed_from l.loaded l.now l.start l.number (length l.now / 256 - l.number)) ≡ l.fn.out.items ++ flat_map page_text (changed_from l.loaded l.now l.start 0 (length l.now / 256))
