use Rattle.std.proofs.Common.{ℕ, List, Option, map, drop}
use Rattle.run_commands.specs.lemmas.Made.{made_output}
use Rattle.file_commands.specs.Work.{Outside, SavesAll, outside}
use Rattle.run_commands.proofs.making.write_made.Given as goal

abbrev pub invariant-loop-one : goal.invariant-loop-one
invariant-loop-one g l = (got : Option (List ℕ)) (faults : ℕ) (lost : Option (List ℕ)) (after : Outside)
    → SavesAll lost (map made_output (drop l.one-index l.made))
    (outside (g.S.Store.files l.files) (g.S.Store.read_faults l.files) (g.S.Store.write_faults l.files) (g.S.Store.calls l.files) got faults) after
    → SavesAll lost (map made_output l.made)
    (outside (g.S.Store.files l.fn.files) (g.S.Store.read_faults l.fn.files) (g.S.Store.write_faults l.fn.files) (g.S.Store.calls l.fn.files) got faults) after
