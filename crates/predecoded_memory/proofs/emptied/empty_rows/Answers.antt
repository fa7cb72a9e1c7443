use Rattle.std.proofs.Common.{◌+◌}
use Rattle.predecoded_memory.proofs.EmptiedLemmas.{then_emptied}
use Rattle.predecoded_memory.proofs.emptied.empty_rows.Goals as goal

pub returns-then-count-gt0 : goal.returns-then-count-gt0
returns-then-count-gt0 c =
    then_emptied c.args.begin (c.args.begin + c.args.count) c.args.rows.now c.empty_before.new.rows c.empty_from.new.rows c.empty_before.ensures c.empty_from.ensures
