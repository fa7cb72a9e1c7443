use Rattle.std.proofs.Common.{refl, sym, ◌∙◌}
use Rattle.file_commands.specs.EndingValues.{vector_bytes, ending_of}
use Rattle.file_commands.proofs.PackingLemmas.{chose_ok, has_more, has_next, map_push, not_more, memory_there}
use Rattle.file_commands.proofs.reading.read_next.Goals as goal

pub returns-in-Err : goal.returns-in-Err
returns-in-Err g c = λ got faults all rest before had. not_more (ending_of c.in-Err.ending) _ _ _ _ _ _ _ had (c.in-Err.ensures got faults)

pub returns-then-is_err : goal.returns-then-is_err
returns-then-is_err g c = λ got faults all rest before had. memory_there _ _ _ _ _ (has_more _ _ _ _ _ _ _ _ had (c.in-Ok.ensures got faults).0 (c.in-Ok.ensures got faults).1)

pub returns : goal.returns
returns g c = λ got faults all rest before had.
    let read = c.in-Ok.ensures got faults in
    let pushed = chose_ok c.push.result _ _ _ (sym c.is_err.ensures.value ∙ c.if-is_err.false) c.push.ensures.items in
    has_next _ _ _ _ _ _ _ _ _ _ had read.0 read.1 refl (map_push vector_bytes _ _ _ pushed)
