use Rattle.file_commands.proofs.PackingLemmas.{more_to_read, none_to_read}
use Rattle.file_commands.proofs.reading.read_for_parts.Goals as goal

pub loop-next-init : goal.loop-next-init
loop-next-init g c = λ got faults all later before had. had

pub loop-next-preserved : goal.loop-next-preserved
loop-next-preserved g c = λ got faults all later before had.
    c.in-Ok.ensures got faults all _ before (more_to_read _ _ _ _ _ _ _ _ c.in-Some.ensures.value (c.loop-next.invariant got faults all later before had))

pub returns-in-Err : goal.returns-in-Err
returns-in-Err g c = λ got faults all later before had.
    c.in-Err.ensures got faults all _ before (more_to_read _ _ _ _ _ _ _ _ c.in-Some.ensures.value (c.loop-next.invariant got faults all later before had))

pub returns : goal.returns
returns g c = λ got faults all later before had. none_to_read _ _ _ _ _ _ c.in_default.ensures.value (c.loop-next.invariant got faults all later before had)
