use Rattle.std.proofs.Common.{[], refl}
use Rattle.xm_commands.specs.lemmas.Replaying.{lone_output}
use Rattle.xm_commands.proofs.lone_core.write_lone_core.Goals as goal

pub returns-in-Ok : goal.returns-in-Ok
returns-in-Ok g c = λ got faults. rw c.in-Some.is (c.in-Ok.ensures got faults)

pub returns-in-Err : goal.returns-in-Err
returns-in-Err g c = λ got faults.
    let lost = c.in-Err.ensures got faults in
    rw c.in-Some.is (record { first = []; output = lone_output c.args.alone.now c.in-Some.file.now; rest = []; split = refl; named = refl; cause = lost.0; others = lost.1; outside = lost.2 })
