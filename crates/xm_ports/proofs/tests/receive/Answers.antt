use Rattle.std.proofs.Common.{length, ◌≤◌, arith}
use Rattle.std.proofs.lemmas.Option.{IfSome_then}
use Rattle.xm_ports.specs.Channels.{first_message, content_at}
use Rattle.xm_ports.proofs.TableLemmas.{first_fits}
use Rattle.xm_ports.proofs.tests.receive.Goals as goal

pub receive-count-requires-clause-room : goal.receive-count-requires-clause-room
receive-count-requires-clause-room c =
    let fits = rw c.requires.tried at (first_fits c.args.channels.now 1 c.first.ensures.kept) in
    IfSome_then (first_message (content_at 1 c.args.channels.now)) fits
    (λ first is. let room : length first ≤ 8 = is.fit in omega (arith, room, c.requires.room))
