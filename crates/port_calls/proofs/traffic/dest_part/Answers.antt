use Rattle.port_calls.proofs.EndLemmas.{dest_within}
use Rattle.port_calls.proofs.traffic.dest_part.Goals as goal

pub returns-clause-there : goal.returns-clause-there
returns-clause-there c =
    let fits = rw c.conf.ensures.value at c.dests.ensures.fits in
    rw (c.dests.ensures.value, c.conf.ensures.value, c.count-count.ensures.parts)
    (dest_within c.args.sys.now.machine.system.conf c.args.chan c.args.k _ fits c.requires)
