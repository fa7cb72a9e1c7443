use Rattle.std.proofs.Common.{sym}
use Rattle.xm_ports.proofs.PortLemmas.{port_with_found}
use Rattle.xm_ports.proofs.ports.port_with.Goals as goal

pub returns-in-Some-clause-found : goal.returns-in-Some-clause-found
returns-in-Some-clause-found c = port_with_found c.args.name.now c.args.kind c.args.ports.now c.in-Some.port (sym c.in-Some.ensures.value)
