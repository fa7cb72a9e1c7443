use Rattle.std.proofs.Common.{arith}
use Rattle.port_calls.proofs.LinkCallLemmas.{each_goes, none_past}
use Rattle.port_calls.proofs.link_calls.found_link.Goals as goal

pub returns-then-number-from-clause-goes : goal.returns-then-number-from-clause-goes
returns-then-number-from-clause-goes c = each_goes c.args.conf.now c.args.p c.args.number c.link_of.result c.raw.ensures.fits c.link_of.ensures.value

pub returns-else-number-from-clause-value : goal.returns-else-number-from-clause-value
returns-else-number-from-clause-value c = none_past c.args.conf.now c.args.p c.args.number c.raw.ensures.fits (omega (arith, c.if-number-from.false, c.from.ensures))
