use Rattle.std.proofs.Common.{arith}
use Rattle.port_calls.proofs.PortMakingLemmas.{name_none, name_whole}
use Rattle.port_calls.proofs.port_making.name_in.Goals as goal

pub returns-then-count-bytes : goal.returns-then-count-bytes
returns-then-count-bytes c = rw c.text_length-count.ensures (name_whole c.args.bytes.now (omega (arith, c.if-count-bytes.true, c.text_length-count.ensures)))

pub returns-else-count-bytes : goal.returns-else-count-bytes
returns-else-count-bytes c = name_none c.args.bytes.now (omega (arith, c.if-count-bytes.false, c.text_length-count.ensures))
