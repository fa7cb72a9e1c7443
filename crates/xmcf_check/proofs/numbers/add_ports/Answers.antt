use Rattle.xmcf_check.proofs.NumberLemmas.{ports_begin}
use Rattle.std.proofs.Common.{arith}
use Rattle.xmcf_check.proofs.numbers.add_ports.Goals as goal

pub loop-left-init : goal.loop-left-init
loop-left-init c = (omega arith, ports_begin c.args.part c.args.ports.now c.args.numbers.now c.requires)
