use Rattle.fast_loop.proofs.TransferLemmas.{pair-IsTransferred}
use Rattle.fast_loop.proofs.moving.load_double.Goals as goal

pub returns-in-Ok-clause-moved : goal.returns-in-Ok-clause-moved
returns-in-Ok-clause-moved g c =
    pair-IsTransferred c.args.row.now.rd c.args.address c.in-Ok.value (g.B.Bus.areas c.args.bus.now) c.args.own.now c.set_pair.new.self (g.B.Bus.memory c.args.bus.now) (g.B.Bus.memory c.load.new.self) c.in-Ok.ensures.value c.set_pair.ensures c.in-Ok.ensures.memory
