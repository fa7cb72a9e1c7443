use Rattle.std.proofs.Common.{refl}
use Rattle.port_calls.proofs.TradeLemmas.{take_done}
use Rattle.port_calls.proofs.traffic.drop_first.Goals as goal

pub returns : goal.returns
returns c =
    take_done c.args.sys.now _ c.channels_mut.result.now c.drop_first.new.self c.args.chan c.channels_mut.ensures.contents c.channels_mut.ensures.shapes c.drop_first.ensures.dropped refl
