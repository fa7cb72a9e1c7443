use Rattle.port_calls.proofs.TradeLemmas.{brings_queuing, put_done}
use Rattle.port_calls.specs.MadePorts.{table_in}
use Rattle.port_calls.proofs.traffic.send.Goals as goal

pub returns-in-Ok-clause-sent : goal.returns-in-Ok-clause-sent
returns-in-Ok-clause-sent c =
    put_done c.args.sys.now c.notify.new.sys c.channels_mut.result.now c.send.new.self c.args.chan 4 c.args.bytes.now c.channels_mut.ensures.contents c.channels_mut.ensures.shapes (c.in-Ok.ensures.sent c.args.sys.now.machine.time)
    (brings_queuing c.args.chan c.args.sys.now.machine.system.conf (table_in c.args.sys.now) c.requires.shapes c.requires.channel) c.notify.ensures
