use Rattle.port_calls.proofs.TradeLemmas.{brings_queuing, put_read_done}
use Rattle.port_calls.specs.MadePorts.{table_in}
use Rattle.port_calls.proofs.traffic.send_from.Goals as goal

pub returns-in-Ok-clause-sent : goal.returns-in-Ok-clause-sent
returns-in-Ok-clause-sent c =
    put_read_done c.args.sys.now c.send_from.new.sys c.notify.new.sys c.args.chan 4 _ (c.in-Ok.ensures.sent c.args.sys.now.machine.time)
    (brings_queuing c.args.chan c.args.sys.now.machine.system.conf (table_in c.args.sys.now) c.requires.shapes c.requires.channel) c.notify.ensures
