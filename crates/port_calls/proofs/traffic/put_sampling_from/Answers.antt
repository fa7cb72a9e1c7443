use Rattle.port_calls.proofs.TradeLemmas.{brings_sampling, put_read_done}
use Rattle.port_calls.specs.MadePorts.{table_in}
use Rattle.port_calls.proofs.traffic.put_sampling_from.Goals as goal

pub returns : goal.returns
returns c =
    put_read_done c.args.sys.now c.put_sampling_from.new.sys c.notify.new.sys c.args.chan 3 _ c.put_sampling_from.ensures
    (brings_sampling c.args.chan c.args.sys.now.machine.system.conf (table_in c.args.sys.now) c.requires.shapes c.requires.channel) c.notify.ensures
