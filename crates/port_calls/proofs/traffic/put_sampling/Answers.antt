use Rattle.port_calls.proofs.TradeLemmas.{brings_sampling, put_done}
use Rattle.port_calls.specs.MadePorts.{table_in}
use Rattle.port_calls.proofs.traffic.put_sampling.Goals as goal

pub returns : goal.returns
returns c =
    let kept = rw c.now-now.ensures.value at c.put_sampling.ensures.put in
    put_done c.args.sys.now c.notify.new.sys c.channels_mut.result.now c.put_sampling.new.self c.args.chan 3 c.args.bytes.now c.channels_mut.ensures.contents c.channels_mut.ensures.shapes kept
    (brings_sampling c.args.chan c.args.sys.now.machine.system.conf (table_in c.args.sys.now) c.requires.shapes c.requires.channel) c.notify.ensures
