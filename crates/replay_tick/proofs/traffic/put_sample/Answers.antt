use Rattle.xm_ports.specs.Channels.{IsSampling}
use Rattle.replay_tick.proofs.LoneTrafficLemmas.{fits_shape, kind_shape}
use Rattle.replay_tick.proofs.traffic.put_sample.Goals as goal

pub put_sampling-requires-clause-channel : goal.put_sampling-requires-clause-channel
put_sampling-requires-clause-channel c = kind_shape IsSampling c.args.sys.now.machine.system.conf c.args.sys.now.shapes c.args.chan c.requires.shapes c.requires.kind

pub put_sampling-requires-clause-bytes : goal.put_sampling-requires-clause-bytes
put_sampling-requires-clause-bytes c = fits_shape c.args.sys.now.machine.system.conf c.args.sys.now.shapes c.args.chan c.args.bytes.now c.requires.shapes c.requires.channel
