use Rattle.system_state.specs.State.{SysState}
use Rattle.system_state.proofs.ExchangeLemmas.{fits_kept, is_put}
use Rattle.system_state.proofs.InsideLemmas.{is_areas, is_in_memories}
use Rattle.system_state.proofs.sys.messages.put_sampling_from.Goals as goal

pub put_read-requires-clause-partition : goal.put_read-requires-clause-partition
put_read-requires-clause-partition c = is_in_memories c.sys.inside c.args.sys.now c.args.p c.sys.invariant c.sys.view_is c.requires.partition

pub put_read-requires-clause-readable : goal.put_read-requires-clause-readable
put_read-requires-clause-readable c =
    let areas = is_areas c.sys.inside c.args.sys.now c.args.p c.sys.invariant c.sys.view_is c.requires.partition in
    rw areas c.requires.readable

pub put_read-requires-clause-channel : goal.put_read-requires-clause-channel
put_read-requires-clause-channel c = rw (← c.sys.view_is) at c.requires.channel

pub put_read-requires-clause-bytes : goal.put_read-requires-clause-bytes
put_read-requires-clause-bytes c =
    fits_kept c.sys.inside c.args.sys.now c.args.p c.args.chan c.args.address c.args.size c.sys.invariant c.sys.view_is c.requires.partition c.requires.bytes

pub returns : goal.returns
returns c =
    is_put c.sys.inside c.args.sys.now c.args.p c.args.chan c.args.address c.args.size (λ (s : SysState). s.machine.time) c.put_read.new.channels c.sys.invariant c.sys.view_is c.requires.partition c.put_read.ensures
