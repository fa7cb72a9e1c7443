use Rattle.system_state.specs.State.{SysState}
use Rattle.system_state.proofs.ExchangeLemmas.{fits_kept, is_put}
use Rattle.system_state.proofs.InsideLemmas.{is_areas, is_in_memories, on_ok}
use Rattle.system_state.proofs.sys.messages.send_from.Goals as goal

pub send_read-requires-clause-partition : goal.send_read-requires-clause-partition
send_read-requires-clause-partition c = is_in_memories c.sys.inside c.args.sys.now c.args.p c.sys.invariant c.sys.view_is c.requires.partition

pub send_read-requires-clause-readable : goal.send_read-requires-clause-readable
send_read-requires-clause-readable c =
    let areas = is_areas c.sys.inside c.args.sys.now c.args.p c.sys.invariant c.sys.view_is c.requires.partition in
    rw areas c.requires.readable

pub send_read-requires-clause-channel : goal.send_read-requires-clause-channel
send_read-requires-clause-channel c = rw (← c.sys.view_is) at c.requires.channel

pub send_read-requires-clause-bytes : goal.send_read-requires-clause-bytes
send_read-requires-clause-bytes c =
    fits_kept c.sys.inside c.args.sys.now c.args.p c.args.chan c.args.address c.args.size c.sys.invariant c.sys.view_is c.requires.partition c.requires.bytes

pub returns-clause-full : goal.returns-clause-full
returns-clause-full c = rw (← c.sys.view_is) c.send_read.ensures.full

pub returns-clause-sent : goal.returns-clause-sent
returns-clause-sent c =
    on_ok c.send_read.result _ _ (λ sent. λ now. is_put c.sys.inside c.args.sys.now c.args.p c.args.chan c.args.address c.args.size (λ (s : SysState). now) c.send_read.new.channels c.sys.invariant c.sys.view_is c.requires.partition (sent now)) c.send_read.ensures.sent
