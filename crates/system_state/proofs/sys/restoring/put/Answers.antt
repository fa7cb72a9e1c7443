use Rattle.system_state.proofs.InsideLemmas.{is_areas, is_copied, is_in_memories}
use Rattle.system_state.proofs.sys.restoring.put.Goals as goal

pub put-requires-clause-partition : goal.put-requires-clause-partition
put-requires-clause-partition c = is_in_memories c.sys.inside c.args.sys.now c.args.p c.sys.invariant c.sys.view_is c.requires.partition

pub put-requires-clause-readable : goal.put-requires-clause-readable
put-requires-clause-readable c =
    let areas = is_areas c.sys.inside c.args.sys.now c.args.p c.sys.invariant c.sys.view_is c.requires.partition in
    rw areas c.requires.readable

pub returns : goal.returns
returns c = is_copied c.sys.inside c.args.sys.now c.args.p c.args.address c.args.bytes.now c.put.new.self c.sys.invariant c.sys.view_is c.requires.partition c.put.ensures.value
