use Rattle.system_state.proofs.FlipLemmas.{is_flipped}
use Rattle.system_state.proofs.InsideLemmas.{is_areas, is_in_memories}
use Rattle.system_state.proofs.sys.upsets.flip_byte.Goals as goal

pub flip-requires-clause-partition : goal.flip-requires-clause-partition
flip-requires-clause-partition c = is_in_memories c.sys.inside c.args.sys.now c.args.p c.sys.invariant c.sys.view_is c.requires.partition

pub flip-requires-clause-readable : goal.flip-requires-clause-readable
flip-requires-clause-readable c =
    let areas = is_areas c.sys.inside c.args.sys.now c.args.p c.sys.invariant c.sys.view_is c.requires.partition in
    rw areas c.requires.readable

pub returns : goal.returns
returns c = is_flipped c.sys.inside c.args.sys.now c.args.p c.args.address c.args.bit c.flip.new.self c.sys.invariant c.sys.view_is c.requires.partition c.flip.ensures.value
