use Rattle.system_state.proofs.FlipLemmas.{readable_there}
use Rattle.system_state.proofs.sys.upsets.flip.Goals as goal

pub flip_byte-requires-clause-readable : goal.flip_byte-requires-clause-readable
flip_byte-requires-clause-readable c = readable_there c.args.sys.now.machine c.args.p c.args.place c.args.bit c.in-Some.address c.requires.place c.in-Some.ensures
