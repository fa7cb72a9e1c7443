use Rattle.xm_container.proofs.LineLemmas.{unpacked_long}
use Rattle.xm_container.proofs.lines.list_lines.Goals as goal

pub stored_digest-requires : goal.stored_digest-requires
stored_digest-requires c = unpacked_long c.args.bytes.now c.args.system.now c.requires

pub entries_of-requires : goal.entries_of-requires
entries_of-requires c = (c.args.system.now, c.requires)
